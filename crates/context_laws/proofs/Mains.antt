-- Links beside each other have main in one untrusted part, or both in trusted ones.
use Rattle.std.proofs.Common.{◌≡◌, inl, inr, ℕ, List, Bool, true, false, Option, Some, None, refl, sym, ap}
use Rattle.std.proofs.Common.{◌∙◌, subst, arith}
use Rattle.std.specs.Prelude.{slice_get, find, is_some, option_map, if◌then◌else◌}
use Rattle.std.proofs.lemmas.Bool.{cases_lt}
use Rattle.cap_words.specs.Face.{face_of}
use Rattle.cap_words.specs.declared.CapFields.{CapFields}
use Rattle.cap_words.specs.declared.Word.TheVariants.{Mem}
use Rattle.cap_words.specs.declared.Perm.TheVariants.{Rx, Rwx}
use Rattle.lcm_machine.specs.Row.{faces}
use Rattle.component_file.specs.declared.component.Export.{Export}
use Rattle.call_sequence.specs.Holds.{code_at}
use Rattle.linked_starts.specs.Parts.{PartSeen}
use Rattle.linked_starts.specs.Standing.{placed}
use Rattle.linked_starts.specs.Links.{has_main}
use Rattle.linked_starts.specs.Start.{Exported, main_of, is_main, export_that, exported_by, start_regs}
use Rattle.linked_starts.specs.Start.{code_of}
use Rattle.linked_starts.specs.declared.owners.Owner.{Owner}
use Rattle.linked_starts.proofs.Offers.{given}
use Rattle.trusted_border.specs.Layout.{runs_part, trusted_owner}
use Rattle.overlay_machine.specs.declared.words.OWord.TheVariants.{Plain}
use Rattle.overlay_machine.specs.Words.{look}
use Rattle.overlay_machine.specs.Link.{IsUntrusted, ranges_of}
use Rattle.overlay_machine.specs.Linked.{any_pc}
use Rattle.overlay_machine.specs.Starting.{StartsBegin}
use Rattle.overlay_machine.proofs.Offers.{any_is, found_is, index_of, listed_at, crossing_code_is as code_is}
use Rattle.run_lines.specs.Layout.{layout}
use Rattle.template_runs.specs.Runs.{is_inside}
use Rattle.source_starts.specs.Links.{Linking, overlay_link, first_state}
use Rattle.source_starts.specs.Sources.{LinkedStart}
use Rattle.source_starts.proofs.Offers.{one_main}
use Rattle.context_laws.specs.Sources.{AreBeside, Beside, SameMain}
use Rattle.context_laws.proofs.Sources.{linked_is}

-- the part of main
record MainAt (parts : List PartSeen) (m : Exported) : Type 0 where
  pub index : ℕ
  pub at : slice_get parts index ≡ Some m.part
  pub found : export_that is_main m.part ≡ Some m
  pub has : has_main m.part ≡ true

main_at : (parts : List PartSeen) (m : Exported) → main_of parts ≡ Some m → MainAt parts m
main_at parts m e =
    let g = given (export_that is_main) parts m e in
    by g.index g.item (find is_main g.item.component.exports) refl g.at g.is
  where
    by : (k : ℕ) (p : PartSeen) (o : Option Export) → find is_main p.component.exports ≡ o
        → slice_get parts k ≡ Some p → option_map (exported_by p) o ≡ Some m → MainAt parts m
    by k p None f at i = absurd cc
    by k p (Some x) f at i =
        let same : exported_by p x ≡ m = cc in
        let it = found_is is_main p.component.exports x f in
        subst (MainAt parts) same (record {
          index = k;
          at = at;
          found = ap (option_map (exported_by p)) f;
          has = any_is is_main p.component.exports x it.0 it.1;
        })

module _ (a b : LinkedStart) (beside : AreBeside (overlay_link a.link) (overlay_link b.link)) where
  abbrev P : List PartSeen
  P = placed a.parts a.size

  abbrev Q : List PartSeen
  Q = placed b.parts b.size

  -- where main is untrusted, it is the other's too
  main_too : (m : Exported) → main_of P ≡ Some m → m.part.trusted ≡ false → main_of Q ≡ Some m
  main_too m e u =
      let k = main_at P m e in
      let there = index_of Q m.part ((beside m.part).0 (listed_at P k.index m.part k.at, u)).0 in
      let n = b.is_start.starts.state.main in
      let l = main_at Q n b.is_start.starts.state.main_is in
      let one = by_place there.0 l.index n.part m there.1 k.has l.at l.has in
      let same : Some m ≡ Some n =
      sym k.found ∙ ap (export_that is_main) (sym one) ∙ l.found in
      b.is_start.starts.state.main_is ∙ sym same
    where
      by_place : (i j : ℕ) (q : PartSeen) (m : Exported) → slice_get Q i ≡ Some m.part
          → has_main m.part ≡ true → slice_get Q j ≡ Some q → has_main q ≡ true
          → q ≡ m.part
      by_place i j q m at has at' has' = elim (cases_lt i j) as (λ _. q ≡ m.part) [
        | inl lt ↦ absurd (one_main Q b.size b.is_start.rules i j m.part q lt at at' has has')
        | inr ge ↦ elim (cases_lt j i) as (λ _. q ≡ m.part) [
          | inl lt ↦ absurd (one_main Q b.size b.is_start.rules j i q m.part lt at' at has' has)
          | inr le ↦ (let k : j ≡ i = omega (arith, ge, le) in
              let z : Some q ≡ Some m.part = sym at' ∙ ap (slice_get Q) k ∙ at in cc)
        ]
      ]

  -- so both have one main, where it is untrusted in the one
  same_main : a.is_start.starts.state.main.part.trusted ≡ false → SameMain a.link b.link
  same_main u =
      a.is_start.starts.state.main_is
      ∙ sym (main_too a.is_start.starts.state.main a.is_start.starts.state.main_is u)

-- its code may be written
writes : (m : Exported) → m.part.trusted ≡ false → (code_of m).perm ≡ Rx → ⊥
writes m u e = let k : (if m.part.trusted then Rx else Rwx) ≡ Rwx = rw u refl in cc

pub beside_back : (a b : Linking) → Beside a b → Beside b a
beside_back a b beside = record {
  one_size = sym beside.one_size;
  same_parts = λ p. ((beside.same_parts p).1, (beside.same_parts p).0);
}

module _ (begin : StartsBegin) where
  -- where main is trusted, so is the code that runs first
  main_inside : (a : LinkedStart) → a.is_start.starts.state.main.part.trusted ≡ true
      → is_inside (layout a.start) (first_state a.link) ≡ true
  unfolding faces start_regs
  main_inside a t =
      let m = a.is_start.starts.state.main in
      let k = main_at (placed a.parts a.size) m a.is_start.starts.state.main_is in
      let c = code_at (ranges_of m.part) m.export.offset in
      let pc : a.start.state.maps.regs.pc ≡ Mem (any_pc m.part c.addr) =
      ap (λ rs. rs.pc) a.is_start.starts.state.regs ∙ ap Mem (code_is m t) in
      ap (λ w. is_some (trusted_owner (layout a.start) (face_of (look (Plain w))))) pc
      ∙ (linked_is begin a).owned m.part c.addr
      (listed_at (placed a.parts a.size) k.index m.part k.at, t)

  -- and where it is untrusted, so is that
  main_outside : (a : LinkedStart) → a.is_start.starts.state.main.part.trusted ≡ false
      → is_inside (layout a.start) (first_state a.link) ≡ false
  unfolding faces start_regs
  main_outside a u =
      let pc : a.start.state.maps.regs.pc ≡ Mem (code_of a.is_start.starts.state.main) =
      ap (λ rs. rs.pc) a.is_start.starts.state.regs in
      ap (λ w. is_some (trusted_owner (layout a.start) (face_of (look (Plain w))))) pc
      ∙ by a.is_start.starts.state.main u
      (find (runs_part (code_of a.is_start.starts.state.main)) a.start.owners) refl
    where
      by : (m : Exported) → m.part.trusted ≡ false → (o : Option Owner)
          → find (runs_part (code_of m)) a.start.owners ≡ o → is_some o ≡ false
      by m v None f = refl
      by m v (Some o) f =
          absurd (let x = (linked_is begin a).owners (code_of m) o f
          in writes m v (ap (λ (c : CapFields). c.perm) x.2))

  main_first : (a : LinkedStart)
      → is_inside (layout a.start) (first_state a.link) ≡ a.is_start.starts.state.main.part.trusted
  main_first a = by a.is_start.starts.state.main.part.trusted refl
    where
      by : (b : Bool) → a.is_start.starts.state.main.part.trusted ≡ b
          → is_inside (layout a.start) (first_state a.link) ≡ a.is_start.starts.state.main.part.trusted
      by true t = main_inside a t ∙ sym t
      by false t = main_outside a t ∙ sym t

  -- where code outside runs first, main's part is untrusted
  pub main_part : (a : LinkedStart) → is_inside (layout a.start) (first_state a.link) ≡ false
      → IsUntrusted (overlay_link a.link) a.is_start.starts.state.main.part
  main_part a io =
      let parts = placed a.parts a.size in
      let k = main_at parts a.is_start.starts.state.main a.is_start.starts.state.main_is in
      (listed_at parts k.index a.is_start.starts.state.main.part k.at, sym (main_first a) ∙ io)

  module _ (a b : LinkedStart) (beside : Beside a.link b.link) where
    -- where code outside runs first in the one, both have one main
    pub outside_main : is_inside (layout a.start) (first_state a.link) ≡ false → SameMain a.link b.link
    outside_main io = same_main a b beside.same_parts (sym (main_first a) ∙ io)

    one_mark : SameMain a.link b.link
        → a.is_start.starts.state.main.part.trusted ≡ b.is_start.starts.state.main.part.trusted
    one_mark e =
        let k : Some a.is_start.starts.state.main ≡ Some b.is_start.starts.state.main =
        sym a.is_start.starts.state.main_is ∙ e ∙ b.is_start.starts.state.main_is in
        let same : a.is_start.starts.state.main ≡ b.is_start.starts.state.main = cc in
        ap (λ (m : Exported). m.part.trusted) same

    -- code outside runs first in both or in neither
    pub same_first :
        is_inside (layout a.start) (first_state a.link) ≡ is_inside (layout b.start) (first_state b.link)
    same_first =
        main_first a
        ∙ by a.is_start.starts.state.main.part.trusted b.is_start.starts.state.main.part.trusted refl refl
        ∙ sym (main_first b)
      where
        by : (c d : Bool) → a.is_start.starts.state.main.part.trusted ≡ c
            → b.is_start.starts.state.main.part.trusted ≡ d
            → a.is_start.starts.state.main.part.trusted ≡ b.is_start.starts.state.main.part.trusted
        by true true t u = t ∙ sym u
        by false d t u = one_mark (same_main a b beside.same_parts t)
        by true false t u = one_mark (sym (same_main b a (beside_back a.link b.link beside).same_parts u))
