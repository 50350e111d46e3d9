-- No word of a start lets trusted parts' code be written, so it stays as it is.
use Rattle.std.proofs.Common.{◌≡◌, inl, inr, ℕ, ◌≤◌, Bool, true, false, List, length, Option, Some, None}
use Rattle.std.proofs.Common.{refl, sym, ap, subst, ◌∙◌, arith, eqb-true}
use Rattle.std.specs.Prelude.{slice_get, not, ◌&&◌, is_some, IsTrue, if◌then◌else◌}
use Rattle.std.specs.List.{Contains, list_any}
use Rattle.std.proofs.lemmas.Bool.{and_parts}
use Rattle.std.proofs.lemmas.Option.{slice_get_within}
use Rattle.cap_words.specs.declared.CapFields.{CapFields}
use Rattle.cap_words.specs.declared.Perm.TheVariants.{Rx, Rwx}
use Rattle.cap_words.specs.declared.Word.{Word}
use Rattle.cap_words.specs.declared.Word.TheVariants.{Int, Mem, Seal, Sealed}
use Rattle.cap_words.specs.Faces.{may_write}
use Rattle.component_check.specs.Rules.{c10, c12, code_at, has_sites, holds_of, is_at, is_no_int}
use Rattle.component_check.specs.Rules.{is_over_seals, rules_c}
use Rattle.component_check.specs.Verdict.{rule}
use Rattle.lcm_isa.specs.declared.Reg.{Reg}
use Rattle.lcm_isa.specs.declared.Reg.TheVariants.{Pc, Rcode, Rdata, Stk, Dat, T1, T2, C1, C2, A0, A1, A2, A3}
use Rattle.lcm_isa.specs.declared.Reg.TheVariants.{G0, G1, G2}
use Rattle.lcm_machine.specs.Maps.{Regs}
use Rattle.lcm_machine.specs.Places.{reg}
use Rattle.lcm_machine.specs.Regions.{Region}
use Rattle.linked_starts.specs.Parts.{PartSeen, IsPart, rules_of}
use Rattle.linked_starts.specs.Regions.{code_span, region, in_regions, stack_span, is_stack_size}
use Rattle.linked_starts.specs.Start.{Exported, code_of, data_of, stack_of, start_regs, stack_base_of}
use Rattle.linked_starts.specs.Start.{start_cell}
use Rattle.linked_starts.specs.Started.{StartSeen}
use Rattle.linked_starts.specs.LinkedStarts.{IsLinkedStart}
use Rattle.linked_starts.proofs.Offers.{CellIs, of_code, of_data, of_slot, of_none, cell_is, main_is_there}
use Rattle.linked_starts.proofs.Offers.{OwnCap, over_code, over_data, over_linear, OwnWord}
use Rattle.linked_starts.proofs.Offers.{own_code as own_code_word, own_data as own_data_word, data_number}
use Rattle.linked_starts.proofs.Offers.{are_linked, stack_is, in_stretch, whole, listed_at}
use Rattle.overlay_machine.specs.Link.{Link, IsTrusted, IsUntrusted, IsUsable, own_code, own_data, own_linear}
use Rattle.overlay_machine.specs.Link.{the_stack, code_region, data_region, stack_region}
use Rattle.overlay_machine.specs.Linked.{IsLink}
use Rattle.overlay_machine.proofs.Offers.{any_is, any_of}
use Rattle.authority_report.specs.Within.{Authority, CapWithin, IsWithin}
use Rattle.authority_report.specs.Bounds.{IsBounded}
use Rattle.confinement.specs.Confined.{InCode}
use Rattle.confinement.proofs.Areas.{region_no_code, unbroken, usable_no_code}

-- ---- a trusted part's code has no memory capability

-- C10: but for one offset, where a literal stands, its words are integers
literal_there : (p : PartSeen) → IsPart p → p.trusted ≡ true → (o : ℕ) (w : Word)
    → slice_get p.component.code o ≡ Some w → is_no_int w ≡ true → is_at p.component.literal_at o ≡ true
unfolding c10
literal_there p h trusted o w e kind =
    let fine : (holds_of is_no_int (slice_get p.component.code o) && not (is_at p.component.literal_at o))
    ≡ false =
    unbroken p h 10 o (c10 p.component) (ap (λ b. rule (rules_c p.component b) 10) trusted)
    (slice_get_within p.component.code o w e) in
    by_test (is_at p.component.literal_at o)
    (sym (ap (λ b. b && not (is_at p.component.literal_at o)) (ap (holds_of is_no_int) e ∙ kind)) ∙ fine)
  where
    by_test : (b : Bool) → (true && not b) ≡ false → b ≡ true
    by_test true q = refl
    by_test false q = cc

-- C12: there is a literal only with sites, and it is a seal capability
literal_seals : (p : PartSeen) → IsPart p → p.trusted ≡ true → is_some p.component.literal_at ≡ true
    → is_over_seals p.component (code_at p.component p.component.literal_at) ≡ true
unfolding c12
literal_seals p h trusted there =
    let twelfth : rule (rules_of p) 12 ≡ Some (c12 p.component) =
    ap (λ b. rule (rules_c p.component b) 12) trusted in
    by_sites (has_sites p.component) (is_over_seals p.component
    (code_at p.component p.component.literal_at))
    (unbroken p h 12 3 (c12 p.component) twelfth (omega arith))
    (sym (ap (λ b. not (has_sites p.component) && b) there)
    ∙ unbroken p h 12 4 (c12 p.component) twelfth (omega arith))
  where
    by_sites : (a b : Bool) → (a && not b) ≡ false → (not a && true) ≡ false → b ≡ true
    by_sites true true e f = refl
    by_sites true false e f = cc
    by_sites false b e f = cc

no_capability : (p : PartSeen) → IsPart p → p.trusted ≡ true → (o : ℕ) (c : CapFields)
    → slice_get p.component.code o ≡ Some (Mem c) → ⊥
no_capability p h trusted o c e =
    by_place p.component.literal_at refl (literal_there p h trusted o (Mem c) e refl)
  where
    by_place : (x : Option ℕ) → p.component.literal_at ≡ x → is_at x o ≡ true → ⊥
    by_place None q t = cc
    by_place (Some i) q t =
        let same : i ≡ o = eqb-true i o t in
        let seals = literal_seals p h trusted (ap is_some q) in
        let bad : false ≡ true =
        sym (ap (is_over_seals p.component) (ap (code_at p.component) q ∙ ap
        (slice_get p.component.code) same ∙ e))
        ∙ seals in
        cc

-- ---- what may be written: all but the code of trusted parts

abbrev pub is_trusted_code : List PartSeen → ℕ → Bool
is_trusted_code parts a =
    list_any (λ (p : PartSeen). p.trusted && in_regions a (region false (code_span p))) parts

abbrev pub all_but_code : List PartSeen → Authority
all_but_code parts = record {
  read = λ a. true;
  write = λ a. not (is_trusted_code parts a);
  run = λ a. true;
  seal = λ n. true;
  own = λ n. true;
}

pub code_unwritten : (parts : List PartSeen) (p : PartSeen) (a : ℕ) → Contains parts p → p.trusted ≡ true
    → InCode p a → (all_but_code parts).write a ≡ false
code_unwritten parts p a there trusted inside =
    ap not (any_is
    (λ (q : PartSeen). q.trusted && in_regions a (region false (code_span q))) parts p there
    (rw (trusted, inside) refl))

may_be_written : (parts : List PartSeen) (a : ℕ)
    → ((p : PartSeen) → Contains parts p × (p.trusted ≡ true) → ¬ (InCode p a))
    → (all_but_code parts).write a ≡ true
may_be_written parts a none = by_test (is_trusted_code parts a) refl
  where
    by_test : (b : Bool) → is_trusted_code parts a ≡ b → not b ≡ true
    by_test false e = refl
    by_test true e =
        let x = any_of
        (λ (q : PartSeen). q.trusted && in_regions a (region false (code_span q))) parts e in
        let k = and_parts _ _ x.2 in
        absurd (none x.0 (x.1, k.0) k.1)

module _ (g : Link) (linked : IsLink g) where
  abbrev auth : Authority
  auth = all_but_code g.parts

  -- ---- capabilities

  -- over a region that is no trusted part's code
  cap_within : (area : Region) (c : CapFields)
      → ((a : ℕ) → area.base ≤ a → a ≤ area.end → (p : PartSeen) → IsTrusted g p → ¬ (InCode p a))
      → area.base ≤ c.base → c.end ≤ area.end → CapWithin auth c
  cap_within area c other low high = record {
    read = λ may a l u. refl;
    write = λ may a l u.
        may_be_written g.parts a (other a (omega (arith, low, l)) (omega (arith, high, u)));
    run = λ may a l u. refl;
  }

  usable_within : (area : Region) (runs : Bool) (c : CapFields) → IsUsable g area runs → area.base ≤ c.base
      → c.end ≤ area.end → CapWithin auth c
  usable_within area runs c u low high =
      cap_within area c (λ a l h. usable_no_code g linked area runs u a l h) low high

  -- one that may not be written with
  unwriting : (c : CapFields) → may_write c.perm ≡ false → CapWithin auth c
  unwriting c e = record {
    read = λ may a l u. refl;
    write = λ may a l u. (let bad : false ≡ true = sym e ∙ may in cc);
    run = λ may a l u. refl;
  }

  code_usable : (p : PartSeen) → IsUntrusted g p → IsUsable g (code_region p) true
  code_usable p u =
      own_code p (code_region p)
      u (in_stretch p.component.code_base (length p.component.code)
      false (linked.parts p u.0).limits.code.0.0)

  data_usable : (p : PartSeen) → IsUntrusted g p → IsUsable g (data_region p) false
  data_usable p u =
      own_data p (data_region p)
      u (in_stretch p.component.data_base (length p.component.data_words)
      false (linked.parts p u.0).limits.data_words.0.0)

  own_cap : (p : PartSeen) (c : CapFields) → IsUntrusted g p → c.base ≤ c.end → OwnCap p.component c
      → CapWithin auth c
  own_cap p c u order (over_code lin h) =
      let high = h.1 in usable_within (code_region p) true c (code_usable p u) h.0 (omega (arith, high))
  own_cap p c u order (over_data lin run h) =
      let high = h.1 in usable_within (data_region p) false c (data_usable p u) h.0 (omega (arith, high))
  own_cap p c u order (over_linear lin run h) =
      let low = h.0 in
      let high = h.1 in
      usable_within (whole p.component.linear.base p.component.linear.count true) false c
      (own_linear p (whole p.component.linear.base p.component.linear.count true)
      u (in_stretch p.component.linear.base p.component.linear.count true
      (omega (arith, low, high, order))))
      low (omega (arith, high))

  own_word : (p : PartSeen) (w : Word) → IsUntrusted g p → OwnWord p.component w → IsWithin auth w
  own_word p (Int z) u h = tt
  own_word p (Mem c) u h = own_cap p c u h.0 h.1
  own_word p (Seal q) u h = λ n low high. refl
  own_word p (Sealed o x) u h = absurd h

  -- ---- the halves of an export

  code_within : (x : Exported) → Contains g.parts x.part → CapWithin auth (code_of x)
  code_within x there = by_mark x.part.trusted refl
    where
      by_mark : (b : Bool) → x.part.trusted ≡ b → CapWithin auth (code_of x)
      by_mark true t = unwriting (code_of x) (ap (λ b. may_write (if b then Rx else Rwx)) t)
      by_mark false t =
          usable_within (code_region x.part) true (code_of x) (code_usable x.part (there, t)) (omega arith)
          (omega arith)

  data_within : (p : PartSeen) → Contains g.parts p → CapWithin auth (data_of p)
  data_within p there = by_mark p.trusted refl
    where
      by_mark : (b : Bool) → p.trusted ≡ b → CapWithin auth (data_of p)
      by_mark true t =
          cap_within (data_region p) (data_of p)
          (λ a low high. region_no_code g linked (data_region p) a (linked.data_there p (there, t)) low high
          (λ q iq. linked.data_not_code p q (there, t) iq)) (omega arith) (omega arith)
      by_mark false t =
          usable_within (data_region p) false (data_of p) (data_usable p (there, t)) (omega arith)
          (omega arith)

  -- ---- cells

  trusted_word : (p : PartSeen) → IsTrusted g p → (o : ℕ) (w : Word) → slice_get p.component.code o ≡ Some w
      → IsWithin auth w
  trusted_word p ip o (Int z) e = tt
  trusted_word p ip o (Mem c) e = absurd (no_capability p (linked.parts p ip.0) ip.1 o c e)
  trusted_word p ip o (Seal q) e = λ n low high. refl
  trusted_word p ip o (Sealed n x) e = absurd (own_code_word p (linked.parts p ip.0) o (Sealed n x) e)

  cell_within : (size a : ℕ) (w : Word) → start_cell g.parts size a ≡ Some w
      → IsWithin auth w
  cell_within size a w e = by_cell (cell_is g.parts size a w e)
    where
      in_code : (b : Bool) (k o : ℕ) (p : PartSeen) → p.trusted ≡ b → slice_get g.parts k ≡ Some p
          → slice_get p.component.code o ≡ Some w → IsWithin auth w
      in_code true k o p t at word = trusted_word p (listed_at g.parts k p at, t) o w word
      in_code false k o p t at word = let m = listed_at g.parts k p at in
          own_word p w (m, t) (own_code_word p (linked.parts p m) o w word)

      in_data : (b : Bool) (k o : ℕ) (p : PartSeen) → p.trusted ≡ b → slice_get g.parts k ≡ Some p
          → slice_get p.component.data_words o ≡ Some w → IsWithin auth w
      in_data true k o p t at word =
          let z = data_number p (linked.parts p (listed_at g.parts k p at)) t o w word in
          subst (IsWithin auth) (sym z.1) tt
      in_data false k o p t at word = let m = listed_at g.parts k p at in
          own_word p w (m, t) (own_data_word p (linked.parts p m) o w word)

      by_cell : CellIs g.parts a w → IsWithin auth w
      by_cell (of_code k o p at word here) = in_code p.trusted k o p refl at word
      by_cell (of_data k o p at word here) = in_data p.trusted k o p refl at word
      by_cell (of_slot x is (inl h)) =
          subst (IsWithin auth) (sym h) (λ own. code_within x (listed_at g.parts is.index x.part is.at))
      by_cell (of_slot x is (inr h)) =
          subst (IsWithin auth) (sym h) (λ own. data_within x.part
          (listed_at g.parts is.index x.part is.at))
      by_cell (of_none h) = subst (IsWithin auth) (sym h) tt

  -- ---- registers

  stack_within : IsTrue (is_stack_size g.size)
      → CapWithin auth (stack_of (stack_base_of g.parts) g.size)
  stack_within fits =
      let there : Contains (region true (stack_span g.parts g.size)) (stack_region g.layout) =
      subst (λ x. Contains (region true x) (stack_region g.layout)) (sym linked.stack)
      (0, omega arith, refl) in
      let same = stack_is g.parts g.size (stack_region g.layout) fits there in
      let low = ap (λ (r : Region). r.base) same in
      let high = ap (λ (r : Region). r.end) same in
      usable_within (stack_region g.layout) false (stack_of (stack_base_of g.parts) g.size) the_stack
      (omega (arith, low)) (omega (arith, high))

  regs_within : (main : Exported) → Contains g.parts main.part
      → IsTrue (is_stack_size g.size) → (r : Reg)
      → IsWithin auth (reg (start_regs g.parts g.size main) r)
  unfolding start_regs
  regs_within main there fits Pc = code_within main there
  regs_within main there fits Dat = data_within main.part there
  regs_within main there fits Stk = stack_within fits
  regs_within main there fits Rcode = tt
  regs_within main there fits Rdata = tt
  regs_within main there fits T1 = tt
  regs_within main there fits T2 = tt
  regs_within main there fits C1 = tt
  regs_within main there fits C2 = tt
  regs_within main there fits A0 = tt
  regs_within main there fits A1 = tt
  regs_within main there fits A2 = tt
  regs_within main there fits A3 = tt
  regs_within main there fits G0 = tt
  regs_within main there fits G1 = tt
  regs_within main there fits G2 = tt

  -- ---- all words of a start

  pub start_bounded : (s : StartSeen) → IsLinkedStart g.parts g.size s
      → IsBounded (all_but_code g.parts) s.state.maps
  start_bounded s is =
      let st = is.starts.state in
      let x = main_is_there g.parts st.main st.main_is in
      let fits = (are_linked g.parts g.size is.accepted is.rules).size_fits in
      record {
        regs = λ r. subst (λ (rs : Regs Word). IsWithin auth (reg rs r)) (sym st.regs)
            (regs_within st.main (listed_at g.parts x.index st.main.part x.at) fits r);
        cells = λ a w readable e. cell_within g.size a w (sym (st.cells a) ∙ e);
      }
