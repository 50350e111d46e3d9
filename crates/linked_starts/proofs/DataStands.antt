-- Where the data of parts stands at a start: an import's slot has the halves of what it names.
use Rattle.std.proofs.Common.{◌≡◌, inl, inr, ℕ, ◌+◌, ◌-◌, ◌<◌, ◌≤◌, false, true, ◌++◌, length, Option, Some}
use Rattle.std.proofs.Common.{None, refl, sym, ap, subst, ◌∙◌, arith, append_assoc, eq-eqb}
use Rattle.std.specs.Prelude.{List, slice_get}
use Rattle.std.specs.Option.{option_or}
use Rattle.std.specs.List.{AllPairs}
use Rattle.std.proofs.lemmas.Bool.{ne_eqb}
use Rattle.std.proofs.lemmas.Option.{slice_get_within}
use Rattle.std.proofs.lemmas.List.Elements.{Contains-append_left}
use Rattle.cap_words.specs.declared.Word.{Word}
use Rattle.component_file.specs.declared.component.ComponentFields.{ComponentFields}
use Rattle.component_file.specs.declared.component.Import.{Import}
use Rattle.lcm_machine.specs.Cells.{cell}
use Rattle.lcm_machine.specs.Run.{Run}
use Rattle.linked_starts.specs.Parts.{PartSeen}
use Rattle.linked_starts.specs.Regions.{Apart, part_regions, region, code_span, data_span, linear_span}
use Rattle.linked_starts.specs.Start.{first_given, Exported, imported, code_half, data_half, slot_word}
use Rattle.linked_starts.specs.Start.{data_word, from, part_word, IsStart}
use Rattle.linked_starts.specs.Linked.{Kept, Linked}
use Rattle.linked_starts.specs.DataWords.{HalvesStand, IsOwnData, DataStands}
use Rattle.linked_starts.proofs.Found.{given}
use Rattle.linked_starts.proofs.LaySteps.{with_some}
use Rattle.linked_starts.proofs.RegionFacts.{whole, in_stretch, pairs_across}
use Rattle.linked_starts.proofs.PartWords.{from_yes, from_inv, slots_below, slot_inv}
use Rattle.linked_starts.proofs.LinksKept.{are_linked, apart_within}
use Rattle.linked_starts.proofs.CodeStands.{given_at, part_stands}

-- a part's code and its data lie apart
code_from_data : (p : PartSeen) → Kept p → AllPairs Apart (part_regions p) → let c = p.component in
    Apart (whole c.code_base (length c.code) false) (whole c.data_base (length c.data_words) false)
code_from_data p kept apart =
    let x = region false (code_span p) in
    let y = region false (data_span p) in
    let z = region true (linear_span p) in
    let c = p.component in
    let first = in_stretch c.code_base (length c.code) false kept.limits.code.0.0 in
    let second = in_stretch c.data_base (length c.data_words) false kept.limits.data_words.0.0 in
    pairs_across Apart x (y ++ z) _ _ (subst (AllPairs Apart) (append_assoc x y z) apart) first
    (Contains-append_left y z _ second)

module _ (parts : List PartSeen) (size : ℕ) (s : Run) (linked : Linked parts size)
    (start : IsStart parts size s) (k : ℕ) (p : PartSeen) (at : slice_get parts k ≡ Some p)
    (apart : AllPairs Apart (part_regions p)) where
  abbrev c : ComponentFields
  c = p.component

  kept : Kept p
  kept = linked.closed.kept k p at

  -- no code word stands at an address of the data
  no_code : (o : ℕ) → o < length c.data_words → from c.code_base (slice_get c.code) (c.data_base + o) ≡ None
  no_code o lt = by (from c.code_base (slice_get c.code) (c.data_base + o)) refl
    where
      by : (x : Option Word) → from c.code_base (slice_get c.code) (c.data_base + o) ≡ x → x ≡ None
      by None e = refl
      by (Some w) e =
          let f = from_inv c.code_base (slice_get c.code) (c.data_base + o) w e in
          let low = f.0 in
          let high = slice_get_within c.code (c.data_base + o - c.code_base) w f.1 in
          elim (code_from_data p kept apart) as (λ _. Some w ≡ None) [
            | inl h ↦ absurd (omega (arith, h, low, high))
            | inr h ↦ absurd (omega (arith, h, low, lt))
          ]

  -- the word at an offset of the data stands there
  data_at : (o : ℕ) (w : Word) → o < length c.data_words → data_word parts c o ≡ Some w
      → cell s.maps.cells (c.data_base + o) ≡ Some w
  unfolding part_word
  data_at o w lt is =
      let a = c.data_base + o in
      let own : from c.data_base (data_word parts c) a ≡ Some w =
      from_yes c.data_base (data_word parts c) a (omega arith) ∙ ap (data_word parts c) (omega arith) ∙ is in
      let here : part_word parts a p ≡ Some w =
      ap (λ x. option_or x (from c.data_base (data_word parts c) a)) (no_code o lt) ∙ own in
      part_stands parts size s linked start k a p w at here

  -- ---- slots

  -- what an import puts at one of its two words is what all imports put there
  slot_at : (n o : ℕ) (i : Import) (w : Word) → slice_get c.imports n ≡ Some i → i.slot ≤ o → o ≤ i.slot + 1
      → slot_word parts o i ≡ Some w → cell s.maps.cells (c.data_base + o) ≡ Some w
  slot_at n o i w here low high is =
      let within = kept.slots_in n i here in
      let first = given_at (slot_word parts o) c.imports n i w here is before in
      data_at o w (omega (arith, within, high)) (ap (λ x. option_or x (slice_get c.data_words o)) first)
    where
      before : (j : ℕ) (z : Import) (u : Word) → j < n → slice_get c.imports j ≡ Some z
          → slot_word parts o z ≡ Some u → ⊥
      before j z u lt at_j is_j =
          let below = slots_below p kept j n z i lt at_j here in
          elim (slot_inv parts o z u is_j) as (λ _. ⊥) [
            | inl e ↦ omega (arith, e, below, low)
            | inr e ↦ omega (arith, e, below, low)
          ]

  code_word : (i : Import) (x : Exported) → imported parts i ≡ Some x
      → slot_word parts i.slot i ≡ Some (code_half x)
  code_word i x is = let t = eq-eqb i.slot i.slot refl in rw (t, is) refl

  word_behind : (i : Import) (x : Exported) → imported parts i ≡ Some x
      → slot_word parts (i.slot + 1) i ≡ Some (data_half x)
  word_behind i x is =
      let f = ne_eqb i.slot (i.slot + 1) (omega arith) in
      let t = eq-eqb (i.slot + 1) (i.slot + 1) refl in
      rw (f, t, is) refl

  halves : (n : ℕ) (i : Import) → slice_get c.imports n ≡ Some i
      → HalvesStand parts s.maps i (c.data_base + i.slot)
  halves n i here = with_some (imported parts i) _ (linked.closed.found k n p i at here) named
    where
      named : (x : Exported) → imported parts i ≡ Some x → HalvesStand parts s.maps i (c.data_base + i.slot)
      named x is =
          let next : c.data_base + (i.slot + 1) ≡ c.data_base + i.slot + 1 = omega arith in
          let second = word_behind i x is in
          let behind = slot_at n (i.slot + 1) i (data_half x) here (omega arith) (omega arith) second in
          record {
            names = x;
            names_is = is;
            code = slot_at n i.slot i (code_half x) here (omega arith) (omega arith) (code_word i x is);
            behind = ap (cell s.maps.cells) (sym next) ∙ behind;
          }

  -- ---- own words

  no_slot : (o : ℕ) → IsOwnData c o → first_given (slot_word parts o) c.imports ≡ None
  no_slot o free = by (first_given (slot_word parts o) c.imports) refl
    where
      by : (x : Option Word) → first_given (slot_word parts o) c.imports ≡ x → x ≡ None
      by None e = refl
      by (Some w) e =
          let g = given (slot_word parts o) c.imports w e in
          let f = free g.index g.item g.at in
          elim (slot_inv parts o g.item w g.is) as (λ _. Some w ≡ None) [
            | inl h ↦ absurd (f.0 h)
            | inr h ↦ absurd (f.1 h)
          ]

  own_word : (o : ℕ) (w : Word) → slice_get c.data_words o ≡ Some w → IsOwnData c o
      → cell s.maps.cells (c.data_base + o) ≡ Some w
  own_word o w is free =
      let lt = slice_get_within c.data_words o w is in
      data_at o w lt (ap (λ x. option_or x (slice_get c.data_words o)) (no_slot o free) ∙ is)

pub data_stands : DataStands
data_stands parts size s each rules start k p at =
    let linked = are_linked parts size each rules in
    let apart = apart_within parts size rules k p at in
    record {
      slots = halves parts size s linked start k p at apart;
      own = own_word parts size s linked start k p at apart;
    }
