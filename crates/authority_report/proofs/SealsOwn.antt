-- The seals that a part of a linked start reaches are its own return seals.
use Rattle.std.proofs.Common.{◌≡◌, ◌⊎◌, inl, inr, ℕ, ◌+◌, ◌<◌, ◌≤◌, ℤ, Bool, true, false, List, ◌++◌, length}
use Rattle.std.proofs.Common.{Some, refl, sym, ap, subst, ◌∙◌, arith, leb-true}
use Rattle.std.specs.Prelude.{slice_get, nat_le, nat_lt, ◌==◌, ◌&&◌, ◌||◌, IsTrue}
use Rattle.std.specs.List.{Contains}
use Rattle.std.proofs.lemmas.Bool.{and_parts, cases_order}
use Rattle.std.proofs.lemmas.Bool.Decides.{nat_tests}
use Rattle.std.proofs.lemmas.List.Elements.{Contains-append_left, Contains-append_right}
use Rattle.std.proofs.lemmas.List.Elements.{Contains-append_cases}
use Rattle.std.proofs.lemmas.List.Folds.{Any-from_list_any}
use Rattle.std.proofs.lemmas.Option.{slice_get_within}
use Rattle.cap_words.specs.declared.TheConstants.{LONGEST_STRETCH}
use Rattle.cap_words.specs.declared.Word.{Word}
use Rattle.cap_words.specs.declared.Word.TheVariants.{Int, Mem, Seal, Sealed}
use Rattle.cap_words.specs.declared.CapFields.{CapFields}
use Rattle.cap_words.specs.Stretch.{Stretch}
use Rattle.seal_space.specs.Seals.{has_seal}
use Rattle.lcm_isa.specs.declared.Reg.TheVariants.{Stk}
use Rattle.lcm_machine.specs.Regions.{Region}
use Rattle.lcm_machine.specs.Places.{reg}
use Rattle.lcm_machine.specs.Cells.{cell}
use Rattle.linked_starts.specs.declared.owners.Owner.{Owner}
use Rattle.linked_starts.specs.Owners.{owner_of}
use Rattle.linked_starts.specs.Parts.{PartSeen}
use Rattle.linked_starts.specs.Regions.{part_regions, region, stack_span, in_region, in_regions}
use Rattle.linked_starts.specs.Start.{Exported, code_half, data_half, stack_base_of, start_regs}
use Rattle.linked_starts.specs.Started.{StartSeen}
use Rattle.linked_starts.specs.Linked.{HasRange}
use Rattle.linked_starts.specs.SealsApart.{is_seal_of as is_seal}
use Rattle.linked_starts.proofs.Offers.{whole, code_in, data_in, linear_in, stack_in, in_regions_is}
use Rattle.linked_starts.proofs.Offers.{apart_parts, apart_stack, size_bounds, IsExport, CellIs, of_code}
use Rattle.linked_starts.proofs.Offers.{of_data, of_slot, of_none, cell_is, OwnCap, over_code, over_data}
use Rattle.linked_starts.proofs.Offers.{over_linear, OwnWord, no_overlap, own_code, own_data, parts_apart}
use Rattle.authority_report.specs.Reaches.{is_seal_of, whole_code, whole_data}
use Rattle.authority_report.specs.Within.{Authority, CapWithin, IsWithin}
use Rattle.authority_report.specs.Entered.{IsLinked}
use Rattle.authority_report.specs.SealRanges.{SealsAreOwn}
use Rattle.authority_report.proofs.OwnersSmall.{linked, is_owner}
use Rattle.authority_report.proofs.ReachedWithin.{reached_within}

-- ---- the regions of a part and the stack

abbrev areas_of : List PartSeen → ℕ → PartSeen → List Region
areas_of parts size p = part_regions p ++ region true (stack_span parts size)

-- an address of one
over_area : (rs : List Region) (a : ℕ) → in_regions a rs ≡ true
    → (r : Region) × Contains rs r × (r.base ≤ a) × (a ≤ r.end)
over_area rs a h =
    let x = Any-from_list_any (in_region a) rs h in
    let r = x.1 in
    let k = and_parts (nat_le r.base a) (nat_le a r.end) x.4 in
    (r, (x.0, x.2, x.3), leb-true r.base a k.0, leb-true a r.end k.1)

-- the two ways to ask whether a seal is a part's
own_seal : (p : PartSeen) (k n : ℕ) → is_seal_of (owner_of k p) n ≡ true → IsTrue (is_seal p n)
unfolding owner_of
own_seal p k n h = by_both p.component.seals p.component.closure h
  where
    by_both : (r : Stretch) (c : ℕ)
        → ((n == c) || (nat_le r.base n && nat_lt n (r.base + r.count))) ≡ true
        → ((c == n) || has_seal r n) ≡ true
    by_both r c h = grind (arith, nat_tests)

closure_is : (p : PartSeen) → IsTrue (is_seal p p.component.closure)
closure_is p = grind (arith, nat_tests)

module _ (s : StartSeen) (here : IsLinked s) (k : ℕ) (p : PartSeen)
    (at : slice_get here.parts k ≡ Some p) where
  abbrev parts : List PartSeen
  parts = here.parts

  abbrev size : ℕ
  size = here.size

  -- what the part may come by: all in its own areas and on the stack, and its own return seals
  abbrev own : Authority
  own = record {
    read = λ a. in_regions a (areas_of parts size p);
    write = λ a. true;
    run = λ a. true;
    seal = has_seal p.component.seals;
    own = is_seal_of (owner_of k p);
  }

  cap_in : (c : CapFields) (r : Region) → Contains (areas_of parts size p) r → r.base ≤ c.base → c.end ≤ r.end
      → CapWithin own c
  cap_in c r in' low high = record {
    read = λ may a l h. in_regions_is a (areas_of parts size p) r in' (omega (arith, low, l))
        (omega (arith, high, h));
    write = λ may a l h. refl;
    run = λ may a l h. refl;
  }

  -- a capability over so many addresses of an area of the part
  range_in : (base count : ℕ) (linear : Bool) (c : CapFields) → c.base ≤ c.end → HasRange base count c
      → (1 ≤ count → Contains (part_regions p) (whole base count linear)) → CapWithin own c
  range_in base count linear c order range in' =
      let low = range.0 in
      let high = range.1 in
      cap_in c (whole base count linear)
      (Contains-append_left (part_regions p) (region true (stack_span parts size)) _
      (in' (omega (arith, low, high, order)))) low (omega (arith, high))

  own_cap : (c : CapFields) → c.base ≤ c.end → OwnCap p.component c → CapWithin own c
  own_cap c order (over_code lin range) = range_in _ _ false c order range (code_in p)
  own_cap c order (over_data lin run range) = range_in _ _ false c order range (data_in p)
  own_cap c order (over_linear lin run range) = range_in _ _ true c order range (linear_in p)

  own_word : (w : Word) → OwnWord p.component w → IsWithin own w
  own_word (Int z) h = tt
  own_word (Mem c) h = own_cap c h.0 h.1
  own_word (Seal q) h = λ n low high. seal_in p.component.seals q.base q.end n h.1.0 h.1.1 low high
    where
      seal_in : (r : Stretch) (a b n : ℕ) → r.base ≤ a → b < r.base + r.count → a ≤ n → n ≤ b
          → has_seal r n ≡ true
      seal_in r a b n first last low high = grind (arith, nat_tests)
  own_word (Sealed n x) h = absurd h

  -- ---- what it begins with

  some_code : 1 ≤ length p.component.code
  some_code = ((linked s here).closed.kept k p at).limits.code.0.0

  some_data : 1 ≤ length p.component.data_words
  some_data = ((linked s here).closed.kept k p at).limits.data_words.0.0

  code_within : (z : ℤ) → CapWithin own (whole_code (owner_of k p) z)
  unfolding owner_of
  code_within z =
      let some = some_code in
      range_in p.component.code_base (length p.component.code) false (whole_code (owner_of k p) z)
      (omega (arith, some))
      (omega arith, omega (arith, some)) (code_in p)

  data_within : CapWithin own (whole_data (owner_of k p))
  unfolding owner_of
  data_within =
      let some = some_data in
      range_in p.component.data_base (length p.component.data_words) false (whole_data (owner_of k p))
      (omega (arith, some))
      (omega arith, omega (arith, some)) (data_in p)

  stack_within : IsWithin own (reg s.state.maps.regs Stk)
  unfolding start_regs
  stack_within =
      let fits = (linked s here).size_fits in
      let some = (size_bounds size fits).0 in
      subst (λ rs. IsWithin own (reg rs Stk)) (sym here.starts.state.regs)
      (cap_in _ (whole (stack_base_of parts) size true)
      (Contains-append_right (part_regions p) (region true (stack_span parts size)) _
      (stack_in parts size k p at fits some)) (omega arith) (omega arith))

  -- ---- what stands in the cells

  -- where a part has an area over an address of these, it is the part
  is_it : (n a : ℕ) (q : PartSeen) (r : Region) → slice_get parts n ≡ Some q → Contains (part_regions q) r
      → r.base ≤ a → a ≤ r.end → in_regions a (areas_of parts size p) ≡ true → p ≡ q
  is_it n a q r there is low high h =
      let apart = (linked s here).apart in
      let x = over_area (areas_of parts size p) a h in
      elim (Contains-append_cases (part_regions p) (region true (stack_span parts size)) x.0 x.1)
      as (λ _. p ≡ q) [
        | inl mine ↦ elim (cases_order k n) as (λ _. p ≡ q) [
          | inl same ↦ (let e : Some p ≡ Some q = sym at ∙ ap (slice_get parts) same ∙ there in cc)
          | inr (inl lt) ↦ absurd (no_overlap x.0 r a
              (apart_parts parts size k n p q x.0 r apart lt at there mine is)
              x.2 x.3 low high)
          | inr (inr gt) ↦ absurd (no_overlap r x.0 a
              (apart_parts parts size n k q p r x.0 apart gt there at is mine)
              low high x.2 x.3)
        ]
        | inr stack ↦ absurd
            (no_overlap r x.0 a (apart_stack parts size n q r x.0 apart there is stack) low high
            x.2 x.3)
      ]

  -- who can open a half has its export
  its_part : (x : Exported) → IsExport parts x → is_seal_of (owner_of k p) x.part.component.closure ≡ true
      → p ≡ x.part
  its_part x is opens =
      let same : k ≡ is.index = (parts_apart parts size here.accepted here.rules).between k is.index
      x.part.component.closure p x.part at is.at (own_seal p k x.part.component.closure opens)
      (closure_is x.part)
      in
      let e : Some p ≡ Some x.part = sym at ∙ ap (slice_get parts) same ∙ is.at in
      cc

  -- the halves of its own exports; those of another's are under a seal that isn't its own
  half_within : (w : Word) (x : Exported) → IsExport parts x → (w ≡ code_half x) ⊎ (w ≡ data_half x)
      → IsWithin own w
  half_within w x is (inl e) = subst (IsWithin own) (sym e) (λ opens.
      let same = its_part x is opens in
      let base = ap (λ (q : PartSeen). q.component.code_base) same in
      let count = ap (λ (q : PartSeen). length q.component.code) same in
      let some = some_code in
      range_in p.component.code_base (length p.component.code) false _ (omega (arith, count, some))
      (omega (arith, base), omega (arith, base, count, some)) (code_in p))
  half_within w x is (inr e) = subst (IsWithin own) (sym e) (λ opens.
      let same = its_part x is opens in
      let base = ap (λ (q : PartSeen). q.component.data_base) same in
      let count = ap (λ (q : PartSeen). length q.component.data_words) same in
      let some = some_data in
      range_in p.component.data_base (length p.component.data_words) false _ (omega (arith, count, some))
      (omega (arith, base), omega (arith, base, count, some)) (data_in p))

  cell_within : (a : ℕ) (w : Word) → in_regions a (areas_of parts size p) ≡ true
      → cell s.state.maps.cells a ≡ Some w → IsWithin own w
  cell_within a w h there = by_cell (cell_is parts size a w (sym (here.starts.state.cells a) ∙ there))
    where
      by_cell : CellIs parts a w → IsWithin own w
      by_cell (of_code n o q is word e) =
          let inside = slice_get_within q.component.code o w word in
          let same = is_it n a q (whole q.component.code_base (length q.component.code) false) is
          (code_in q (omega (arith, inside))) (omega (arith, e)) (omega (arith, e, inside)) h in
          own_word w (subst (λ (x : PartSeen). OwnWord x.component w) (sym same)
          (own_code q (here.accepted n q is) o w word))
      by_cell (of_data n o q is word e) =
          let inside = slice_get_within q.component.data_words o w word in
          let same = is_it n a q (whole q.component.data_base (length q.component.data_words) false) is
          (data_in q (omega (arith, inside))) (omega (arith, e)) (omega (arith, e, inside)) h in
          own_word w (subst (λ (x : PartSeen). OwnWord x.component w) (sym same)
          (own_data q (here.accepted n q is) o w word))
      by_cell (of_slot x is halves) = half_within w x is halves
      by_cell (of_none e) = subst (IsWithin own) (sym e) tt

  -- ---- all that it reaches

  part_seals : SealsAreOwn s.state.maps (owner_of k p)
  unfolding owner_of
  part_seals n x =
      reached_within s.state.maps (owner_of k p) own (λ n. refl) code_within data_within stack_within
      cell_within
      (Seal x.cap) x.reached n x.low x.high

-- an owner's
module _ (s : StartSeen) (here : IsLinked s) (o : Owner) (listed : Contains s.owners o) where
  pub seals_own : SealsAreOwn s.state.maps o
  seals_own =
      let is = is_owner s here o listed in
      subst (SealsAreOwn s.state.maps) (sym is.is) (part_seals s here o.part is.of is.of_is)

  pub seals_few : o.seals.count ≤ LONGEST_STRETCH
  unfolding owner_of
  seals_few =
      let is = is_owner s here o listed in
      subst (λ (q : Owner). q.seals.count ≤ LONGEST_STRETCH) (sym is.is)
      (here.accepted o.part is.of is.of_is).limits.seals.0
