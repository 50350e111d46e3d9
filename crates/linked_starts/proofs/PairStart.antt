-- The memory of a start, and the sites and owners of one of two parts: a trusted one with one site, and an
-- untrusted one whose code stands after it.
use Rattle.std.proofs.Common.{◌≡◌, ℕ, zero, suc, ◌+◌, ◌<◌, ◌≤◌, inl, inr, Bool, true, false, List, [], ◌∷◌}
use Rattle.std.proofs.Common.{Option, Some, None, refl, sym, ap, ◌∙◌, arith, subst}
use Rattle.std.specs.Prelude.{slice_get, nat_le, ◌||◌}
use Rattle.std.specs.Ordering.{nat_cmp}
use Rattle.std.specs.FinMap as maps
use Rattle.std.specs.List.{Contains, AllPairs}
use Rattle.std.proofs.lemmas.Bool.{cases_eq, cases_lt, leb-true, and_parts}
use Rattle.cap_words.specs.declared.Word.{Word}
use Rattle.lcm_machine.specs.Cells.{cell, set_slot}
use Rattle.lcm_machine.specs.Regions.{Region}
use Rattle.lcm_machine.proofs.Offers.{slot_same, slot_other, contains_cases}
use Rattle.component_file.specs.declared.component.ComponentFields.{ComponentFields}
use Rattle.linked_starts.specs.declared.owners.Site.{Site}
use Rattle.linked_starts.specs.declared.owners.Owner.{Owner}
use Rattle.linked_starts.specs.Parts.{PartSeen}
use Rattle.linked_starts.specs.Regions.{regions_of, in_region, in_regions}
use Rattle.linked_starts.specs.Start.{start_cell}
use Rattle.linked_starts.specs.Owners.{IsSite, AreSites, IsOwner, AreOwners, owner_of}
use Rattle.linked_starts.specs.Linked.{Linked}
use Rattle.linked_starts.proofs.RegionFacts.{all_within}
use Rattle.linked_starts.proofs.SealsKept.{same_site}
use Rattle.linked_starts.proofs.StartCells.{cell_in_region}

-- ---- memory that has what a function says of each address below a number

unfoldable pub filled : {W : Type 0} → (ℕ → Option W) → ℕ → maps.FinMap nat_cmp W
filled f zero = maps.empty
filled f (suc n) = set_slot (filled f n) n (f n)

pub filled_past : {W : Type 0} (f : ℕ → Option W) (n a : ℕ) → n ≤ a → cell (filled f n) a ≡ None
unfolding filled cell
filled_past f zero a le = maps.get-empty nat_cmp a
filled_past f (suc n) a le =
    slot_other (filled f n) n a (f n) (omega (arith, le)) ∙ filled_past f n a (omega (arith, le))

pub filled_below : {W : Type 0} (f : ℕ → Option W) (n a : ℕ) → a < n → cell (filled f n) a ≡ f a
unfolding filled
filled_below f zero a lt = absurd (omega (arith, lt))
filled_below f (suc n) a lt = elim (cases_eq a n) as (λ _. cell (set_slot (filled f n) n (f n)) a ≡ f a) [
  | inl e ↦ ap (cell (set_slot (filled f n) n (f n))) e ∙ slot_same (filled f n) n (f n) ∙ ap f (sym e)
  | inr ne ↦ slot_other (filled f n) n a (f n) ne ∙ filled_below f n a (omega (arith, lt, ne))
]

-- ---- a start has no cell from 2^20 on

any_of : (a : ℕ) (rs : List Region) → in_regions a rs ≡ true
    → (r : Region) × Contains rs r × (in_region a r ≡ true)
any_of a [] e = absurd cc
any_of a (r ∷ rs) e = by_head (in_region a r) refl e (any_of a rs)
  where
    by_head : (b : Bool) → in_region a r ≡ b → (b || in_regions a rs) ≡ true
        → (in_regions a rs ≡ true → (q : Region) × Contains rs q × (in_region a q ≡ true))
        → (q : Region) × Contains (r ∷ rs) q × (in_region a q ≡ true)
    by_head true h e more = (r, (0, omega arith, refl), h)
    by_head false h e more = let k = more e in (k.0, (suc (k.1).0, omega (arith, (k.1).1), (k.1).2), k.2)

none_if : (o : Option Word) → ((w : Word) → o ≡ Some w → ⊥) → o ≡ None
none_if None h = refl
none_if (Some w) h = absurd (h w refl)

module _ (parts : List PartSeen) (size : ℕ) (linked : Linked parts size) where
  in_bounds : (a : ℕ) (w : Word) → start_cell parts size a ≡ Some w → a < 1048576
  in_bounds a w e =
      let r = any_of a (regions_of parts size) (cell_in_region parts size a w linked.closed e) in
      let high = leb-true a (r.0).end (and_parts (nat_le (r.0).base a) (nat_le a (r.0).end) r.2).1 in
      let end = (all_within parts size r.0 linked r.1).1 in
      omega (arith, high, end)

  none_from : (a : ℕ) → 1048576 ≤ a → start_cell parts size a ≡ None
  none_from a ge =
      none_if (start_cell parts size a) (λ w e. (let lt = in_bounds a w e in omega (arith, lt, ge)))

  pub cells_filled : (a : ℕ) → cell (filled (start_cell parts size) 1048576) a ≡ start_cell parts size a
  cells_filled a = elim (cases_lt a 1048576)
      as (λ _. cell (filled (start_cell parts size) 1048576) a ≡ start_cell parts size a) [
        | inl lt ↦ filled_below (start_cell parts size) 1048576 a lt
        | inr ge ↦ filled_past (start_cell parts size) 1048576 a ge ∙ sym (none_from a ge)
      ]

-- ---- sites and owners of two parts

only : {A : Type 0} (x y : A) → Contains (x ∷ []) y → x ≡ y
only x y (zero, lt, e) = e
only x y (suc k, lt, e) = absurd (omega (arith, lt))

-- the first part's only site
abbrev pub site_of : ComponentFields → ℕ → Site
site_of c offset = record { part = 0; index = 0; seal = c.seals.base; at = c.code_base + offset }

module _ (one two : ComponentFields) where
  abbrev first : PartSeen
  first = record { component = one; trusted = true }

  abbrev second : PartSeen
  second = record { component = two; trusted = false }

  abbrev pair : List PartSeen
  pair = first ∷ second ∷ []

  -- the trusted part is the first one
  trusted_first : (k : ℕ) (p : PartSeen) → slice_get pair k ≡ Some p → p.trusted ≡ true
      → (k ≡ 0) × (first ≡ p)
  trusted_first zero p at t = (refl, cc)
  trusted_first (suc zero) p at t =
      let is : second ≡ p = cc in
      absurd (let n : false ≡ true = ap (λ (x : PartSeen). x.trusted) is ∙ t in cc)
  trusted_first (suc (suc k)) p at t = absurd cc

  module _ (offset : ℕ) (is : one.sites ≡ offset ∷ []) where
    site_first : (k o : ℕ) → slice_get (offset ∷ []) k ≡ Some o → (k ≡ 0) × (o ≡ offset)
    site_first zero o e = (refl, (let h : offset ≡ o = cc in sym h))
    site_first (suc k) o e = absurd cc

    is_site : IsSite pair (site_of one offset)
    is_site = record {
      of = first;
      of_is = refl;
      trusted = refl;
      offset = offset;
      offset_is = ap (λ xs. slice_get xs 0) is;
      seal = omega arith;
      at = refl;
    }

    site_only : (s : Site) → IsSite pair s → Contains (site_of one offset ∷ []) s
    site_only s of =
        let p = trusted_first s.part of.of of.of_is of.trusted in
        let sites : (offset ∷ []) ≡ of.of.component.sites =
        sym is ∙ ap (λ (x : PartSeen). x.component.sites) p.1 in
        let k = site_first s.index of.offset (ap (λ xs. slice_get xs s.index) sites ∙ of.offset_is) in
        let seals : one.seals.base ≡ of.of.component.seals.base =
        ap (λ (x : PartSeen). x.component.seals.base) p.1 in
        let code : one.code_base ≡ of.of.component.code_base =
        ap (λ (x : PartSeen). x.component.code_base) p.1 in
        let part = p.0 in
        let index = k.0 in
        let from = k.1 in
        let seal = of.seal in
        let at = of.at in
        let e : site_of one offset ≡ s =
        same_site (site_of one offset) s (omega (arith, part)) (omega (arith, index))
        (omega (arith, seal, seals, index)) (omega (arith, at, code, from)) in
        (0, omega arith, e)

    pub sites_are : AreSites pair (site_of one offset ∷ [])
    sites_are = record {
      ascend = λ i j d lt le. absurd (omega (arith, lt, le));
      all = λ s. (λ m. subst (IsSite pair) (only (site_of one offset) s m) is_site, λ of. site_only s of);
    }

  abbrev pub owners_of : List Owner
  owners_of = owner_of 0 first ∷ owner_of 1 second ∷ []

  first_owns : IsOwner pair (owner_of 0 first)
  unfolding owner_of
  first_owns = record { of = first; of_is = refl; is = refl }

  second_owns : IsOwner pair (owner_of 1 second)
  unfolding owner_of
  second_owns = record { of = second; of_is = refl; is = refl }

  owns : (o : Owner) → Contains owners_of o → IsOwner pair o
  owns o m = elim (contains_cases (owner_of 0 first) (owner_of 1 second ∷ []) o m) as (λ _. IsOwner pair o) [
    | inl e ↦ subst (IsOwner pair) e first_owns
    | inr n ↦ subst (IsOwner pair) (only (owner_of 1 second) o n) second_owns
  ]

  owner_at : (o : Owner) (k : ℕ) (p : PartSeen) → slice_get pair k ≡ Some p → o ≡ owner_of k p
      → Contains owners_of o
  owner_at o zero p at e = let is : first ≡ p = cc in (0, omega arith, ap (owner_of 0) is ∙ sym e)
  owner_at o (suc zero) p at e = let is : second ≡ p = cc in (1, omega arith, ap (owner_of 1) is ∙ sym e)
  owner_at o (suc (suc k)) p at e = absurd cc

  module _ (behind : one.code_base < two.code_base) where
    owners_rise : AllPairs (λ (o q : Owner). o.code.base < q.code.base) owners_of
    unfolding owner_of
    owners_rise zero zero d lt le = absurd (omega (arith, lt))
    owners_rise zero (suc zero) d lt le = behind
    owners_rise zero (suc (suc j)) d lt le = absurd (omega (arith, le))
    owners_rise (suc i) j d lt le = absurd (omega (arith, lt, le))

    pub owners_are : AreOwners pair owners_of
    owners_are = record {
      ascend = owners_rise;
      all = λ o. (λ m. owns o m, λ is. owner_at o o.part is.of is.of_is is.is);
      count = refl;
    }
