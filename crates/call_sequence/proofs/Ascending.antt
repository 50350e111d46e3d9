-- Lists that ascend by a key, and what a search by halving finds in them.
use Rattle.std.proofs.Common.{◌≡◌, ℕ, zero, suc, ◌<◌, ◌≤◌, ◌⊎◌, inl, inr, Bool, true, false, List, [], ◌∷◌}
use Rattle.std.proofs.Common.{length, get_or, Option, Some, None, refl, sym, ◌∙◌, arith, lt-ltb}
use Rattle.std.specs.Prelude.{◌==◌, nat_lt}
use Rattle.std.specs.List.{find, list_any}
use Rattle.std.specs.List.Sorted.{IsPartitionedBy, IsPartitionPoint}
use Rattle.std.proofs.lemmas.Bool.{cases_eq, eqb-true, ltb-true, ltb-false}
use Rattle.std.proofs.lemmas.Bool.Decides.{nat_tests}
use Rattle.std.proofs.lemmas.List.Folds.{list_any_at}
use Rattle.component_file.specs.declared.component.KindRow.{KindRow}
use Rattle.component_file.specs.declared.component.ComponentFields.{ComponentFields}
use Rattle.component_file.specs.Limits.{Chain, SiteFits, KindRowFits, IsComponent}
use Rattle.call_sequence.specs.Ascending.{IsSplitAt}
use Rattle.call_sequence.specs.Places.{is_behind}

pub eq_not : (a b : ℕ) → (a ≡ b → ⊥) → (a == b) ≡ false
eq_not a b ne = by_test (a == b) refl
  where
    by_test : (t : Bool) → (a == b) ≡ t → t ≡ false
    by_test true e = absurd (ne (eqb-true a b e))
    by_test false e = refl

pub eq_is : (a b : ℕ) → a ≡ b → (a == b) ≡ true
eq_is a b e = grind (arith, nat_tests)

module _ {A : Type 0} (key : A → ℕ) where
  pub record Ascends (xs : List A) : Type 0 where
    pub up : (i j : ℕ) (d : A) → i < j → j < length xs → key (get_or xs i d) < key (get_or xs j d)

  tail_up : (x : A) (xs : List A) → Ascends (x ∷ xs) → Ascends xs
  tail_up x xs h = record { up = λ i j d lt le. h.up (suc i) (suc j) d (omega arith) (omega arith) }

  -- ---- from the order of a component's lists

  module _ (P : Option A → A → Type 0) (rises : (b x : A) → P (Some b) x → key b < key x) where
    above : (x : A) (xs : List A) → Chain P (Some x) xs → (j : ℕ) (d : A) → j < length xs
        → key x < key (get_or xs j d)
    above x [] h j d lt = absurd (omega arith)
    above x (y ∷ ys) h zero d lt = rises x y h.0
    above x (y ∷ ys) h (suc j) d lt =
        let low : key x < key y = rises x y h.0 in
        let high : key y < key (get_or ys j d) = above y ys h.1 j d (omega arith) in
        omega arith

    joined : (x : A) (xs : List A) → Chain P (Some x) xs → Ascends xs → Ascends (x ∷ xs)
    joined x xs h more = record { up = go }
      where
        go : (i j : ℕ) (d : A) → i < j → j < length (x ∷ xs)
            → key (get_or (x ∷ xs) i d) < key (get_or (x ∷ xs) j d)
        go i zero d lt le = absurd (omega arith)
        go zero (suc j) d lt le = above x xs h j d (omega arith)
        go (suc i) (suc j) d lt le = more.up i j d (omega arith) (omega arith)

    pub chain_up : (b : Option A) (xs : List A) → Chain P b xs → Ascends xs
    chain_up b [] h = record { up = λ i j d lt le. absurd (omega arith) }
    chain_up b (x ∷ xs) h = joined x xs h.1 (chain_up (Some x) xs h.1)

  -- ---- where they pass a bound

  up_eq : (xs : List A) → Ascends xs → (i j : ℕ) (d : A) → i ≤ j → j < length xs
      → key (get_or xs i d) ≤ key (get_or xs j d)
  up_eq xs h i j d le lt = elim (cases_eq i j) as (λ _. key (get_or xs i d) ≤ key (get_or xs j d)) [
    | inl e ↦ rw e (omega arith)
    | inr ne ↦
        (let up : key (get_or xs i d) < key (get_or xs j d) = h.up i j d (omega arith) lt in omega arith)
  ]

  pub parted : (xs : List A) (bound : ℕ) → Ascends xs → IsPartitionedBy (λ x. nat_lt (key x) bound) xs
  parted xs bound h i j d le lt e =
      let up : key (get_or xs i d) ≤ key (get_or xs j d) = up_eq xs h i j d le lt in
      let high : key (get_or xs j d) < bound = ltb-true _ bound e in
      lt-ltb _ bound (omega arith)

  pub split_is : (xs : List A) (bound i : ℕ) → i ≤ length xs
      → IsPartitionPoint (λ x. nat_lt (key x) bound ≡ true) (λ x. nat_lt (key x) bound ≡ false) xs i
      → IsSplitAt key bound xs i
  split_is xs bound i le q = record {
    within = le;
    below = λ j d lt. ltb-true (key (get_or xs j d)) bound (q.0 j d (omega arith) lt);
    others = λ j d ge lt. ltb-false (key (get_or xs j d)) bound (q.1 j d ge lt);
  }

  -- an item whose key this is stands at the split, if there is one
  found_at : (xs : List A) (o i : ℕ) (d : A) → Ascends xs → i < length xs → key (get_or xs i d) ≡ o
      → find (λ x. key x == o) xs ≡ Some (get_or xs i d)
  found_at [] o i d h lt e = absurd (omega arith)
  found_at (x ∷ xs) o zero d h lt e = rw (eq_is (key x) o e) refl
  found_at (x ∷ xs) o (suc i) d h lt e =
      let low : key x < key (get_or xs i d) = h.up 0 (suc i) d (omega arith) lt in
      rw (eq_not (key x) o (λ k. omega (arith, e))) (found_at xs o i d (tail_up x xs h) (omega arith) e)

  none_found : (xs : List A) (o : ℕ) (d : A) → ((i : ℕ) → i < length xs → key (get_or xs i d) ≡ o → ⊥)
      → find (λ x. key x == o) xs ≡ None
  none_found [] o d h = refl
  none_found (x ∷ xs) o d h =
      rw (eq_not (key x) o (λ k. h 0 (omega arith) k))
      (none_found xs o d (λ i lt e. h (suc i) (omega arith) e))

  -- an item with another key at the split: none has this one
  split_lacks : (xs : List A) (o i : ℕ) (d : A) → Ascends xs → IsSplitAt key o xs i
      → (i < length xs → key (get_or xs i d) ≡ o → ⊥) → (j : ℕ) → j < length xs → key (get_or xs j d) ≡ o → ⊥
  split_lacks xs o i d h s ne j lt e = elim (side j) as (λ _. ⊥) [
    | inl low ↦ (let k : key (get_or xs j d) < o = s.below j d low in omega arith)
    | inr high ↦ elim (cases_eq i j) as (λ _. ⊥) [
      | inl same ↦ ne (rw same lt) (rw same e)
      | inr other ↦ (
          let low : o ≤ key (get_or xs i d) = s.others i d (omega arith) (omega arith) in
          let up : key (get_or xs i d) < key (get_or xs j d) = h.up i j d (omega arith) lt in
          omega arith
          )
    ]
  ]
    where
      side : (j : ℕ) → (j < i) ⊎ (i ≤ j)
      side j = grind arith

  pub find_here : (xs : List A) (o i : ℕ) (d : A) → Ascends xs → i < length xs → key (get_or xs i d) ≡ o
      → find (λ x. key x == o) xs ≡ Some (get_or xs i d)
  find_here xs o i d h lt e = found_at xs o i d h lt e

  pub find_none : (xs : List A) (o i : ℕ) (d : A) → Ascends xs → IsSplitAt key o xs i
      → (i < length xs → key (get_or xs i d) ≡ o → ⊥) → find (λ x. key x == o) xs ≡ None
  find_none xs o i d h s ne = none_found xs o d (λ j lt e. split_lacks xs o i d h s ne j lt e)

-- ---- the two lists

pub sites_up : (c : ComponentFields) → IsComponent c → Ascends (λ s. s) c.sites
sites_up c h = chain_up (λ s. s) SiteFits (λ b x p. ltb-true b x p.1) None c.sites h.sites.1

pub rows_up : (c : ComponentFields) → IsComponent c → Ascends (λ (r : KindRow). r.offset) c.rows
rows_up c h =
    chain_up (λ (r : KindRow). r.offset) KindRowFits (λ b x p. ltb-true b.offset x.offset p.1) None c.rows
    h.rows.1

pub any_none : {A : Type 0} (p : A → Bool) (xs : List A) (d : A)
    → ((j : ℕ) → j < length xs → p (get_or xs j d) ≡ false) → list_any p xs ≡ false
any_none p [] d h = refl
any_none p (x ∷ xs) d h = rw (h 0 (omega arith)) (any_none p xs d (λ j lt. h (suc j) (omega arith)))

-- no site begins here, where none does at the split
pub no_site : (xs : List ℕ) (o i : ℕ) → Ascends (λ s. s) xs → IsSplitAt (λ s. s) o xs i
    → (i < length xs → get_or xs i 0 ≡ o → ⊥) → list_any (λ s. s == o) xs ≡ false
no_site xs o i up split ne =
    any_none (λ s. s == o)
    xs 0 (λ j lt. eq_not (get_or xs j 0) o (λ e. split_lacks (λ s. s) xs o i 0 up split ne j lt e))

-- a site begins here, where it begins at the split
pub site_begins : (xs : List ℕ) (o i : ℕ) → Ascends (λ s. s) xs → IsSplitAt (λ s. s) o xs i → i < length xs
    → (get_or xs i 0 == o) ≡ list_any (λ s. s == o) xs
site_begins xs o i up split lt = by_test (get_or xs i 0 == o) refl
  where
    by_test : (b : Bool) → (get_or xs i 0 == o) ≡ b → b ≡ list_any (λ s. s == o) xs
    by_test true e = sym (list_any_at (λ s. s == o) xs i 0 lt e)
    by_test false e =
        sym (no_site xs o i up split
        (λ l m. let f : true ≡ false = sym (eq_is (get_or xs i 0) o m) ∙ e in cc))

behind_later : (s n o : ℕ) → o ≤ s → is_behind s n o ≡ false
behind_later s n o h = grind (arith, nat_tests)

behind_less : (r s n o : ℕ) → r ≤ s → s < o → is_behind s n o ≡ false → is_behind r n o ≡ false
behind_less r s n o le lt e = grind (arith, nat_tests)

-- within no site, where all begin here or later
pub before_sites : (xs : List ℕ) (n o : ℕ) → IsSplitAt (λ s. s) o xs 0
    → list_any (λ s. is_behind s n o) xs ≡ false
before_sites xs n o split =
    any_none (λ s. is_behind s n o)
    xs 0 (λ j lt. behind_later (get_or xs j 0) n o (split.others j 0 (omega arith) lt))

-- within a site, where it is within the last that begins before
pub within_last : (xs : List ℕ) (n o i : ℕ) → Ascends (λ s. s) xs → IsSplitAt (λ s. s) o xs (suc i)
    → is_behind (get_or xs i 0) n o ≡ list_any (λ s. is_behind s n o) xs
within_last xs n o i up split = by_test (is_behind (get_or xs i 0) n o) refl
  where
    lt : i < length xs
    lt = let le : suc i ≤ length xs = split.within in omega arith

    side : (j : ℕ) → (j ≤ i) ⊎ (suc i ≤ j)
    side j = grind arith

    by_test : (b : Bool) → is_behind (get_or xs i 0) n o ≡ b → b ≡ list_any (λ s. is_behind s n o) xs
    by_test true e = sym (list_any_at (λ s. is_behind s n o) xs i 0 lt e)
    by_test false e =
        sym (any_none (λ s. is_behind s n o)
        xs 0 (λ j l. elim (side j) as (λ _. is_behind (get_or xs j 0) n o ≡ false) [
          | inl le ↦ behind_less (get_or xs j 0) (get_or xs i 0) n o (up_eq (λ s. s) xs up j i 0 le lt)
              (split.below i 0 (omega arith)) e
          | inr ge ↦ behind_later (get_or xs j 0) n o (split.others j 0 ge l)
        ]))
