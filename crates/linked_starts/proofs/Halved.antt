-- What a search by halving finds in items whose keys ascend, and that a part's exports ascend.
use Rattle.std.proofs.Common.{◌≡◌, ◌⊎◌, ℕ, zero, suc, ◌<◌, ◌≤◌, Bool, true, false, List, [], ◌∷◌, length}
use Rattle.std.proofs.Common.{get_or, Option, Some, None, refl, sym, ap, ◌∙◌, subst, arith, inl, inr}
use Rattle.std.specs.Prelude.{find, IsTrue}
use Rattle.std.specs.List.{All, AllPairs, HoldsAt}
use Rattle.std.specs.List.Sorted.{IsNonDecreasingBy, IsPartitionPoint}
use Rattle.std.specs.Cmp.{IsTotalOrder}
use Rattle.std.specs.Cmp.Lexicographic.{slice_cmp, nat_list_cmp_total, texts_ties}
use Rattle.std.specs.Ordering.{is_lt, is_eq, nat_cmp, ordering_index}
use Rattle.std.specs.declared.cmp.Ordering.{Ordering}
use Rattle.std.specs.declared.cmp.Ordering.TheVariants.{Less, Equal, Greater}
use Rattle.std.proofs.lemmas.Bool.{cases_eq, true≢false}
use Rattle.std.proofs.lemmas.Cmp.{alike_right}
use Rattle.std.proofs.lemmas.List.Kept.{AllPairs-cons}
use Rattle.component_file.specs.declared.component.Export.{Export}
use Rattle.component_file.specs.Limits.{Chain, ExportFits, name_lt}
use Rattle.linked_starts.specs.Start.{same_name, NamesAscend}

less_is : (r : Ordering) → is_lt r ≡ true → r ≡ Less
less_is Less e = refl
less_is Equal e = absurd cc
less_is Greater e = absurd cc

not_equal : (r : Ordering) → (r ≡ Equal → ⊥) → is_eq r ≡ false
not_equal Less ne = refl
not_equal Equal ne = absurd (ne refl)
not_equal Greater ne = refl

top : (r : Ordering) → ordering_index r ≤ 2
top Less = omega arith
top Equal = omega arith
top Greater = omega arith

index_up : (r s : Ordering) → (s ≡ Greater) ⊎ (r ≡ Less) → ordering_index r ≤ ordering_index s
index_up r s (inl e) = subst (λ t. ordering_index r ≤ ordering_index t) (sym e) (top r)
index_up r s (inr e) = subst (λ t. ordering_index t ≤ ordering_index s) (sym e) (omega arith)

-- ---- items by their keys

module _ {X K : Type 0} (f : X → K) (R : K → K → Ordering) (total : IsTotalOrder R) (key : K) where
  abbrev Rise : List X → Type 0
  Rise xs = AllPairs (λ a b. IsTrue (is_lt (R (f a) (f b)))) xs

  -- what is before an item isn't after the key unless the item is
  earlier : (a b : X) → is_lt (R (f a) (f b)) ≡ true → (R (f b) key ≡ Greater) ⊎ (R (f a) key ≡ Less)
  earlier a b lt = by_answer (R (f b) key) refl
    where
      by_answer : (r : Ordering) → R (f b) key ≡ r → (R (f b) key ≡ Greater) ⊎ (R (f a) key ≡ Less)
      by_answer Less e = inr (total.trans (f a) (f b) key (less_is _ lt) e)
      by_answer Equal e = inr (sym (alike_right total (f b) key (f a) e) ∙ less_is _ lt)
      by_answer Greater e = inl e

  below_equal : (a b : X) → is_lt (R (f a) (f b)) ≡ true → R (f b) key ≡ Equal → R (f a) key ≡ Less
  below_equal a b lt e = elim (earlier a b lt) as (λ _. R (f a) key ≡ Less) [
    | inl g ↦ absurd (true≢false (ap is_eq (sym e ∙ g)))
    | inr l ↦ l
  ]

  searchable : (xs : List X) → Rise xs → IsNonDecreasingBy (λ y. ordering_index (R (f y) key)) xs
  searchable xs h i j d le lt =
      elim (cases_eq i j)
      as (λ _. ordering_index (R (f (get_or xs i d)) key) ≤ ordering_index (R (f (get_or xs j d)) key)) [
        | inl e ↦ rw e (omega arith)
        | inr ne ↦ index_up _ _ (earlier (get_or xs i d) (get_or xs j d) (h i j d (omega arith) lt))
      ]

  find_at : (xs : List X) (i : ℕ) (d : X) → Rise xs → i < length xs → R (f (get_or xs i d)) key ≡ Equal
      → find (λ y. is_eq (R (f y) key)) xs ≡ Some (get_or xs i d)
  find_at [] i d h lt e = absurd (omega arith)
  find_at (x ∷ xs) zero d h lt e = rw e refl
  find_at (x ∷ xs) (suc i) d h lt e =
      let low : R (f x) key ≡ Less = below_equal x (get_or xs i d) (h 0 (suc i) d (omega arith) lt) e in
      rw low (find_at xs i d (λ i j d lt le. h (suc i) (suc j) d (omega arith) (omega arith)) (omega arith) e)

  find_none : (xs : List X) → ((j : ℕ) (d : X) → j < length xs → R (f (get_or xs j d)) key ≡ Equal → ⊥)
      → find (λ y. is_eq (R (f y) key)) xs ≡ None
  find_none [] h = refl
  find_none (x ∷ xs) h =
      let other : is_eq (R (f x) key) ≡ false = not_equal (R (f x) key) (h 0 x (omega arith)) in
      rw other (find_none xs (λ j d lt e. h (suc j) d (omega arith) e))

  pub found : (xs : List X) (i : ℕ) (d : X) → Rise xs → i < length xs
      → HoldsAt (λ y. R (f y) key ≡ Equal) xs i → find (λ y. is_eq (R (f y) key)) xs ≡ Some (get_or xs i d)
  found xs i d h lt e = find_at xs i d h lt (e d)

  pub missing : (xs : List X) (i : ℕ) → Rise xs
      → (IsNonDecreasingBy (λ y. ordering_index (R (f y) key)) xs → IsPartitionPoint (λ y. R (f y) key ≡ Less)
      (λ y. R (f y) key ≡ Greater) xs i) → find (λ y. is_eq (R (f y) key)) xs ≡ None
  missing xs i h split = find_none xs (λ j d lt e. elim (side j) as (λ _. ⊥) [
    | inl low ↦ true≢false (ap is_eq (sym e ∙ (split (searchable xs h)).0 j d (omega arith) low))
    | inr high ↦ true≢false (ap is_eq (sym e ∙ (split (searchable xs h)).1 j d high lt))
  ])
    where
      side : (j : ℕ) → (j < i) ⊎ (i ≤ j)
      side j = grind arith

-- ---- exports by their names

-- the same name is what the order of names doesn't tell apart
by_name : (es : List Export) (name : List ℕ)
    → find (λ e. same_name e.name name) es ≡ find (λ e. is_eq (slice_cmp nat_cmp e.name name)) es
by_name es name = ap (λ (t : Export → Bool). find t es) (λ i e. texts_ties e.name name i)

pub export_found : (es : List Export) (name : List ℕ) (i : ℕ) (d : Export) → NamesAscend es → i < length es
    → HoldsAt (λ e. slice_cmp nat_cmp e.name name ≡ Equal) es i
    → find (λ e. same_name e.name name) es ≡ Some (get_or es i d)
export_found es name i d h lt at = by_name es name
    ∙ found (λ (e : Export). e.name) (slice_cmp nat_cmp) nat_list_cmp_total name es i d h lt at

pub export_missing : (es : List Export) (name : List ℕ) (i : ℕ) → NamesAscend es
    → (IsNonDecreasingBy (λ e. ordering_index (slice_cmp nat_cmp e.name name)) es
    → IsPartitionPoint (λ e. slice_cmp nat_cmp e.name name ≡ Less)
    (λ e. slice_cmp nat_cmp e.name name ≡ Greater) es i) → find (λ e. same_name e.name name) es ≡ None
export_missing es name i h split = by_name es name
    ∙ missing (λ (e : Export). e.name) (slice_cmp nat_cmp) nat_list_cmp_total name es i h split

-- ---- the limits of a component

name_lt_trans : (a b c : List ℕ) → IsTrue (name_lt a b) → IsTrue (name_lt b c) → IsTrue (name_lt a c)
name_lt_trans a b c h k = ap is_lt (nat_list_cmp_total.trans a b c (less_is _ h) (less_is _ k))

below_all : (b : Export) (es : List Export) → Chain ExportFits (Some b) es
    → All (λ e. IsTrue (name_lt b.name e.name)) es
below_all b [] h k d lt = absurd (omega arith)
below_all b (e ∷ es) h zero d lt = h.0.1
below_all b (e ∷ es) h (suc k) d lt =
    name_lt_trans b.name e.name (get_or es k d).name h.0.1 (below_all e es h.1 k d (omega arith))

pub exports_ascend : (b : Option Export) (es : List Export) → Chain ExportFits b es → NamesAscend es
exports_ascend b [] h = λ i j d lt inside. absurd (omega (arith, inside))
exports_ascend b (e ∷ es) h = AllPairs-cons (λ (a b : Export). IsTrue (name_lt a.name b.name))
    e es (below_all e es h.1) (exports_ascend (Some e) es h.1)
