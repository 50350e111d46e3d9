-- Breakpoints kept as a list in which each stands once.
use Rattle.std.proofs.Common.{◌≡◌, ◌≢◌, ℕ, zero, suc, ◌+◌, ◌-◌, ◌≤◌, ◌==◌, Bool, true, false, not, ◌&&◌, ◌||◌}
use Rattle.std.proofs.Common.{List, [], ◌∷◌, ◌++◌, length, refl, sym, ap, ◌∙◌, ℤ, pos, negsuc, inl, inr}
use Rattle.std.proofs.Common.{arith, cond, nat_eq, eq-eqb, ne_eqb, lt-ltb, le-ltb, ◌<◌, position}
use Rattle.std.specs.Prelude.{Some, None, slice_get, remove}
use Rattle.std.specs.List.{list_any, position_or_len}
use Rattle.std.specs.Ordering.{nat_cmp, int_eq, eq_by_cmp}
use Rattle.std.specs.Cmp.{nat_cmp_total, unsigned_tied}
use Rattle.std.proofs.lemmas.Bool.{cases_Bool, cases_eq, cases_lt}
use Rattle.std.proofs.lemmas.Bool.Decides.{nat_tests}
use Rattle.std.specs.FinSet as set
use Rattle.step_back.specs.declared.stops.TheConstants.{MOST_STOPS}
use Rattle.step_back.specs.Debug.{is_at, with_stop}

abbrev Kept : List ℕ → Type 0
Kept xs = set.len (set.from_list {R = nat_cmp} xs) ≡ length xs

abbrev set_of : List ℕ → set.FinSet nat_cmp
set_of xs = set.from_list xs

any_same : {p q : ℕ → Bool} (xs : List ℕ) → ((x : ℕ) → p x ≡ q x) → list_any p xs ≡ list_any q xs
any_same [] h = refl
any_same (x ∷ xs) h = λ i. h x i || any_same xs h i

none_any : (xs : List ℕ) → list_any (λ x. false) xs ≡ false
none_any [] = refl
none_any (x ∷ xs) = none_any xs

pos_same : (x a : ℕ) → int_eq (pos x) (pos a) ≡ nat_eq x a
pos_same x a = grind (arith, nat_tests)

pos_neg : (x a : ℕ) → int_eq (pos x) (negsuc a) ≡ false
pos_neg x a = refl

pub at_is : (xs : List ℕ) (z : ℤ) → list_any (λ x. int_eq (pos x) z) xs ≡ is_at (set_of xs) z
at_is xs (pos a) =
    any_same {p = λ x. int_eq (pos x) (pos a)} {q = λ x. nat_eq x a} xs (λ x. pos_same x a)
    ∙ sym (set.contains-from_list_nat xs a)
at_is xs (negsuc a) =
    any_same {p = λ x. int_eq (pos x) (negsuc a)} {q = λ x. false} xs (λ x. pos_neg x a) ∙ none_any xs

tied : (a x : ℕ) → eq_by_cmp nat_cmp a x ≡ (x == a)
tied a x = grind (arith, nat_tests)

contains_is : (xs : List ℕ) (a : ℕ) → set.contains (set_of xs) a ≡ list_any (λ x. x == a) xs
contains_is xs a =
    set.contains-from_list nat_cmp_total xs a
    ∙ any_same {p = eq_by_cmp nat_cmp a} {q = λ x. x == a} xs (tied a)

get_more : (x : ℕ) (xs : List ℕ) (n : ℕ) → slice_get (x ∷ xs) (1 + n) ≡ slice_get xs n
get_more x xs n = let e : 1 + n ≡ suc n = omega arith in ap (slice_get (x ∷ xs)) e

module _ (p : ℕ → Bool) where
  none_passes : (xs : List ℕ) → length xs ≤ position_or_len p xs → list_any p xs ≡ false
  none_passes [] h = refl
  none_passes (x ∷ xs) h = elim (cases_Bool (p x)) as (λ _. (p x || list_any p xs) ≡ false) [
    | inl t ↦ (let k = rw t at h in absurd (omega arith))
    | inr f ↦ (let k = rw f at h in rw f (none_passes xs (omega arith)))
  ]

  one_passes : (xs : List ℕ) → position_or_len p xs < length xs
      → (y : ℕ) × (slice_get xs (position_or_len p xs) ≡ Some y) × (p y ≡ true)
  one_passes [] h = absurd (omega arith)
  one_passes (x ∷ xs) h =
      elim (cases_Bool (p x)) as (λ _. (y : ℕ) × (slice_get (x ∷ xs) (position_or_len p (x ∷ xs)) ≡ Some y)
      × (p y ≡ true)) [
        | inl t ↦ rw t (x, refl, t)
        | inr f ↦ (let k = rw f at h in let r = one_passes xs (omega arith) in
            rw f (r.0, get_more x xs (position_or_len p xs) ∙ r.1, r.2))
      ]

  position_none : (xs : List ℕ) → None ≡ position p xs → list_any p xs ≡ false
  position_none xs e = elim (cases_lt (position_or_len p xs) (length xs)) as (λ _. list_any p xs ≡ false) [
    | inl lt ↦ (let b = lt-ltb (position_or_len p xs) (length xs) lt in let k = rw b at e in cc)
    | inr ge ↦ none_passes xs ge
  ]

  position_some : (xs : List ℕ) (i : ℕ) → Some i ≡ position p xs
      → (y : ℕ) × (slice_get xs i ≡ Some y) × (p y ≡ true)
  position_some xs i e =
      elim (cases_lt (position_or_len p xs) (length xs)) as (λ _. (y : ℕ) × (slice_get xs i ≡ Some y)
      × (p y ≡ true)) [
        | inl lt ↦ (let b = lt-ltb (position_or_len p xs) (length xs) lt in let k = rw b at e in
            let same : position_or_len p xs ≡ i = cc in rw same at (one_passes xs lt))
        | inr ge ↦ (let b = le-ltb (position_or_len p xs) (length xs) ge in let k = rw b at e in cc)
      ]

pub not_found : (xs : List ℕ) (a : ℕ) → None ≡ position (λ x. x == a) xs → set.contains (set_of xs) a ≡ false
not_found xs a e = contains_is xs a ∙ position_none (λ x. x == a) xs e

pub found : (xs : List ℕ) (a i : ℕ) → Some i ≡ position (λ x. x == a) xs → slice_get xs i ≡ Some a
found xs a i e =
    let h = position_some (λ x. x == a) xs i e in
    h.1 ∙ ap Some (same h.0 a h.2)
  where
    same : (x a : ℕ) → (x == a) ≡ true → x ≡ a
    same x a t = grind (arith, nat_tests)

len_within : (xs : List ℕ) → set.len (set_of xs) ≤ length xs
len_within [] = rw (set.len-empty nat_cmp) (omega arith)
len_within (x ∷ xs) =
    let le = len_within xs in
    rw (set.len-insert nat_cmp_total (set_of xs) x) (
    elim (cases_Bool (set.contains (set_of xs) x)) as (λ _.
    cond (set.contains (set_of xs) x) (set.len (set_of xs)) (set.len (set_of xs) + 1) ≤ suc (length xs)) [
      | inl t ↦ rw t (omega arith)
      | inr f ↦ rw f (omega arith)
    ])

-- of a list in which each stands once, the rest is such a list, and the first isn't in it
rest_kept : (x : ℕ) (xs : List ℕ) → Kept (x ∷ xs) → (set.contains (set_of xs) x ≡ false) × Kept xs
rest_kept x xs k =
    let le = len_within xs in
    let e : cond (set.contains (set_of xs) x) (set.len (set_of xs)) (set.len (set_of xs) + 1)
    ≡ suc (length xs) = sym (set.len-insert nat_cmp_total (set_of xs) x) ∙ k in
    elim (cases_Bool (set.contains (set_of xs) x)) as (λ _. (set.contains (set_of xs) x ≡ false) × Kept xs) [
      | inl t ↦ (let h : set.len (set_of xs) ≡ suc (length xs) = rw t at e in absurd (omega arith))
      | inr f ↦ (let h : set.len (set_of xs) + 1 ≡ suc (length xs) = rw f at e in (f, omega arith))
    ]

pub is_there : (xs : List ℕ) (i x : ℕ) → slice_get xs i ≡ Some x → set.contains (set_of xs) x ≡ true
is_there [] i x h = cc
is_there (y ∷ ys) zero x h = let e : y ≡ x = cc in let t = unsigned_tied x y in
    let q = eq-eqb x y (sym e) in
    set.contains-insert nat_cmp_total (set_of ys) y x ∙ ap (λ b. b || set.contains (set_of ys) x) (t ∙ q)
is_there (y ∷ ys) (suc i) x h =
    set.contains-insert nat_cmp_total (set_of ys) y x
    ∙ ap (λ b. eq_by_cmp nat_cmp x y || b) (is_there ys i x h) ∙ or_true (eq_by_cmp nat_cmp x y)
  where
    or_true : (b : Bool) → (b || true) ≡ true
    or_true true = refl
    or_true false = refl

module _ (S : set.FinSet nat_cmp) (x : ℕ) where
  abbrev Tied : ℕ → Bool
  Tied q = eq_by_cmp nat_cmp q x

  came : (b c : Bool) → (b ≡ true → c ≡ false) → c ≡ (not b && (b || c))
  came true c h = h refl
  came false true h = refl
  came false false h = refl

  tied_is : (q : ℕ) → Tied q ≡ true → q ≡ x
  tied_is q h = elim (cases_eq q x) as (λ _. q ≡ x) [
    | inl e ↦ e
    | inr ne ↦ (let f = ne_eqb q x ne in let t = unsigned_tied q x in cc)
  ]

  -- to put in and take out what isn't there
  in_out : set.contains S x ≡ false → S ≡ set.remove (set.insert S x) x
  in_out f = set.same_set nat_cmp_total set.nat_cmp-IsAntisymmetric S _ (λ q.
      came (Tied q) (set.contains S q) (λ t. ap (set.contains S) (tied_is q t) ∙ f)
      ∙ sym (set.contains-remove nat_cmp_total (set.insert S x) x q
      ∙ ap (λ b. not (Tied q) && b) (set.contains-insert nat_cmp_total S x q)))

  swapped : (b c d : Bool) → (b ≡ true → c ≡ true → ⊥) → (c || (not b && d)) ≡ (not b && (c || d))
  swapped true true d h = absurd (h refl refl)
  swapped true false d h = refl
  swapped false c d h = refl

  -- to put in one and take out another
  apart : (y : ℕ) → y ≢ x → set.insert (set.remove S x) y ≡ set.remove (set.insert S y) x
  apart y ne = set.same_set nat_cmp_total set.nat_cmp-IsAntisymmetric _ _ (λ q.
      set.contains-insert nat_cmp_total (set.remove S x) y q
      ∙ ap (λ b. eq_by_cmp nat_cmp q y || b) (set.contains-remove nat_cmp_total S x q)
      ∙ swapped (Tied q) (eq_by_cmp nat_cmp q y) (set.contains S q)
      (λ t u. ne (sym (tied_y q y u) ∙ tied_is q t))
      ∙ sym (set.contains-remove nat_cmp_total (set.insert S y) x q
      ∙ ap (λ b. not (Tied q) && b) (set.contains-insert nat_cmp_total S y q)))
    where
      tied_y : (q y : ℕ) → eq_by_cmp nat_cmp q y ≡ true → q ≡ y
      tied_y q y h = elim (cases_eq q y) as (λ _. q ≡ y) [
        | inl e ↦ e
        | inr ne ↦ (let f = ne_eqb q y ne in let t = unsigned_tied q y in cc)
      ]

pub set_removed : (xs : List ℕ) (i x : ℕ) → Kept xs → slice_get xs i ≡ Some x
    → set_of (remove xs i) ≡ set.remove (set_of xs) x
set_removed [] i x k h = cc
set_removed (y ∷ ys) zero x k h = let e : y ≡ x = cc in
    rw e (in_out (set_of ys) x (rw e at (rest_kept y ys k).0))
set_removed (y ∷ ys) (suc i) x k h =
    let r = rest_kept y ys k in
    let ne : y ≢ x = λ e. let t = is_there ys i x h in let f = r.0 in let f2 = rw e at f in cc in
    ap (λ s. set.insert s y) (set_removed ys i x r.1 h) ∙ apart (set_of ys) x y ne

shorter : (xs : List ℕ) (i x : ℕ) → slice_get xs i ≡ Some x → length (remove xs i) + 1 ≡ length xs
shorter [] i x h = cc
shorter (y ∷ ys) zero x h = omega arith
shorter (y ∷ ys) (suc i) x h = let e = shorter ys i x h in omega arith

pub kept_removed : (xs : List ℕ) (i x : ℕ) → Kept xs → slice_get xs i ≡ Some x → Kept (remove xs i)
kept_removed xs i x k h =
    let l = shorter xs i x h in
    ap set.len (set_removed xs i x k h) ∙ set.len-remove nat_cmp_total (set_of xs) x
    ∙ ap (λ b. cond b (set.len (set_of xs) - 1) (set.len (set_of xs))) (is_there xs i x h)
    ∙ (let q : set.len (set_of xs) - 1 ≡ length (remove xs i) = omega arith in q)

-- to take out what isn't there
pub none_removed : (S : set.FinSet nat_cmp) (x : ℕ) → set.contains S x ≡ false → S ≡ set.remove S x
none_removed S x f = set.same_set nat_cmp_total set.nat_cmp-IsAntisymmetric S _ (λ q.
    by_tie (eq_by_cmp nat_cmp q x) (set.contains S q) (λ t. ap (set.contains S) (tied_is S x q t) ∙ f)
    ∙ sym (set.contains-remove nat_cmp_total S x q))
  where
    by_tie : (b c : Bool) → (b ≡ true → c ≡ false) → c ≡ (not b && c)
    by_tie true c h = h refl
    by_tie false c h = refl

-- one more
pub kept_pushed : (xs : List ℕ) (x : ℕ) → Kept xs → set.contains (set_of xs) x ≡ false → Kept (xs ++ x ∷ [])
kept_pushed xs x k f =
    ap set.len (set.from_list_push nat_cmp_total set.nat_cmp-IsAntisymmetric xs x)
    ∙ set.len-insert nat_cmp_total (set_of xs) x
    ∙ ap (λ b. cond b (set.len (set_of xs)) (set.len (set_of xs) + 1)) f
    ∙ ap (λ n. n + 1) k ∙ length_push xs x
  where
    length_push : (xs : List ℕ) (x : ℕ) → length xs + 1 ≡ length (xs ++ x ∷ [])
    length_push [] x = refl
    length_push (y ∷ ys) x = let e = length_push ys x in omega arith

pub set_pushed : (xs : List ℕ) (x : ℕ) → set.contains (set_of xs) x ≡ false
    → (set.len (set_of xs) == MOST_STOPS) ≡ false → set_of (xs ++ x ∷ []) ≡ with_stop (set_of xs) x
set_pushed xs x f r = set.from_list_push nat_cmp_total set.nat_cmp-IsAntisymmetric xs x ∙ rw (f, r) refl

insert_same : (S : set.FinSet nat_cmp) (x : ℕ) → set.contains S x ≡ true → S ≡ set.insert S x
insert_same S x h = set.same_set nat_cmp_total set.nat_cmp-IsAntisymmetric S _ (λ q.
    by_tie (eq_by_cmp nat_cmp q x) (set.contains S q) (λ t. ap (set.contains S) (tied_is S x q t) ∙ h)
    ∙ sym (set.contains-insert nat_cmp_total S x q))
  where
    by_tie : (b c : Bool) → (b ≡ true → c ≡ true) → c ≡ (b || c)
    by_tie true c h = h refl
    by_tie false c h = refl

pub had_stays : (S : set.FinSet nat_cmp) (x : ℕ) → set.contains S x ≡ true → S ≡ with_stop S x
had_stays S x h = rw h (insert_same S x h)
