-- What searches through parts and through the items of a part tell of rules.
use Rattle.std.proofs.Common.{◌≡◌, ℕ, zero, suc, ◌+◌, ◌<◌, ◌≤◌, Bool, true, false, List, [], ◌∷◌, length}
use Rattle.std.proofs.Common.{take, Option, Some, None, refl, sym, ap, ◌∙◌, arith}
use Rattle.std.specs.Prelude.{slice_get, sum_by, ◌||◌}
use Rattle.std.specs.List.{list_any}
use Rattle.std.proofs.lemmas.Option.{slice_get_past, slice_get_within, get_or_from_slice_get}
use Rattle.std.proofs.lemmas.List.Sums.{sum_by_more}
use Rattle.std.proofs.lemmas.Bool.{or_right}
use Rattle.component_check.specs.Places.{Test, first_place, FirstBy}
use Rattle.component_check.proofs.Offers.{plain_first}
use Rattle.linked_starts.specs.Pairs.{passes, at_each, within_or, never}
use Rattle.component_file.proofs.Offers.{inside}

-- ---- lists

pub slice_get-take : {A : Type 0} (xs : List A) (n i : ℕ) → i < n → slice_get (take n xs) i ≡ slice_get xs i
slice_get-take [] zero i lt = absurd (omega (arith, lt))
slice_get-take [] (suc n) i lt = refl
slice_get-take (x ∷ xs) zero i lt = absurd (omega (arith, lt))
slice_get-take (x ∷ xs) (suc n) zero lt = refl
slice_get-take (x ∷ xs) (suc n) (suc i) lt = slice_get-take xs n i (omega (arith, lt))

pub taken : {A : Type 0} (n : ℕ) (xs : List A) → n ≤ length xs → n ≡ length (take n xs)
taken zero xs le = refl
taken (suc n) [] le = absurd (omega (arith, le))
taken (suc n) (x ∷ xs) le = ap suc (taken n xs (omega (arith, le))) ∙ omega arith

pub take_whole : {A : Type 0} (xs : List A) (n : ℕ) → length xs ≤ n → take n xs ≡ xs
take_whole [] zero le = refl
take_whole [] (suc n) le = refl
take_whole (x ∷ xs) zero le = absurd (omega (arith, le))
take_whole (x ∷ xs) (suc n) le = ap (λ ys. x ∷ ys) (take_whole xs n (omega (arith, le)))

-- ---- within a part

pub told_in : {A : Type 0} (test : ℕ → A → Test ℕ) (all : Test ℕ) (parts : List A) (i : ℕ) (p : A)
    {o : Option ℕ}
    → slice_get parts i ≡ Some p → o ≡ first_place (test i p)
    → o ≡ first_place (within_or test all i (slice_get parts i))
told_in test all parts i p is h = h ∙ ap (λ u. first_place (within_or test all i u)) (sym is)

pub told_behind : {A : Type 0} (test : ℕ → A → Test ℕ) (all : Test ℕ) (parts : List A) (i : ℕ) {o : Option ℕ}
    → length parts ≤ i → o ≡ first_place all → o ≡ first_place (within_or test all i (slice_get parts i))
told_behind test all parts i le h =
    h ∙ ap (λ u. first_place (within_or test all i u)) (sym (slice_get_past parts i le))

pub told_nowhere : {A : Type 0} (all : Test ℕ) (parts : List A) (i : ℕ) → i < length parts
    → None ≡ first_place (within_or (λ i p. never) all i (slice_get parts i))
told_nowhere all parts i lt = let p = inside parts i lt in told_in (λ i p. never) all parts i p.0 p.1 refl

-- ---- of items

pub each_item : {A : Type 0} (xs : List A) (f : A → Bool) {Says : ℕ → Bool → Type 0} {n : ℕ} {o : Option ℕ}
    → FirstBy Says n o → n ≡ length xs
    → ((j : ℕ) (b : Bool) → j < n → Says j b → b ≡ passes f (slice_get xs j)) → o ≡ first_place (at_each xs f)
each_item xs f h e k = plain_first (length xs) (λ j. passes f (slice_get xs j)) h e k

pub each_before : {A : Type 0} (xs : List A) (f : A → Bool) {Says : ℕ → Bool → Type 0} {n : ℕ} {o : Option ℕ}
    → FirstBy Says n o → n ≤ length xs
    → ((j : ℕ) (b : Bool) → j < n → Says j b → b ≡ passes f (slice_get xs j))
    → o ≡ first_place (at_each (take n xs) f)
each_before xs f {Says} {n} h le k =
    plain_first (length (take n xs)) (λ j. passes f (slice_get (take n xs) j)) h (taken n xs le)
    (λ j b lt s. k j b lt s ∙ ap (passes f) (sym (slice_get-take xs n j lt)))

-- ---- of the first items of a list

pub any_more : {A : Type 0} (f : A → Bool) (xs : List A) (i : ℕ) (x : A) → slice_get xs i ≡ Some x
    → list_any f (take (i + 1) xs) ≡ (list_any f (take i xs) || f x)
any_more f [] i x e = absurd cc
any_more f (y ∷ ys) zero x e = let same : y ≡ x = cc in rw same (or_false (f x))
  where
    or_false : (b : Bool) → (b || false) ≡ b
    or_false true = refl
    or_false false = refl
any_more f (y ∷ ys) (suc i) x e =
    let further : suc i + 1 ≡ suc (i + 1) = omega arith in
    rw (further, any_more f ys i x e) (or_assoc (f y) (list_any f (take i ys)) (f x))
  where
    or_assoc : (a b c : Bool) → (a || (b || c)) ≡ ((a || b) || c)
    or_assoc true b c = refl
    or_assoc false b c = refl

pub none_more : {A : Type 0} (f : A → Bool) (xs : List A) (i : ℕ) (x : A) → slice_get xs i ≡ Some x
    → list_any f (take i xs) ≡ false → f x ≡ false → list_any f (take (i + 1) xs) ≡ false
none_more f xs i x e none here = any_more f xs i x e ∙ rw (none, here) refl

pub any_settled : {A : Type 0} (f : A → Bool) (xs : List A) (n i : ℕ) (x : A) → slice_get xs i ≡ Some x
    → i < n → f x ≡ true → list_any f (take n xs) ≡ true
any_settled f [] n i x e lt t = absurd cc
any_settled f (y ∷ ys) zero i x e lt t = absurd (omega (arith, lt))
any_settled f (y ∷ ys) (suc n) zero x e lt t = let same : y ≡ x = cc in rw (same, t) refl
any_settled f (y ∷ ys) (suc n) (suc i) x e lt t =
    rw (any_settled f ys n i x e (omega (arith, lt)) t) (or_right (f y) true refl)

pub sum_more : {A : Type 0} (f : A → ℕ) (xs : List A) (i : ℕ) (x : A) → slice_get xs i ≡ Some x
    → sum_by f (take (i + 1) xs) ≡ sum_by f (take i xs) + f x
sum_more f xs i x e = sum_by_more f xs i x (slice_get_within xs i x e)
    ∙ ap (λ y. sum_by f (take i xs) + f y) (get_or_from_slice_get xs i x x e)
