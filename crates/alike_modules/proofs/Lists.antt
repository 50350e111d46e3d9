-- Lists whose items were changed, asked what the change leaves.
use Rattle.std.proofs.Common.{◌≡◌, refl, ◌∙◌, ap, ℕ, ◌+◌, Bool, true, false, ◌||◌, not, cond}
use Rattle.std.proofs.Common.{List, [], ◌∷◌, ◌++◌, map, Option, Some, None}
use Rattle.std.specs.Prelude.{position, find, sum_by, count_by, flat_map, slice_get, option_map, nat_lt}
use Rattle.std.specs.List.{list_any, position_or_len, fold}
use Rattle.std.specs.Option.{option_map_or}
use Rattle.std.proofs.lemmas.List.{length-map}
use Rattle.std.proofs.lemmas.Option.{slice_get-map}

module _ {A B : Type 0} (g : A → B) where
  fold_of : {C : Type 0} (f : C → B → C) (a : C) (xs : List A)
      → fold f a (map g xs) ≡ fold (λ b x. f b (g x)) a xs
  fold_of f a [] = refl
  fold_of f a (x ∷ xs) = fold_of f (f a (g x)) xs

  pub sum_of : (f : B → ℕ) (xs : List A) → sum_by f (map g xs) ≡ sum_by (λ x. f (g x)) xs
  sum_of f xs = fold_of (λ a y. a + f y) 0 xs

  pub count_of : (f : B → Bool) (xs : List A) → count_by f (map g xs) ≡ count_by (λ x. f (g x)) xs
  count_of f xs = sum_of (λ y. cond (f y) 1 0) xs

  first_of : (f : B → Bool) (xs : List A) → position_or_len f (map g xs) ≡ position_or_len (λ x. f (g x)) xs
  first_of f [] = refl
  first_of f (x ∷ xs) = ap (λ n. cond (not (f (g x))) (1 + n) 0) (first_of f xs)

  pub position_of : (f : B → Bool) (xs : List A) → position f (map g xs) ≡ position (λ x. f (g x)) xs
  position_of f xs = λ i.
      cond (nat_lt (first_of f xs i) (length-map xs g i)) (Some (first_of f xs i)) None

  pub any_of : (f : B → Bool) (xs : List A) → list_any f (map g xs) ≡ list_any (λ x. f (g x)) xs
  any_of f [] = refl
  any_of f (x ∷ xs) = ap (λ b. f (g x) || b) (any_of f xs)

  found_by : (b : Bool) (x : A) (found : Option B) (before : Option A) → found ≡ option_map g before
      → cond b (Some (g x)) found ≡ option_map g (cond b (Some x) before)
  found_by true x found before e = refl
  found_by false x found before e = e

  pub found_of : (f : B → Bool) (xs : List A)
      → find f (map g xs) ≡ option_map g (find (λ x. f (g x)) xs)
  found_of f [] = refl
  found_of f (x ∷ xs) =
      found_by (f (g x)) x (find f (map g xs)) (find (λ y. f (g y)) xs) (found_of f xs)

  pub map_of : {C : Type 0} (f : B → C) (xs : List A) → map f (map g xs) ≡ map (λ x. f (g x)) xs
  map_of f [] = refl
  map_of f (x ∷ xs) = ap (λ ys. f (g x) ∷ ys) (map_of f xs)

  pub flat_of : {C : Type 0} (f : B → List C) (xs : List A)
      → flat_map f (map g xs) ≡ flat_map (λ x. f (g x)) xs
  flat_of f [] = refl
  flat_of f (x ∷ xs) = ap (λ ys. f (g x) ++ ys) (flat_of f xs)

  option_of : {C : Type 0} (f : B → C) (d : C) (x : Option A)
      → option_map_or f (option_map g x) d ≡ option_map_or (λ y. f (g y)) x d
  option_of f d None = refl
  option_of f d (Some x) = refl

  pub get_of : {C : Type 0} (f : B → C) (d : C) (xs : List A) (i : ℕ)
      → option_map_or f (slice_get (map g xs) i) d ≡ option_map_or (λ x. f (g x)) (slice_get xs i) d
  get_of f d xs i = ap (λ x. option_map_or f x d) (slice_get-map g xs i) ∙ option_of f d (slice_get xs i)
