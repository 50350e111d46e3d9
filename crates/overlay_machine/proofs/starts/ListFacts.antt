-- What a search in a list finds, for lists of any kind.
use Rattle.std.proofs.Common.{◌≡◌, ℕ, zero, suc, ◌<◌, ◌≤◌, Bool, true, false, List, [], ◌∷◌, length, get_or}
use Rattle.std.proofs.Common.{Some, refl, sym, ap, subst, ◌∙◌, arith, lt-ltb}
use Rattle.std.specs.Prelude.{slice_get, find, position, cond, ◌||◌}
use Rattle.std.specs.List.{Contains, AllPairs, list_any, position_or_len}
use Rattle.std.proofs.lemmas.Option.{slice_get_within, get_or_from_slice_get, slice_get-get_or}
use Rattle.std.proofs.lemmas.List.Folds.{list_any_at, find_at}
use Rattle.std.proofs.lemmas.List.Quantifiers.{position-Some}

module _ {A : Type 0} where
  pub first_is : (x : A) (xs : List A) → Contains (x ∷ xs) x
  first_is x xs = (0, omega arith, refl)

  pub later_is : (x y : A) (xs : List A) → Contains xs y → Contains (x ∷ xs) y
  later_is x y xs m = (suc m.0, omega (arith, m.1), m.2)

  -- what stands at an index is in the list, and what is in the list stands at an index
  pub listed_at : (xs : List A) (k : ℕ) (x : A) → slice_get xs k ≡ Some x → Contains xs x
  listed_at xs k x e = (k, slice_get_within xs k x e, get_or_from_slice_get xs k x x e)

  pub index_of : (xs : List A) (x : A) → Contains xs x → (k : ℕ) × (slice_get xs k ≡ Some x)
  index_of xs x m = (m.0, slice_get-get_or xs m.0 x m.1 ∙ ap Some m.2)

  -- two items of one index are one
  pub one_at : (xs : List A) (j k : ℕ) (x y : A) → slice_get xs j ≡ Some x → slice_get xs k ≡ Some y → j ≡ k
      → x ≡ y
  one_at xs j k x y e f h = let g : Some x ≡ Some y = sym e ∙ ap (slice_get xs) h ∙ f in cc

  pub found_is : (p : A → Bool) (xs : List A) (x : A) → find p xs ≡ Some x → Contains xs x × (p x ≡ true)
  found_is p [] x e = absurd cc
  found_is p (y ∷ ys) x e = by_head (p y) refl e (found_is p ys x)
    where
      by_head : (b : Bool) → p y ≡ b → cond b (Some y) (find p ys) ≡ Some x
          → (find p ys ≡ Some x → Contains ys x × (p x ≡ true)) → Contains (y ∷ ys) x × (p x ≡ true)
      by_head true h e more = let q : y ≡ x =
          cc in (subst (Contains (y ∷ ys)) q (first_is y ys), sym (ap p q) ∙ h)
      by_head false h e more = let k = more e in (later_is y x ys k.0, k.1)

  pub is_found : (p : A → Bool) (xs : List A) (x : A) → Contains xs x → p x ≡ true → (y : A)
      × (find p xs ≡ Some y)
  is_found p [] x m t = absurd (omega (arith, m.1))
  is_found p (y ∷ ys) x m t = by_head (p y) refl (by_place m (λ n. is_found p ys x n t))
    where
      by_place : Contains (y ∷ ys) x → (Contains ys x → (z : A) × (find p ys ≡ Some z)) → p y ≡ false
          → (z : A) × (find p ys ≡ Some z)
      by_place (zero, lt, e) more f = absurd (let n : false ≡ true = sym f ∙ ap p e ∙ t in cc)
      by_place (suc k, lt, e) more f = more (k, omega (arith, lt), e)

      by_head : (b : Bool) → p y ≡ b → (p y ≡ false → (z : A) × (find p ys ≡ Some z)) → (z : A)
          × (cond b (Some y) (find p ys) ≡ Some z)
      by_head true h more = (y, refl)
      by_head false h more = more h

  -- where one item alone passes, it is found
  pub only_found : (p : A → Bool) (xs : List A) (x : A) → Contains xs x → p x ≡ true
      → ((y : A) → Contains xs y → p y ≡ true → y ≡ x) → find p xs ≡ Some x
  only_found p xs x m t only = let f = is_found p xs x m t in let k =
      found_is p xs f.0 f.1 in f.1 ∙ ap Some (only f.0 k.0 k.1)

  pub any_is : (p : A → Bool) (xs : List A) (x : A) → Contains xs x → p x ≡ true → list_any p xs ≡ true
  any_is p xs x m t = list_any_at p xs m.0 x m.1 (ap p m.2 ∙ t)

  pub any_of : (p : A → Bool) (xs : List A) → list_any p xs ≡ true → (x : A) × Contains xs x × (p x ≡ true)
  any_of p [] e = absurd cc
  any_of p (y ∷ ys) e = by_head (p y) refl e (any_of p ys)
    where
      by_head : (b : Bool) → p y ≡ b → (b || list_any p ys) ≡ true
          → (list_any p ys ≡ true → (x : A) × Contains ys x × (p x ≡ true)) → (x : A) × Contains (y ∷ ys) x
          × (p x ≡ true)
      by_head true h e more = (y, first_is y ys, h)
      by_head false h e more = let k = more e in (k.0, later_is y k.0 ys k.1, k.2)

  pub position_is : (p : A → Bool) (xs : List A) (i : ℕ) → position p xs ≡ Some i → (x : A)
      × (slice_get xs i ≡ Some x) × (p x ≡ true)
  position_is p [] i e = absurd cc
  position_is p (y ∷ ys) i e =
      let h = position-Some p (y ∷ ys) i y e in
      (get_or (y ∷ ys) i y, slice_get-get_or (y ∷ ys) i y h.0, h.1)

  pub is_placed : (p : A → Bool) (xs : List A) (x : A) → Contains xs x → p x ≡ true → (i : ℕ)
      × (position p xs ≡ Some i)
  is_placed p xs x m t =
      let f = is_found p xs x m t in
      let at : slice_get xs (position_or_len p xs) ≡ Some f.0 = sym (find_at p xs) ∙ f.1 in
      let lt = lt-ltb (position_or_len p xs) (length xs) (slice_get_within xs (position_or_len p xs) f.0 at)
      in
      (position_or_len p xs, rw lt refl)

-- numbers that rise are no less than their places
pub place_below : {A : Type 0} (f : A → ℕ) (xs : List A) → AllPairs (λ x y. f x < f y) xs → (k : ℕ) (x : A)
    → slice_get xs k ≡ Some x → k ≤ f x
place_below f xs rise zero x e = omega arith
place_below f xs rise (suc k) x e =
    let within = slice_get_within xs (suc k) x e in
    let before : slice_get xs k ≡ Some (get_or xs k x) = slice_get-get_or xs k x (omega (arith, within)) in
    let le = place_below f xs rise k (get_or xs k x) before in
    let step = rise k (suc k) x (omega arith) within in
    let here : get_or xs (suc k) x ≡ x = get_or_from_slice_get xs (suc k) x x e in
    let top : f (get_or xs (suc k) x) ≡ f x = ap f here in
    omega (arith, le, step, top)
