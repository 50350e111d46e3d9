-- Lists in which each item stands rightly after the one before it.
use Rattle.std.proofs.Common.{◌≡◌, ℕ, zero, suc, ◌-◌, List, [], ◌∷◌, ◌++◌, length, Option, Some, None, refl}
use Rattle.std.proofs.Common.{sym, ap, ◌∙◌, subst, arith}
use Rattle.std.specs.Prelude.{slice_get, slice_set}
use Rattle.component_file.specs.Limits.{Chain}
use Rattle.assembler.specs.Tables.{last_of}

newest : {A : Type 0} → Option A → List A → Option A
newest before [] = before
newest before (x ∷ xs) = newest (Some x) xs

onto : {A : Type 0} (P : Option A → A → Type 0) (before : Option A) (xs : List A) (x : A) → Chain P before xs
    → P (newest before xs) x → Chain P before (xs ++ x ∷ [])
unfolding newest
onto P before [] x chain fits = (fits, tt)
onto P before (y ∷ xs) x chain fits = (chain.0, onto P (Some y) xs x chain.1 fits)

newest_is : {A : Type 0} (x : A) (xs : List A) → newest (Some x) xs ≡ slice_get (x ∷ xs) (length xs)
unfolding newest
newest_is x [] = refl
newest_is x (y ∷ xs) = newest_is y xs

newest_last : {A : Type 0} (xs : List A) → newest None xs ≡ last_of xs
unfolding newest
newest_last [] = refl
newest_last (x ∷ xs) =
    let k : length xs ≡ length (x ∷ xs) - 1 = omega arith in
    newest_is x xs ∙ ap (slice_get (x ∷ xs)) k

stands_behind : {A : Type 0} (P : Option A → A → Type 0) (before : Option A) (xs : List A) (x : A)
    (after : List A) → Chain P before (xs ++ x ∷ after) → P (newest before xs) x
unfolding newest
stands_behind P before [] x after chain = chain.0
stands_behind P before (y ∷ xs) x after chain = stands_behind P (Some y) xs x after chain.1

-- an item stands rightly after the last one before it
pub item_in_chain : {A : Type 0} (P : Option A → A → Type 0) (xs : List A) (x : A) (after : List A)
    → Chain P None (xs ++ x ∷ after) → P (last_of xs) x
item_in_chain P xs x after chain = subst (λ o. P o x) (newest_last xs) (stands_behind P None xs x after chain)

-- one more item, after the last
pub one_behind : {A : Type 0} (P : Option A → A → Type 0) (xs : List A) (x : A) → Chain P None xs
    → P (last_of xs) x → Chain P None (xs ++ x ∷ [])
one_behind P xs x chain fits = onto P None xs x chain (subst (λ o. P o x) (sym (newest_last xs)) fits)

-- one more item, whose order is free
pub each_onto : {A : Type 0} (P : A → Type 0) (before : Option A) (xs : List A) (x : A)
    → Chain (λ _. P) before xs → P x → Chain (λ _. P) before (xs ++ x ∷ [])
each_onto P before xs x each fits = onto (λ _. P) before xs x each fits

pub each_free : {A : Type 0} (P : A → Type 0) (before other : Option A) (xs : List A)
    → Chain (λ _. P) before xs → Chain (λ _. P) other xs
each_free P before other [] each = tt
each_free P before other (x ∷ xs) each = each

pub each_set : {A : Type 0} (P : A → Type 0) (before : Option A) (xs : List A) (i : ℕ) (x : A)
    → Chain (λ _. P) before xs → P x → Chain (λ _. P) before (slice_set xs i x)
each_set P before [] i x each fits = tt
each_set P before (y ∷ xs) zero x each fits = (fits, each_free P (Some y) (Some x) xs each.1)
each_set P before (y ∷ xs) (suc i) x each fits = (each.0, each_set P (Some y) xs i x each.1 fits)
