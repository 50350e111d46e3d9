-- What is left of a list that is gone through, and what holds of each item.
use Rattle.std.proofs.Common.{◌≡◌, sym, ◌∙◌, ap, subst, ℕ, zero, suc, ◌+◌, ◌<◌, List, [], ◌∷◌, length}
use Rattle.std.proofs.Common.{get_or, drop, Some, None}
use Rattle.std.specs.Prelude.{slice_get}
use Rattle.std.proofs.lemmas.List.{drop_more}
use Rattle.proc_language.specs.Limits.{Each}

-- from an item on
pub drop_item : {A : Type 0} (xs : List A) (i : ℕ) (x : A) → i < length xs → x ≡ get_or xs i x
    → drop i xs ≡ x ∷ drop (i + 1) xs
drop_item xs i x below is = drop_more xs i x below ∙ ap (λ y. y ∷ drop (i + 1) xs) (sym is)

-- what holds of each item holds of the one at an index
pub each_at : {A : Type 0} (P : A → Type 0) (xs : List A) (i : ℕ) (x : A) → Each P xs
    → slice_get xs i ≡ Some x → P x
each_at P [] i x h e = absurd (let z : None ≡ Some x = e in cc)
each_at P (y ∷ ys) zero x h e = let s : y ≡ x = cc in subst P s h.0
each_at P (y ∷ ys) (suc i) x h e = each_at P ys i x h.1 e
