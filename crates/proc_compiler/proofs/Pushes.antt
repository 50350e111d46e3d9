-- A loop pushes one thing for each item of a list.
use Rattle.std.proofs.Common.{◌≡◌, ℕ, ◌+◌, ◌<◌, List, [], ◌∷◌, ◌++◌, length, map, take, get_or, sym, ap, ◌∙◌}
use Rattle.std.proofs.Common.{append_assoc}
use Rattle.std.proofs.lemmas.List.{map_more}

pub pushed_more : {A B : Type 0} (f : A → B) (xs : List A) (i : ℕ) (d : A) (old items new : List B) (y : B)
    → i < length xs → y ≡ f (get_or xs i d) → items ≡ old ++ map f (take i xs) → new ≡ items ++ y ∷ []
    → new ≡ old ++ map f (take (i + 1) xs)
pushed_more f xs i d old items new y lt is before after =
    after
    ∙ ap (λ ys. ys ++ y ∷ []) before
    ∙ append_assoc old (map f (take i xs)) (y ∷ [])
    ∙ ap (λ z. old ++ (map f (take i xs) ++ z ∷ [])) is
    ∙ ap (λ ys. old ++ ys) (sym (map_more f xs i d lt))
