-- A text that grows by what is said of each item of a list.
use Rattle.std.proofs.Common.{◌≡◌, ℕ, ◌+◌, ◌<◌, List, ◌∷◌, [], ◌++◌, length, take, get_or, sym, ap, ◌∙◌}
use Rattle.std.specs.List.{flat_map}
use Rattle.std.proofs.lemmas.List.{flat_map_more, take_more}

-- one item more
pub text_more : {A : Type 0} (f : A → List ℕ) (xs : List A) (i : ℕ) (d : A) (start text now : List ℕ)
    → i < length xs → text ≡ start ++ flat_map f (take i xs) → now ≡ text ++ f (get_or xs i d)
    → now ≡ start ++ flat_map f (take (i + 1) xs)
text_more f xs i d start text now within before after =
    after ∙ ap (λ t. t ++ f (get_or xs i d)) before
    ∙ flat_map_more f start (take i xs) (get_or xs i d)
    ∙ ap (λ ys. start ++ flat_map f ys) (sym (take_more xs i d within))
