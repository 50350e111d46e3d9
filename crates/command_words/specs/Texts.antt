-- Words by their bytes.
use Rattle.std.specs.Prelude.{ℕ, List, map, Option, option_map, String}
use Rattle.std.specs.Borrow.{Bor}
use Rattle.std.specs.String.{string_bytes}

abbrev pub Text : Type 0
Text = List ℕ

-- the words of a list of strings
abbrev pub texts : {A : Type 0} → List (String A) → List Text
texts words = map string_bytes words

-- the same where the code borrows them
abbrev pub texts_of : List (Bor Text) → List Text
texts_of = map (λ w. w.now)

abbrev pub text_of : Option (Bor Text) → Option Text
text_of = option_map (λ w. w.now)

abbrev pub all_texts : Option (Bor (List (Bor Text))) → Option (List Text)
all_texts = option_map (λ p. texts_of p.now)
