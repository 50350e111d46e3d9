-- Names.
use Rattle.std.specs.Prelude.{ℕ, Bool, ◌&&◌, not, List, [], ◌∷◌, codes}
use Rattle.std.specs.List.{list_any}
use Rattle.std.specs.Str.{bytes_eq}
use Rattle.cap_words.specs.Names as part

-- the words of the grammar
abbrev pub reserved : List (List ℕ)
reserved =
    codes "module" ∷ codes "code" ∷ codes "data" ∷ codes "closure" ∷ codes "returns" ∷ codes "stack"
    ∷ codes "movable" ∷ codes "import" ∷ codes "global" ∷ codes "export" ∷ codes "proc" ∷ codes "local"
    ∷ codes "if" ∷ codes "else" ∷ codes "while" ∷ codes "return" ∷ codes "halt" ∷ []

unfoldable pub is_reserved : List ℕ → Bool
is_reserved text = list_any (λ word. bytes_eq word text) reserved

-- a name of a part, and no word of the grammar
unfoldable pub is_source_name : List ℕ → Bool
is_source_name text = part.is_name text && not (is_reserved text)
