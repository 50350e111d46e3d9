-- Pieces that are written one after another, and what they are together.
use Rattle.std.proofs.Common.{◌≡◌, ◌∙◌, sym, ℕ, List, [], ◌∷◌, ◌++◌, append_assoc, append-nil}
use Rattle.std.specs.List.{concat}

-- a text with pieces after it, in the order in which they were written
abbrev pub all_after : List ℕ → List (List ℕ) → List ℕ
all_after text [] = text
all_after text (piece ∷ pieces) = all_after (text ++ piece) pieces

pub glued : (text : List ℕ) (pieces : List (List ℕ)) → all_after text pieces ≡ text ++ concat pieces
glued text [] = sym (append-nil text)
glued text (piece ∷ pieces) = glued (text ++ piece) pieces ∙ append_assoc text piece (concat pieces)
