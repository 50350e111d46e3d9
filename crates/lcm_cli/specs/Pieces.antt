-- A text in the pieces in which it is written.
use Rattle.std.specs.Prelude.{ℕ, List, [], ◌∷◌, if◌then◌else◌}
use Rattle.text_scan.specs.Bytes.{is_newline}

-- a byte in front of the first of some lines
abbrev pub before_first : ℕ → List (List ℕ) → List (List ℕ)
before_first b [] = (b ∷ []) ∷ []
before_first b (line ∷ more) = (b ∷ line) ∷ more

-- the lines of a text, each with its newline, and what stands after the last newline
abbrev pub cut_lines : List ℕ → List (List ℕ)
cut_lines [] = []
cut_lines (b ∷ bs) = if is_newline b then (b ∷ []) ∷ cut_lines bs else before_first b (cut_lines bs)
