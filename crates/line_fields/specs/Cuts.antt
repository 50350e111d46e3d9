-- Texts cut at the marks in them.
use Rattle.std.specs.Prelude.{ℕ, ◌==◌, nat_lt, Bool, List, [], length, take, drop, Option, Some, None}
use Rattle.std.specs.Prelude.{if◌then◌else◌}
use Rattle.std.specs.List.{slice_split, position_or_len, before_first, after_first}
use Rattle.std.specs.Str.{bytes_eq}

abbrev pub is_mark : ℕ → ℕ → Bool
is_mark mark b = b == mark

-- what stands before the first mark, and what after it, where there is one
unfoldable pub cut : ℕ → List ℕ → Option (List ℕ × List ℕ)
cut mark text =
    if nat_lt (position_or_len (is_mark mark) text) (length text)
    then Some (before_first (is_mark mark) text, after_first (is_mark mark) text) else None

-- what stands between marks: at least one part, and one more for each mark
unfoldable pub parts : ℕ → List ℕ → List (List ℕ)
parts mark text = slice_split (is_mark mark) text

-- of what is left of a text, if anything
abbrev pub parts_left : ℕ → Option (List ℕ) → List (List ℕ)
parts_left mark None = []
parts_left mark (Some text) = parts mark text

-- what stands after a front, where the text begins with it
unfoldable pub behind : List ℕ → List ℕ → Option (List ℕ)
behind front text =
    if bytes_eq (take (length front) text) front then Some (drop (length front) text) else None
