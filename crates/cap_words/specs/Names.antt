-- Names: of components, of their exports and of what they import.
use Rattle.std.specs.Prelude.{ℕ, ◌==◌, nat_le, Bool, ◌&&◌, ◌||◌, not, List, length, slice_index}
use Rattle.std.specs.List.{list_all}
use Rattle.cap_words.specs.declared.TheConstants.{LONGEST_NAME}

abbrev pub is_digit : ℕ → Bool
is_digit b = nat_le 48 b && nat_le b 57

-- a to z, 0 to 9, and _
abbrev pub is_name_byte : ℕ → Bool
is_name_byte b = (nat_le 97 b && nat_le b 122) || is_digit b || (b == 95)

-- a number of such bytes within bounds, the first of them no digit
unfoldable pub is_name : List ℕ → Bool
is_name text =
    nat_le 1 (length text) && nat_le (length text) LONGEST_NAME
    && not (is_digit (slice_index text 0)) && list_all is_name_byte text
