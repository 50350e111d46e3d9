-- The kinds of bytes in a text.
use Rattle.std.specs.Prelude.{ℕ, ◌==◌, nat_le, Bool, ◌&&◌, ◌||◌, List, codes}
use Rattle.std.specs.List.{list_any}

-- `#`, which begins a comment
abbrev pub hash : ℕ
hash = 35

-- `=`, the one sign that can stand twice
abbrev pub equals : ℕ
equals = 61

abbrev pub newline : ℕ
newline = 10

abbrev pub is_newline : ℕ → Bool
is_newline b = b == newline

-- 0 to 9
abbrev pub is_digit : ℕ → Bool
is_digit b = nat_le 48 b && nat_le b 57

-- a to z, and _
abbrev pub is_name_start : ℕ → Bool
is_name_start b = (nat_le 97 b && nat_le b 122) || (b == 95)

abbrev pub is_name_byte : ℕ → Bool
is_name_byte b = is_name_start b || is_digit b

-- a space, a tab, a carriage return
abbrev pub is_blank : ℕ → Bool
is_blank b = (b == 32) || (b == 9) || (b == 13)

abbrev pub signs : List ℕ
signs = codes ".,:;()[]{}=<+-/@%"

unfoldable pub is_sign : ℕ → Bool
is_sign b = list_any (λ s. s == b) signs

-- a piece of a line begins with the byte
abbrev pub begins_piece : ℕ → Bool
begins_piece b = is_blank b || (b == hash) || is_name_start b || is_digit b || is_sign b
