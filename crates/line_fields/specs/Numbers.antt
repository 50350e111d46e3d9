-- Numbers as they are written: decimal, with no zero in front, and no plus.
use Rattle.std.specs.Prelude.{ℕ, zero, suc, ◌+◌, ℤ, pos, negsuc, ◌==◌, nat_le, nat_lt, Bool, ◌&&◌, ◌||◌, not}
use Rattle.std.specs.Prelude.{List, length, drop, slice_index, Option, Some, None, option_map, if◌then◌else◌}
use Rattle.std.specs.Prelude.{option_and_then}
use Rattle.std.specs.List.{list_all}
use Rattle.std.specs.Str.Parse.{digits_value}
use Rattle.cap_words.specs.Names.{is_digit}
use Rattle.line_fields.specs.declared.TheConstants.{LAST_NATURAL, LAST_INTEGER}
use Rattle.line_fields.specs.Options.{where_true}

-- a zero stands in front of nothing
abbrev pub is_plain : List ℕ → Bool
is_plain text = (length text == 1) || not (slice_index text 0 == 48)

abbrev pub are_digits : List ℕ → Bool
are_digits text = nat_lt 0 (length text) && (is_plain text && list_all is_digit text)

-- the number that the text is, where it is at most so large
unfoldable pub number_in : ℕ → List ℕ → Option ℕ
number_in most text =
    where_true (are_digits text && nat_le (digits_value 10 text) most) (digits_value 10 text)

-- a number of 32 bits
abbrev pub natural_in : List ℕ → Option ℕ
natural_in text = number_in LAST_NATURAL text

-- a number after a minus, which isn't 0
abbrev pub negative : ℕ → Option ℤ
negative zero = None
negative (suc n) = Some (negsuc n)

-- an integer of 64 bits
unfoldable pub integer_in : List ℕ → Option ℤ
integer_in text =
    if slice_index text 0 == 45 then option_and_then negative (number_in (LAST_INTEGER + 1) (drop 1 text))
    else option_map pos (number_in LAST_INTEGER text)
