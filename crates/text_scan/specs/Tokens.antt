-- The tokens of a text, or its first fault.
use Rattle.std.specs.Prelude.{◌≡◌, ℕ, zero, suc, ◌+◌, ◌-◌, ◌==◌, nat_le, Bool, true, ◌&&◌, if◌then◌else◌}
use Rattle.std.specs.Prelude.{List, [], ◌∷◌, ◌++◌, length, slice_index, Option, Some, None, Result, Ok, Err}
use Rattle.std.specs.List.{prefix_len, take_while, slice_split, list_all}
use Rattle.std.specs.Str.Parse.{digits_value}
use Rattle.readers.specs.Answers.{Fails}
use Rattle.readers.specs.Results.{◌>>=◌}
use Rattle.text_scan.specs.declared.TheConstants.{LONGEST_LINE, LARGEST_NUMBER}
use Rattle.text_scan.specs.declared.token.TokenKind.{TokenKind}
use Rattle.text_scan.specs.declared.token.TokenKind.TheVariants.{Name, Number, Sign, Equal, NewLine}
use Rattle.text_scan.specs.declared.token.Token.{Token}
use Rattle.text_scan.specs.declared.fault.ScanFault.{ScanFault}
use Rattle.text_scan.specs.declared.fault.ScanFault.TheVariants.{BadByte, NumberTooLarge, LineTooLong}
use Rattle.text_scan.specs.declared.piece.Piece.{Piece}
use Rattle.text_scan.specs.Bytes.{hash, equals, is_newline}
use Rattle.text_scan.specs.Bytes.{is_digit, is_name_start, is_name_byte, is_blank, is_sign}
use Rattle.text_scan.specs.Fault.{is_refusal}

-- A text is lines, and a line is pieces. A piece is a token, or a blank or a comment, which are no tokens.

-- ---- pieces: each is as long as can be

-- the first byte, and 0 where there is none
abbrev pub first_of : List ℕ → ℕ
first_of text = slice_index text 0

abbrev pub AreDigits : List ℕ → Type 0
AreDigits digits = list_all is_digit digits ≡ true

-- the number that the digits spell, which begin at a place of the text
unfoldable pub number_piece : ℕ → List ℕ → Result Piece ScanFault
number_piece at digits =
    if nat_le (digits_value 10 digits) LARGEST_NUMBER
    then Ok (record { kind = Some (Number (digits_value 10 digits)); len = length digits })
    else Err (NumberTooLarge at)

abbrev pub begins_equal : List ℕ → Bool
begins_equal text = (first_of text == equals) && (slice_index text 1 == equals)

-- the first piece of what is left of a line, which stands at a place of the text
unfoldable pub piece_at : ℕ → List ℕ → Result Piece ScanFault
piece_at at text =
    if is_blank (first_of text) then Ok (record { kind = None; len = 1 })
    else if first_of text == hash then Ok (record { kind = None; len = length text })
    else if is_name_start (first_of text)
    then Ok (record { kind = Some Name; len = prefix_len is_name_byte text })
    else if is_digit (first_of text) then number_piece at (take_while is_digit text)
    else if begins_equal text then Ok (record { kind = Some Equal; len = 2 })
    else if is_sign (first_of text) then Ok (record { kind = Some (Sign (first_of text)); len = 1 })
    else Err (BadByte at)

-- ---- lines

-- the token of a piece that is one
abbrev pub token_of : ℕ → Option TokenKind → ℕ → List Token
token_of at None len = []
token_of at (Some kind) len = record { kind = kind; at = at; len = len } ∷ []

-- the tokens of what is left of a line, of which the first bytes belong to the piece before
unfoldable pub line_from : ℕ → ℕ → List ℕ → Result (List Token) ScanFault
line_from at skip [] = Ok []
line_from at (suc skip) (b ∷ text) = line_from (at + 1) skip text
line_from at zero (b ∷ text) = do
  piece ← piece_at at (b ∷ text)
  others ← line_from (at + 1) (piece.len - 1) text
  Ok (token_of at piece.kind piece.len ++ others)

-- A line that is too long is a fault at its first byte too many. What is wrong there or before comes first.
abbrev pub in_long_line : ℕ → ℕ → Result (List Token) ScanFault → Result (List Token) ScanFault
in_long_line line limit (Err (BadByte at)) =
    if nat_le at limit then Err (BadByte at) else Err (LineTooLong line)
in_long_line line limit (Err (NumberTooLarge at)) =
    if nat_le at limit then Err (NumberTooLarge at) else Err (LineTooLong line)
in_long_line line limit _ = Err (LineTooLong line)

-- the tokens of a line, by its number and place
unfoldable pub line_tokens : ℕ → ℕ → List ℕ → Result (List Token) ScanFault
line_tokens line at text =
    if nat_le (length text) LONGEST_LINE then line_from at 0 text
    else in_long_line line (at + LONGEST_LINE) (line_from at 0 text)

-- ---- the text

abbrev pub newline_at : ℕ → Token
newline_at at = record { kind = NewLine; at = at; len = 1 }

-- the tokens of lines, by the number and place of the first, with the newlines between them
unfoldable pub lines_from : ℕ → ℕ → List (List ℕ) → Result (List Token) ScanFault
lines_from line at [] = Ok []
lines_from line at (text ∷ []) = line_tokens line at text
lines_from line at (text ∷ next ∷ lines) = do
  first ← line_tokens line at text
  others ← lines_from (line + 1) (at + length text + 1) (next ∷ lines)
  Ok (first ++ newline_at (at + length text) ∷ others)

-- the tokens of a text, or its first fault: lines count from 1, and places from 0
unfoldable pub scanned : List ℕ → Result (List Token) ScanFault
scanned text = lines_from 1 0 (slice_split is_newline text)

-- ---- for the steps of reading

-- what is read after tokens that were read before
abbrev pub with_front : List Token → Result (List Token) ScanFault → Result (List Token) ScanFault
with_front front read = read >>= λ tokens. Ok (front ++ tokens)

-- what was read stands after the tokens that were there, unless memory was refused
abbrev pub Appends : {A : Type 0}
    → Result A ScanFault → List Token → List Token → Result (List Token) ScanFault → Type 0
Appends (Ok x) old new read = with_front old read ≡ Ok new
Appends (Err e) old new read = Fails is_refusal e read

-- the lines after a newline, where there is one
abbrev pub lines_behind : Option (List ℕ) → List (List ℕ)
lines_behind None = []
lines_behind (Some text) = slice_split is_newline text
