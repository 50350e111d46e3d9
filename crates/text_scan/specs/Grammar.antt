-- What a text is made of, apart from the way in which it is read.
use Rattle.std.specs.Prelude.{◌≡◌, ℕ, ◌+◌, ◌<◌, ◌≤◌, true, false, List, [], ◌∷◌, ◌++◌, length, slice_range}
use Rattle.std.specs.Prelude.{Option, Some, None, ◌⊎◌}
use Rattle.std.specs.List.{list_all, slice_split, take_while}
use Rattle.std.specs.Str.Parse.{digits_value}
use Rattle.text_scan.specs.declared.TheConstants.{LONGEST_LINE, LARGEST_NUMBER}
use Rattle.text_scan.specs.declared.token.TokenKind.{TokenKind}
use Rattle.text_scan.specs.declared.token.TokenKind.TheVariants.{Name, Number, Sign, Equal, NewLine}
use Rattle.text_scan.specs.declared.token.Token.{Token}
use Rattle.text_scan.specs.declared.fault.ScanFault.{ScanFault}
use Rattle.text_scan.specs.declared.fault.ScanFault.TheVariants.{BadByte, NumberTooLarge, LineTooLong}
use Rattle.text_scan.specs.Bytes.{hash, equals, newline, is_newline, begins_piece}
use Rattle.text_scan.specs.Bytes.{is_digit, is_name_start, is_name_byte, is_blank, is_sign}
use Rattle.text_scan.specs.Fault.{fault_place}
use Rattle.text_scan.specs.Tokens.{first_of, AreDigits, token_of, newline_at}

-- ---- tokens and their bytes

pub record IsName (text : List ℕ) : Type 0 where
  pub some : 0 < length text
  pub start : is_name_start (first_of text) ≡ true
  pub bytes : list_all is_name_byte text ≡ true

pub record IsNumber (n : ℕ) (text : List ℕ) : Type 0 where
  pub some : 0 < length text
  pub digits : AreDigits text
  pub value : digits_value 10 text ≡ n
  pub small : n ≤ LARGEST_NUMBER

-- the bytes are those of such a token
abbrev pub IsTokenText : TokenKind → List ℕ → Type 0
IsTokenText Name text = IsName text
IsTokenText (Number n) text = IsNumber n text
IsTokenText (Sign s) text = (text ≡ s ∷ []) × (is_sign s ≡ true)
IsTokenText Equal text = text ≡ equals ∷ equals ∷ []
IsTokenText NewLine text = text ≡ newline ∷ []

-- the token ends before what follows it in its line; a newline stands in no line
abbrev pub IsLongest : TokenKind → List ℕ → Type 0
IsLongest Name after = is_name_byte (first_of after) ≡ false
IsLongest (Number n) after = is_digit (first_of after) ≡ false
IsLongest (Sign s) after = s ≡ equals → first_of after ≡ equals → ⊥
IsLongest Equal after = Unit {0}
IsLongest NewLine after = ⊥

-- ---- lines

abbrev pub IsBlank : List ℕ → Type 0
IsBlank text = (b : ℕ) × (text ≡ b ∷ []) × (is_blank b ≡ true)

-- a comment goes up to the line's end
abbrev pub IsComment : List ℕ → List ℕ → Type 0
IsComment text after = (more : List ℕ) × (text ≡ hash ∷ more) × (after ≡ [])

-- the bytes are a piece of a line, of this token or none, and what follows is no part of it
abbrev pub IsPiece : Option TokenKind → List ℕ → List ℕ → Type 0
IsPiece None text after = IsBlank text ⊎ IsComment text after
IsPiece (Some kind) text after = IsTokenText kind text × IsLongest kind after

-- the line is these pieces, one after another
abbrev pub IsCut : List (Option TokenKind × List ℕ) → List ℕ → Type 0
IsCut [] line = line ≡ []
IsCut (p ∷ pieces) line =
    (after : List ℕ) × (line ≡ p.1 ++ after) × IsPiece p.0 p.1 after × IsCut pieces after

-- the tokens of pieces, the first of which stands at a place of the text
abbrev pub tokens_at : ℕ → List (Option TokenKind × List ℕ) → List Token
tokens_at at [] = []
tokens_at at (p ∷ pieces) = token_of at p.0 (length p.1) ++ tokens_at (at + length p.1) pieces

-- a line that stands at a place of the text, and its tokens
pub record IsLine (at : ℕ) (line : List ℕ) (tokens : List Token) : Type 0 where
  pub short : length line ≤ LONGEST_LINE
  pub pieces : List (Option TokenKind × List ℕ)
  pub cut : IsCut pieces line
  pub are : tokens ≡ tokens_at at pieces

-- ---- texts

-- lines, the first of which stands at a place of the text, and their tokens, with the newlines between them
abbrev pub AreLines : ℕ → List (List ℕ) → List Token → Type 0
AreLines at [] tokens = tokens ≡ []
AreLines at (line ∷ []) tokens = IsLine at line tokens
AreLines at (line ∷ next ∷ lines) tokens =
    (first others : List Token) × IsLine at line first × AreLines (at + length line + 1) (next ∷ lines) others
    × (tokens ≡ first ++ newline_at (at + length line) ∷ others)

-- the text has these tokens
abbrev pub HasTokens : List ℕ → List Token → Type 0
HasTokens text tokens = AreLines 0 (slice_split is_newline text) tokens

-- ---- faults

-- what is wrong where the rest of a line begins, at a place of the text
abbrev pub IsWrong : ℕ → List ℕ → ScanFault → Type 0
IsWrong at rest (BadByte p) = (p ≡ at) × (0 < length rest) × (begins_piece (first_of rest) ≡ false)
IsWrong at rest (NumberTooLarge p) =
    (p ≡ at) × (is_digit (first_of rest) ≡ true)
    × (LARGEST_NUMBER < digits_value 10 (take_while is_digit rest))
IsWrong at rest _ = ⊥

-- a line that stands at a place of the text goes wrong so after these pieces
abbrev pub GoesWrong : ℕ → List (Option TokenKind × List ℕ) → List ℕ → ScanFault → Type 0
GoesWrong at [] line fault = IsWrong at line fault
GoesWrong at (p ∷ pieces) line fault =
    (after : List ℕ) × (line ≡ p.1 ++ after) × IsPiece p.0 p.1 after
    × GoesWrong (at + length p.1) pieces after fault

abbrev pub HasWrong : ℕ → List ℕ → ScanFault → Type 0
HasWrong at line fault = (pieces : List (Option TokenKind × List ℕ)) × GoesWrong at pieces line fault

-- the fault of a line, by its number and place: what goes wrong up to its 513th byte, or else its length
abbrev pub LineFails : ℕ → ℕ → List ℕ → ScanFault → Type 0
LineFails number at line fault =
    (HasWrong at line fault × (fault_place fault ≤ at + LONGEST_LINE))
    ⊎ ((LONGEST_LINE < length line) × (fault ≡ LineTooLong number)
    × ((other : ScanFault) → HasWrong at line other → at + LONGEST_LINE < fault_place other))

-- the first fault of lines, by the number and place of the first line
abbrev pub LinesFail : ℕ → ℕ → List (List ℕ) → ScanFault → Type 0
LinesFail number at [] fault = ⊥
LinesFail number at (line ∷ lines) fault =
    LineFails number at line fault
    ⊎ ((tokens : List Token) × IsLine at line tokens
    × LinesFail (number + 1) (at + length line + 1) lines fault)

-- the first fault of the text: lines count from 1
abbrev pub HasFault : List ℕ → ScanFault → Type 0
HasFault text fault = LinesFail 1 0 (slice_split is_newline text) fault

-- ---- what follows

-- the tokens stand one after another between two places
abbrev pub Placed : ℕ → ℕ → List Token → Type 0
Placed low high [] = low ≤ high
Placed low high (t ∷ tokens) = (low ≤ t.at) × Placed (t.at + t.len) high tokens

-- the token's bytes in the text are those of such a token
abbrev pub IsSpelled : List ℕ → Token → Type 0
IsSpelled text t = IsTokenText t.kind (slice_range text t.at (t.at + t.len))
