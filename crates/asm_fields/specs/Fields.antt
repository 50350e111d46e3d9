-- The fields of a line, read from left to right up to the first fault.
use Rattle.std.specs.Prelude.{ℕ, ◌+◌, ◌≤◌, ◌==◌, int_le, Bool, true, false, ◌&&◌}
use Rattle.std.specs.Prelude.{if◌then◌else◌, List, [], ◌∷◌, length, drop, slice_range}
use Rattle.std.specs.Prelude.{ℤ, pos, neg_ℤ, nat_abs, Option, Some, None, Ok, Err}
use Rattle.text_scan.specs.declared.token.TokenKind.{TokenKind}
use Rattle.text_scan.specs.declared.token.TokenKind.TheVariants.{Name, Number, Sign}
use Rattle.text_scan.specs.declared.token.Token.{Token}
use Rattle.cap_words.specs.Names.{is_name}
use Rattle.readers.specs.Readers.{Reader, ◌>>=◌, done, unless_none, holds}
use Rattle.asm_fields.specs.declared.fault.AsmFault.{AsmFault}
use Rattle.asm_fields.specs.declared.fault.AsmFault.TheVariants.{Operand, Range}

-- ---- lines

-- a token with its bytes
pub record Lexeme : Type 0 where
  pub kind : TokenKind
  pub at : ℕ
  pub text : List ℕ

-- the token in its text
abbrev pub seen : List ℕ → Token → Lexeme
seen text t = record { kind = t.kind; at = t.at; text = slice_range text t.at (t.at + t.len) }

-- the tokens lie within the text
abbrev pub InText : List ℕ → List Token → Type 0
InText text [] = Unit {0}
InText text (t ∷ ts) = (t.at + t.len ≤ length text) × InText text ts

-- what is left of a line, and the place of the line's end
pub record Input : Type 0 where
  pub rest : List Lexeme
  pub end : ℕ

-- the place of what stands next: a field, or the line's end
abbrev pub place_in : List Lexeme → ℕ → ℕ
place_in [] end = end
place_in (f ∷ fs) end = f.at

abbrev pub place_of : Input → ℕ
place_of i = place_in i.rest i.end

-- after the next field
abbrev pub behind : Input → Input
behind i = record { rest = drop 1 i.rest; end = i.end }

-- ---- readers

-- the place of what stands next
abbrev pub place : Reader Input AsmFault ℕ
place i = Ok (place_of i, i)

-- the next field is taken where it is what is wanted
abbrev pub taken : {A : Type 0} → AsmFault → Option A → Reader Input AsmFault A
taken fault None i = Err fault
taken fault (Some x) i = Ok (x, behind i)

-- ---- what a field is

abbrev pub kind_next : List Lexeme → Option TokenKind
kind_next [] = None
kind_next (f ∷ fs) = Some f.kind

abbrev pub text_next : List Lexeme → List ℕ
text_next [] = []
text_next (f ∷ fs) = f.text

abbrev pub name_of : Option TokenKind → List ℕ → Option (List ℕ)
name_of (Some Name) text = Some text
name_of _ text = None

abbrev pub is_name_token : Option TokenKind → Bool
is_name_token (Some Name) = true
is_name_token _ = false

abbrev pub number_of_kind : Option TokenKind → Option ℕ
number_of_kind (Some (Number n)) = Some n
number_of_kind _ = None

abbrev pub is_sign : ℕ → Option TokenKind → Bool
is_sign sign (Some (Sign byte)) = byte == sign
is_sign sign _ = false

abbrev pub minus : ℕ
minus = 45

abbrev pub dot : ℕ
dot = 46

abbrev pub colon : ℕ
colon = 58

abbrev pub at_sign : ℕ
at_sign = 64

abbrev pub percent : ℕ
percent = 37

-- a name and a colon stand next
abbrev pub is_labelled : Input → Bool
is_labelled i = is_name_token (kind_next i.rest) && is_sign colon (kind_next (drop 1 i.rest))

-- nothing more stands in the line
abbrev pub is_empty : Input → Bool
is_empty i = length i.rest == 0

-- ---- names and signs

-- a name, or the fault
unfoldable pub name_or : AsmFault → Reader Input AsmFault (List ℕ)
name_or fault i = taken fault (name_of (kind_next i.rest) (text_next i.rest)) i

abbrev pub name_at : Reader Input AsmFault (List ℕ)
name_at i = name_or (Operand (place_of i)) i

-- a name as components have them, for a label or an operand: one of more than 31 bytes is none. Its field
-- begins at this place, which may be that of a sign
unfoldable pub proper_name_from : ℕ → Reader Input AsmFault (List ℕ)
proper_name_from at = do
  name ← name_or (Operand at)
  _ ← holds (is_name name) (Operand at)
  done name

abbrev pub proper_name_at : Reader Input AsmFault (List ℕ)
proper_name_at i = proper_name_from (place_of i) i

-- a name that means something
unfoldable pub meant : {A : Type 0} → (List ℕ → Option A) → Reader Input AsmFault A
meant meaning = do
  at ← place
  name ← name_at
  unless_none (Operand at) (meaning name)

-- whether the sign stands next; if so it is taken
unfoldable pub sign_at : ℕ → Reader Input AsmFault Bool
sign_at sign i = if is_sign sign (kind_next i.rest) then Ok (true, behind i) else Ok (false, i)

-- ---- numbers

-- a number; the field to which it belongs begins at this place
unfoldable pub number_from : ℕ → Reader Input AsmFault ℕ
number_from at i = taken (Operand at) (number_of_kind (kind_next i.rest)) i

abbrev pub signed : Bool → ℕ → ℤ
signed negative n = if negative then neg_ℤ (pos n) else pos n

-- a number with an optional `-` before it, from low to high
unfoldable pub integer_at : ℤ → ℤ → Reader Input AsmFault ℤ
integer_at low high = do
  at ← place
  negative ← sign_at minus
  n ← number_from at
  _ ← holds (int_le low (signed negative n) && int_le (signed negative n) high) (Range at)
  done (signed negative n)

-- the same where no number below 0 is right; 0 may be written `-0`
unfoldable pub natural_at : ℕ → ℕ → Reader Input AsmFault ℕ
natural_at low high = do
  n ← integer_at (pos low) (pos high)
  done (nat_abs n)

-- ---- the end

-- the line ends here
unfoldable pub end_at : Reader Input AsmFault (Unit {0})
end_at i = holds (is_empty i) (Operand (place_of i)) i
