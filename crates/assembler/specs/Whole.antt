-- All lines of a text.
use Rattle.std.specs.Prelude.{◌≡◌, ℕ, ◌==◌, Bool, true, false, ◌&&◌, if◌then◌else◌, List, [], ◌∷◌}
use Rattle.std.specs.Prelude.{length, map, Result, Ok, Err}
use Rattle.text_scan.specs.declared.token.TokenKind.{TokenKind}
use Rattle.text_scan.specs.declared.token.TokenKind.TheVariants.{NewLine}
use Rattle.text_scan.specs.declared.token.Token.{Token}
use Rattle.asm_fields.specs.declared.fault.AsmFault.{AsmFault}
use Rattle.asm_fields.specs.declared.fault.AsmFault.TheVariants.{Section}
use Rattle.readers.specs.Answers.{Fails}
use Rattle.asm_fields.specs.Fault.{is_refusal}
use Rattle.asm_fields.specs.Fields.{Lexeme, Input, seen}
use Rattle.assembler.specs.Order.{reaches_data}
use Rattle.assembler.specs.Draft.{Draft, nothing, may_end}
use Rattle.assembler.specs.Lines.{line_in}

abbrev pub is_newline : TokenKind → Bool
is_newline NewLine = true
is_newline _ = false

-- a field before the first line
abbrev pub onto_first : Lexeme → List Input → List Input
onto_first f [] = []
onto_first f (line ∷ lines) = record line { rest = f ∷ line.rest } ∷ lines

-- the lines of a text: each ends at its newline, the last at the end of the text
unfoldable pub lines_of : List Lexeme → ℕ → List Input
lines_of [] end = record { rest = []; end = end } ∷ []
lines_of (f ∷ fields) end =
    if is_newline f.kind then record { rest = []; end = f.at } ∷ lines_of fields end
    else onto_first f (lines_of fields end)

abbrev pub goes_to : {A : Type 0}
    → Result (Draft × Input) AsmFault → (Draft → Result A AsmFault) → Result A AsmFault
goes_to (Ok x) f = f x.0
goes_to (Err e) f = Err e

-- a line without tokens changes nothing
unfoldable pub line_or_none : Draft → Input → Result (Draft × Input) AsmFault
line_or_none d i = if length i.rest == 0 then Ok (d, i) else line_in d i

-- each line in its turn, up to the first fault
unfoldable pub drafted : Draft → List Input → Result Draft AsmFault
drafted d [] = Ok d
drafted d (line ∷ lines) = goes_to (line_or_none d line) (λ new. drafted new lines)

-- the text may end here, at its length: with its data
abbrev pub ended : ℕ → Draft → Result Draft AsmFault
ended end d = if reaches_data d.last && may_end d then Ok d else Err (Section end)

abbrev pub ended_all : ℕ → Result Draft AsmFault → Result Draft AsmFault
ended_all end (Ok d) = ended end d
ended_all end (Err e) = Err e

-- the draft that a text makes, which has these tokens
unfoldable pub draft_of_text : List ℕ → List Token → Result Draft AsmFault
draft_of_text text tokens =
    ended_all (length text) (drafted nothing (lines_of (map (seen text) tokens) (length text)))

-- ---- what a call answers

-- the draft that a line makes; what is left of the line doesn't matter
abbrev pub MakesLine : Result (Unit {0}) AsmFault → Draft → Result (Draft × Input) AsmFault → Type 0
MakesLine (Ok x) new read = goes_to read (λ d. Ok d) ≡ Ok new
MakesLine (Err e) new read = Fails is_refusal e read
