-- Readers of a source's tokens.
use Rattle.std.specs.Prelude.{ℕ, List, Option, Some, None}
use Rattle.phrases.specs.Reading as readers
use Rattle.proc_grammar.specs.declared.fault.ParseFault.{ParseFault}
use Rattle.proc_grammar.specs.declared.fault.ParseFault.TheVariants.{Expected, TooMany}
use Rattle.proc_grammar.specs.Lexemes.{Lexeme, Meaning, word}

abbrev pub Input : Type 0
Input = readers.Input Lexeme

abbrev pub tells : readers.Tells Lexeme ParseFault
tells = record { at = λ t. t.at; expected = Expected; too_many = TooMany }

abbrev pub Reader : Type 0 → Type 0
Reader = readers.Reader Lexeme ParseFault

-- the place of the next token, or the text's end
abbrev pub place_in : List Lexeme → ℕ → ℕ
place_in = readers.place_in tells

abbrev pub place : Input → ℕ
place = readers.place tells

abbrev pub expected : {A : Type 0} → Reader A
expected = readers.expected tells

abbrev pub one : {A : Type 0} → Meaning A → Reader A
one = readers.one tells

-- how it goes on after this word, which stands only where there are tokens, else how it goes on at it
abbrev pub case_token : {K A : Type 0} → Option K → List ℕ → (K → ℕ → Reader A) → Reader A → Reader A
case_token None w f r = r
case_token (Some k) w f r = readers.case_next (word w) (f k) r

abbrev pub many : {S A B : Type 0} → ℕ → Meaning B → (S → A → S) → (S → Reader A) → S → Reader (List A)
many = readers.many tells
