-- What the calls of reading answer.
use Rattle.std.specs.Prelude.{◌≡◌, ℕ, ◌+◌, ◌≤◌, List, [], ◌∷◌, length, Option, Some, None, Result, Ok, Err}
use Rattle.std.specs.Prelude.{option_map}
use Rattle.text_scan.specs.declared.token.Token.{Token}
use Rattle.phrases.specs.Reading.{behind}
use Rattle.proc_grammar.specs.declared.fault.ParseFault.{ParseFault}
use Rattle.proc_grammar.specs.Fault.{Fails}
use Rattle.proc_language.specs.declared.TheConstants.{MOST_TOKENS}
use Rattle.proc_grammar.specs.Grammar.{Taken}
use Rattle.proc_grammar.specs.Lexemes.{Meaning, name_text}
use Rattle.proc_grammar.specs.Reader.{Input}

-- the tokens lie within the text
abbrev pub InText : List ℕ → List Token → Type 0
InText text [] = Unit {0}
InText text (t ∷ ts) = (t.at + t.len ≤ length text) × InText text ts

-- what the reader reads, the value seen by view, unless memory was refused; after a fault, what is left isn't
-- said
abbrev pub GivesAs : {X A : Type 0} → (X → A) → Result X ParseFault → Input → Result (A × Input) ParseFault
    → Type 0
GivesAs view (Ok x) left read = read ≡ Ok (view x, left)
GivesAs view (Err e) left read = Fails e read

abbrev pub Gives : {A : Type 0} → Result A ParseFault → Input → Result (A × Input) ParseFault → Type 0
Gives answer left read = GivesAs (λ x. x) answer left read

-- the bytes and the place of a name or a word
abbrev pub text_at : Meaning (List ℕ × ℕ)
text_at t = option_map (λ text. (text, t.at)) (name_text t.kind t.text)

-- what is left where the next token was taken, if it meant something
abbrev pub left_by : {A : Type 0} → Option A → Input → Input
left_by None i = i
left_by (Some x) i = behind i

-- what is read where the language has tokens, by what it makes of them
abbrev pub GivesBy : {K A : Type 0} → Option K → Result A ParseFault → Input
    → (K → Result (A × Input) ParseFault) → Type 0
GivesBy {K} tokens answer left read = (makes : K) → tokens ≡ Some makes → Gives answer left (read makes)

-- not more slots than these, and no more tokens than a procedure may have
abbrev pub AreFew : ℕ → Taken → Type 0
AreFew most used = (used.slots ≤ most) × (used.tokens ≤ MOST_TOKENS)
