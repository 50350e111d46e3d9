-- Where a text stops to be the beginning of a module, and where a limit is passed.
use Rattle.std.specs.Prelude.{◌≡◌, ℕ, List, [], ◌∷◌, ◌++◌, Some}
use Rattle.phrases.specs.Reading.{first}
use Rattle.proc_grammar.specs.declared.fault.ParseFault.{ParseFault}
use Rattle.proc_grammar.specs.Fault.{limit_place}
use Rattle.proc_grammar.specs.Makes.{Actions}
use Rattle.proc_grammar.specs.Lexemes.{Lexeme}
use Rattle.proc_grammar.specs.Grammar.{IsLoose}
use Rattle.proc_grammar.specs.Reader.{place_in}

module _ {E A S P V R M : Type 0} (T : Actions E A S P V R M) where
  -- a module begins with these tokens, limits passed over
  abbrev pub Begins : List Lexeme → Type 0
  Begins tokens = (more : List Lexeme) × (m : M) × IsLoose T (tokens ++ more) m

-- The tokens before this place begin a module, limits passed over; and with the token that stands there,
-- or with the text's end, no module goes on.
pub record IsExpected {E A S P V R M : Type 0} (T : Actions E A S P V R M) (tokens : List Lexeme)
    (end at : ℕ) : Type 0 where
  pub before : List Lexeme
  pub rest : List Lexeme
  pub parts : tokens ≡ before ++ rest
  pub there : at ≡ place_in rest end
  pub begun : Begins T before
  pub stuck : (more : List Lexeme) (m : M) → first more ≡ first rest → IsLoose T (before ++ more) m → ⊥

-- the fault is that of a limit, at one of these tokens
abbrev pub StandsIn : List Lexeme → ParseFault → Type 0
StandsIn tokens fault =
    (before : List Lexeme) × (t : Lexeme) × (behind : List Lexeme)
    × (tokens ≡ before ++ t ∷ behind) × (limit_place fault ≡ Some t.at)

-- the fault is that of a limit, at a token up to which the tokens begin a module, limits passed over
pub record IsBeyond {E A S P V R M : Type 0} (T : Actions E A S P V R M) (tokens : List Lexeme)
    (fault : ParseFault) : Type 0 where
  pub before : List Lexeme
  pub token : Lexeme
  pub behind : List Lexeme
  pub parts : tokens ≡ before ++ token ∷ behind
  pub there : limit_place fault ≡ Some token.at
  pub begun : Begins T (before ++ token ∷ [])
