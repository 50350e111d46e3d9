-- The module that a text spells in a language, or its first fault.
use Rattle.std.specs.Prelude.{◌<◌, ℕ, List, [], ◌∷◌, length, Result, Ok, Err, if◌then◌else◌}
use Rattle.text_scan.specs.declared.token.Token.{Token}
use Rattle.text_scan.specs.declared.fault.ScanFault.{ScanFault}
use Rattle.text_scan.specs.Tokens.{scanned}
use Rattle.text_scan.specs.Grammar.{HasTokens, HasFault}
use Rattle.proc_grammar.specs.declared.fault.ParseFault.{ParseFault}
use Rattle.proc_grammar.specs.declared.fault.ParseFault.TheVariants.{Scan, Expected, Range, TooMany, NoMemory}
use Rattle.proc_grammar.specs.Makes.{Actions}
use Rattle.proc_grammar.specs.Grammar.{IsText}
use Rattle.proc_grammar.specs.Lexemes.{lexemes, is_line_end}
use Rattle.proc_grammar.specs.Reading.{full, parsed}
use Rattle.proc_grammar.specs.Stuck.{IsExpected, IsBeyond}

-- the tokens that end no line
abbrev pub proper : List Token → List Token
proper [] = []
proper (t ∷ tokens) = if is_line_end t.kind then proper tokens else t ∷ proper tokens

module _ {E A S P V R M : Type 0} (T : Actions E A S P V R M) where
  abbrev pub parsed_scan : List ℕ → Result (List Token) ScanFault → Result M ParseFault
  parsed_scan text (Ok tokens) = parsed T full (lexemes text tokens) (length text)
  parsed_scan text (Err e) = Err (Scan e)

  -- the module of the text, or its first fault
  abbrev pub parsed_text : List ℕ → Result M ParseFault
  parsed_text text = parsed_scan text (scanned text)

  -- the text spells the module
  abbrev pub Spells : List ℕ → M → Type 0
  Spells text m = (tokens : List Token) × HasTokens text tokens × IsText T (lexemes text tokens) m

  -- the text's tokens before this place begin a module, and with the token or the text's end there none goes
  -- on
  abbrev pub Stops : List ℕ → ℕ → Type 0
  Stops text at =
      (tokens : List Token) × HasTokens text tokens × IsExpected T (lexemes text tokens) (length text) at

  -- the fault is that of a limit, and up to its token the text's tokens begin a module, limits passed over
  abbrev pub Passes : List ℕ → ParseFault → Type 0
  Passes text fault =
      (tokens : List Token) × HasTokens text tokens × IsBeyond T (lexemes text tokens) fault

  -- a fault is one of the text
  abbrev pub IsFault : List ℕ → ParseFault → Type 0
  IsFault text (Scan fault) = HasFault text fault
  IsFault text (Expected at) = Stops text at
  IsFault text (Range at) = Passes text (Range at)
  IsFault text (TooMany at) = Passes text (TooMany at)
  IsFault text NoMemory = Unit {0}

  -- the fault is that of a limit, at a token before this place
  abbrev pub PassesBefore : List ℕ → ℕ → ParseFault → Type 0
  PassesBefore text at (Range p) = (p < at) × Passes text (Range p)
  PassesBefore text at (TooMany p) = (p < at) × Passes text (TooMany p)
  PassesBefore text at _ = ⊥
