-- What is printed is read again.
use Rattle.std.specs.Prelude.{◌≡◌, ℕ, ◌+◌, ◌-◌, ◌<◌, ◌≤◌, ◌==◌, Bool, false, IsTrue, ◌||◌, if◌then◌else◌}
use Rattle.std.specs.Prelude.{List, [], ◌∷◌, length, Ok}
use Rattle.std.specs.List.{slice_split}
use Rattle.text_scan.specs.declared.TheConstants.{LONGEST_LINE}
use Rattle.text_scan.specs.declared.token.TokenKind.{TokenKind}
use Rattle.text_scan.specs.declared.token.TokenKind.TheVariants.{Sign}
use Rattle.text_scan.specs.declared.token.Token.{Token}
use Rattle.text_scan.specs.Bytes.{is_newline}
use Rattle.text_scan.specs.Grammar.{HasTokens}
use Rattle.proc_language.specs.declared.TheConstants.{MOST_BRACKETS}
use Rattle.proc_language.specs.declared.module.ModuleFields.{ModuleFields}
use Rattle.proc_language.specs.Limits.{Each, IsModule}
use Rattle.proc_language.specs.Unplaced.{IsAlike}
use Rattle.proc_grammar.specs.Lexemes.{Lexeme, lexemes, round, square, curly, end_round, end_square}
use Rattle.proc_grammar.specs.Lexemes.{end_curly}
use Rattle.proc_parse.specs.Text.{parsed_text}
use Rattle.proc_print.specs.Printed.{printed}

-- no line is too long
abbrev pub HasShortLines : List ℕ → Type 0
HasShortLines text = Each (λ line. length line ≤ LONGEST_LINE) (slice_split is_newline text)

abbrev pub opens : TokenKind → Bool
opens (Sign s) = (s == round) || (s == square) || (s == curly)
opens _ = false

abbrev pub closes : TokenKind → Bool
closes (Sign s) = (s == end_round) || (s == end_square) || (s == end_curly)
closes _ = false

-- how many brackets are open after a token
abbrev pub open_behind : TokenKind → ℕ → ℕ
open_behind kind n = if opens kind then n + 1 else if closes kind then n - 1 else n

-- after so many open brackets no bracket is opened inside too many
abbrev pub IsShallow : ℕ → List Lexeme → Type 0
IsShallow n [] = Unit {0}
IsShallow n (t ∷ tokens) = (IsTrue (opens t.kind) → n < MOST_BRACKETS)
    × IsShallow (open_behind t.kind n) tokens

-- no bracket of the text is opened inside 64 open ones
abbrev pub IsShallowText : List ℕ → Type 0
IsShallowText text = (tokens : List Token) → HasTokens text tokens → IsShallow 0 (lexemes text tokens)

-- The text of a module is read as the module, but for its places, where no line of it is too long and no
-- bracket too deep.
abbrev pub ReadAgain : ModuleFields → Type 0
ReadAgain m =
    IsModule m → HasShortLines (printed m) → IsShallowText (printed m)
    → (x : ModuleFields) × (parsed_text (printed m) ≡ Ok x) × IsAlike x m
