-- Tokens that are written as pieces of a text.
use Rattle.std.specs.Prelude.{◌≡◌, ℕ, if◌then◌else◌, List, [], ◌∷◌, codes}
use Rattle.std.specs.Str.{bytes_eq}
use Rattle.text_scan.specs.declared.token.TokenKind.{TokenKind}
use Rattle.text_scan.specs.declared.token.TokenKind.TheVariants.{Name, Number, Sign, Equal}
use Rattle.text_scan.specs.Tokens.{first_of}
use Rattle.proc_grammar.specs.Lexemes.{Lexeme}
use Rattle.proc_grammar.specs.Grammar.{Phrase}
use Rattle.proc_print.specs.Printed.{Piece, word, numeral, sign}

abbrev pub sign_kind : List ℕ → TokenKind
sign_kind text = if bytes_eq text (codes "==") then Equal else Sign (first_of text)

abbrev pub IsWritten : Lexeme → Piece → Type 0
IsWritten t (word text) = (t.kind ≡ Name) × (t.text ≡ text)
IsWritten t (numeral n) = t.kind ≡ Number n
IsWritten t (sign text) = t.kind ≡ sign_kind text

abbrev pub AreWritten : List Lexeme → List Piece → Type 0
AreWritten [] [] = Unit {0}
AreWritten [] (p ∷ pieces) = ⊥
AreWritten (t ∷ ts) [] = ⊥
AreWritten (t ∷ ts) (p ∷ pieces) = IsWritten t p × AreWritten ts pieces

-- tokens that are written so spell what is good
pub record Again {A : Type 0} (phrase : Phrase A) (pieces : List Piece) (Good : A → Type 0) : Type 0 where
  pub again : (ts : List Lexeme) → AreWritten ts pieces → (x : A) × phrase ts x × Good x
