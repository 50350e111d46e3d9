-- The tokens of a source, each with its place and its bytes, and what they mean.
use Rattle.std.specs.Prelude.{ℕ, ◌+◌, ◌==◌, Bool, true, false, ◌||◌, not, if◌then◌else◌}
use Rattle.std.specs.Prelude.{List, [], ◌∷◌, codes, slice_range, Option, Some, None}
use Rattle.std.specs.List.{list_any}
use Rattle.std.specs.Str.{bytes_eq}
use Rattle.text_scan.specs.declared.token.TokenKind.{TokenKind}
use Rattle.text_scan.specs.declared.token.TokenKind.TheVariants as kinds
use Rattle.text_scan.specs.declared.token.Token.{Token}
use Rattle.proc_language.specs.declared.tree.Name.{Name}
use Rattle.proc_language.specs.declared.tree.Op.{Op}
use Rattle.proc_language.specs.declared.tree.Op.TheVariants.{Plus, Minus, Less, Equal}
use Rattle.proc_language.specs.Words.{is_reserved}
use Rattle.phrases.specs.Phrase as phrases

-- a token with its bytes
pub record Lexeme : Type 0 where
  pub kind : TokenKind
  pub at : ℕ
  pub text : List ℕ

-- the token in its text
abbrev pub seen : List ℕ → Token → Lexeme
seen text t = record { kind = t.kind; at = t.at; text = slice_range text t.at (t.at + t.len) }

abbrev pub is_line_end : TokenKind → Bool
is_line_end kinds.NewLine = true
is_line_end _ = false

-- the tokens in their text, line ends left out
abbrev pub lexemes : List ℕ → List Token → List Lexeme
lexemes text [] = []
lexemes text (t ∷ tokens) =
    if is_line_end t.kind then lexemes text tokens else seen text t ∷ lexemes text tokens

-- ---- what a token means

abbrev pub Meaning : Type 0 → Type 0
Meaning A = phrases.Meaning Lexeme A

abbrev pub name_text : TokenKind → List ℕ → Option (List ℕ)
name_text kinds.Name text = Some text
name_text _ text = None

-- a word, which means its place
abbrev pub word_in : List ℕ → ℕ → Option (List ℕ) → Option ℕ
word_in w at None = None
word_in w at (Some text) = if bytes_eq text w then Some at else None

unfoldable pub word : List ℕ → Meaning ℕ
word w t = word_in w t.at (name_text t.kind t.text)

-- the words of tokens
abbrev pub token_words : List (List ℕ)
token_words = codes "token" ∷ codes "make" ∷ codes "spend" ∷ []

-- the reserved words beside those of the language: those of tokens, where there are tokens
abbrev pub words_of : {K : Type 0} → Option K → List (List ℕ)
words_of None = []
words_of (Some k) = token_words

-- a reserved word, of the language or one of these
abbrev pub taken : List (List ℕ) → List ℕ → Bool
taken [] text = is_reserved text
taken (w ∷ words) text = bytes_eq w text || taken words text

abbrev pub name_in : List (List ℕ) → ℕ → Option (List ℕ) → Option Name
name_in words at None = None
name_in words at (Some text) = if taken words text then None else Some (record { text = text; at = at })

-- a name is no reserved word
unfoldable pub a_name : List (List ℕ) → Meaning Name
a_name words t = name_in words t.at (name_text t.kind t.text)

-- a number, with its place
pub record Numeral : Type 0 where
  pub value : ℕ
  pub at : ℕ

abbrev pub number_in : TokenKind → ℕ → Option Numeral
number_in (kinds.Number n) at = Some (record { value = n; at = at })
number_in _ at = None

unfoldable pub a_number : Meaning Numeral
a_number t = number_in t.kind t.at

abbrev pub sign_in : ℕ → TokenKind → ℕ → Option ℕ
sign_in s (kinds.Sign byte) at = if byte == s then Some at else None
sign_in s _ at = None

-- a sign, which means its place
unfoldable pub sign : ℕ → Meaning ℕ
sign s t = sign_in s t.kind t.at

abbrev pub dot : ℕ
dot = 46

abbrev pub comma : ℕ
comma = 44

abbrev pub semicolon : ℕ
semicolon = 59

abbrev pub slash : ℕ
slash = 47

abbrev pub assign : ℕ
assign = 61

abbrev pub dash : ℕ
dash = 45

abbrev pub round : ℕ
round = 40

abbrev pub square : ℕ
square = 91

abbrev pub curly : ℕ
curly = 123

abbrev pub end_round : ℕ
end_round = 41

abbrev pub end_square : ℕ
end_square = 93

abbrev pub end_curly : ℕ
end_curly = 125

abbrev pub added : TokenKind → Option Op
added (kinds.Sign byte) = if byte == 43 then Some Plus else if byte == 45 then Some Minus else None
added _ = None

abbrev pub compared : TokenKind → Option Op
compared (kinds.Sign byte) = if byte == 60 then Some Less else None
compared kinds.Equal = Some Equal
compared _ = None

-- `+` or `-`
unfoldable pub adding : Meaning Op
adding t = added t.kind

-- `<` or `==`
unfoldable pub comparing : Meaning Op
comparing t = compared t.kind

-- ---- what begins an item

-- the first of two meanings that a token has, whatever it is
abbrev pub either_way : {A B : Type 0} → Option A → Option B → Option (Unit {0})
either_way None None = None
either_way _ _ = Some tt

unfoldable pub a_proc : Meaning (Unit {0})
a_proc t = either_way (word (codes "export") t) (word (codes "proc") t)

-- a word that stands only where there are tokens
abbrev pub token_word : {K : Type 0} → Option K → List ℕ → Meaning ℕ
token_word None w t = None
token_word (Some k) w t = word w t

unfoldable pub a_local : {K : Type 0} → Option K → Meaning (Unit {0})
a_local tokens t = either_way (word (codes "local") t) (token_word tokens (codes "token") t)

abbrev pub plain_stmt_words : List (List ℕ)
plain_stmt_words = codes "if" ∷ codes "while" ∷ codes "return" ∷ codes "halt" ∷ []

abbrev pub stmt_words : {K : Type 0} → Option K → List (List ℕ)
stmt_words None = plain_stmt_words
stmt_words (Some k) = codes "make" ∷ codes "spend" ∷ plain_stmt_words

-- a name, or a word that begins a statement
abbrev pub start_in : {K : Type 0} → Option K → Option (List ℕ) → Option (Unit {0})
start_in tokens None = None
start_in tokens (Some text) =
    if not (taken (words_of tokens) text) || list_any (bytes_eq text) (stmt_words tokens)
    then Some tt else None

unfoldable pub a_start : {K : Type 0} → Option K → Meaning (Unit {0})
a_start tokens t = start_in tokens (name_text t.kind t.text)
