-- The lines of a printed text, and the tokens that they are read as.
use Rattle.std.proofs.Common.{◌≡◌, ℕ, Bool, true, false, if◌then◌else◌, List, [], ◌∷◌, ◌++◌, map, refl, sym}
use Rattle.std.proofs.Common.{◌∙◌, ap, subst}
use Rattle.std.specs.List.{slice_split, onto_first}
use Rattle.std.proofs.lemmas.List.Elements.{All-head, All-tail}
use Rattle.std.specs.Prelude.{codes}
use Rattle.std.specs.Str.{bytes_eq}
use Rattle.text_scan.specs.Tokens.{first_of}
use Rattle.std.proofs.lemmas.List.Splits.{slice_split_at, slice_split-cons_no}
use Rattle.text_scan.specs.declared.token.TokenKind.{TokenKind}
use Rattle.text_scan.specs.declared.token.TokenKind.TheVariants.{Sign, Equal}
use Rattle.text_scan.specs.declared.token.Token.{Token}
use Rattle.text_scan.specs.Bytes.{is_newline}
use Rattle.text_scan.proofs.Offers.{form_in, Shows, shows_nothing, IsLineByte, IsInLine}
use Rattle.proc_language.specs.Limits.{Each}
use Rattle.proc_grammar.specs.Lexemes.{seen, lexemes, is_line_end}
use Rattle.proc_print.specs.Printed.{Piece, word, numeral, sign, bytes_of, ends_line, spelled}
use Rattle.alike_modules.specs.Written.{IsWritten, AreWritten}
use Rattle.alike_modules.proofs.Sound.{Sound, form_of}

-- the pieces of each line
abbrev pub groups : List Piece → List (List Piece)
groups [] = [] ∷ []
groups (p ∷ ps) = if ends_line p then (p ∷ []) ∷ groups ps else onto_first p (groups ps)

-- the bytes of a line
abbrev pub line_text : List Piece → List ℕ
line_text [] = []
line_text (p ∷ g) = if ends_line p then bytes_of p else bytes_of p ++ 32 ∷ line_text g

-- a line ends at its last piece, if at all
abbrev pub IsGroup : List Piece → Type 0
IsGroup [] = Unit {0}
IsGroup (p ∷ g) = Sound p × (ends_line p ≡ true → g ≡ []) × IsGroup g

module _ (p : Piece) (sound : Sound p) where
  onto_group : (plain : ends_line p ≡ false) (gs : List (List Piece)) → Each IsGroup gs
      → Each IsGroup (onto_first p gs)
  onto_group plain [] each = ((sound, (λ h. refl), tt), tt)
  onto_group plain (g ∷ gs) each =
      ((sound, (λ h. absurd (let k : false ≡ true = sym plain ∙ h in cc)), each.0), each.1)

  next_group : (b : Bool) → ends_line p ≡ b → (gs : List (List Piece)) → Each IsGroup gs
      → Each IsGroup (if b then (p ∷ []) ∷ gs else onto_first p gs)
  next_group true is gs each = ((sound, (λ h. refl), tt), each)
  next_group false is gs each = onto_group is gs each

pub are_groups : (ps : List Piece) → Each Sound ps → Each IsGroup (groups ps)
are_groups [] each = (tt, tt)
are_groups (p ∷ ps) each = next_group p each.0 (ends_line p) refl (groups ps) (are_groups ps each.1)

-- ---- the text is cut into these lines

prefixed : List ℕ → List (List ℕ) → List (List ℕ)
prefixed [] ls = ls
prefixed (b ∷ bs) ls = onto_first b (prefixed bs ls)

split_behind : (bs text : List ℕ) → IsInLine bs → slice_split is_newline (bs ++ text) ≡ prefixed bs
    (slice_split is_newline text)
unfolding prefixed
split_behind [] text plain = refl
split_behind (b ∷ bs) text plain =
    slice_split-cons_no is_newline b (bs ++ text) (All-head IsLineByte b bs plain)
    ∙ ap (onto_first b) (split_behind bs text (All-tail IsLineByte b bs plain))

on_line : (bs l : List ℕ) (ls : List (List ℕ)) → prefixed bs (l ∷ ls) ≡ (bs ++ l) ∷ ls
unfolding prefixed
on_line [] l ls = refl
on_line (b ∷ bs) l ls = ap (onto_first b) (on_line bs l ls)

some_group : (ps : List Piece) → (g : List Piece) × (gs : List (List Piece)) × (groups ps ≡ g ∷ gs)
some_group [] = ([], [], refl)
some_group (p ∷ ps) = by (ends_line p) (groups ps)
  where
    by : (b : Bool) (all : List (List Piece)) → (g : List Piece) × (gs : List (List Piece))
        × ((if b then (p ∷ []) ∷ all else onto_first p all) ≡ g ∷ gs)
    by true all = (p ∷ [], all, refl)
    by false [] = (p ∷ [], [], refl)
    by false (g ∷ gs) = (p ∷ g, gs, refl)

cut_step : (p : Piece) → IsInLine (bytes_of p) → (text : List ℕ) (all : List (List Piece))
    → ((g : List Piece) × (gs : List (List Piece)) × (all ≡ g ∷ gs))
    → slice_split is_newline text ≡ map line_text all
    → (b : Bool) → ends_line p ≡ b
    → slice_split is_newline (bytes_of p ++ ((if b then 10 ∷ [] else 32 ∷ []) ++ text)) ≡ map line_text
    (if b then (p ∷ []) ∷ all else onto_first p all)
cut_step p plain text all some rest true is =
    slice_split_at is_newline (bytes_of p) 10 text plain refl
    ∙ ap (λ ls. bytes_of p ∷ ls) rest
    ∙ ap (λ b. (if b then bytes_of p else bytes_of p ++ 32 ∷ []) ∷ map line_text all) (sym is)
cut_step p plain text all some rest false is =
    let g = some.0 in
    let gs = some.1 in
    split_behind (bytes_of p) (32 ∷ text) plain
    ∙ ap (prefixed (bytes_of p)) (slice_split-cons_no is_newline 32 text refl
    ∙ ap (onto_first 32) (rest ∙ ap (map line_text) some.2))
    ∙ on_line (bytes_of p) (32 ∷ line_text g) (map line_text gs)
    ∙ ap (λ b. (if b then bytes_of p else bytes_of p ++ 32 ∷ line_text g) ∷ map line_text gs) (sym is)
    ∙ ap (λ l. map line_text (onto_first p l)) (sym some.2)

-- the lines of the text are those of the groups
pub cut : (ps : List Piece) → Each Sound ps → slice_split is_newline (spelled ps) ≡ map line_text (groups ps)
cut [] each = refl
cut (p ∷ ps) each = cut_step p each.0.in_line (spelled ps) (groups ps) (some_group ps) (cut ps each.1)
    (ends_line p) refl

-- ---- the tokens of a line

show_step : (p : Piece) (g : List Piece) → Sound p → (ends_line p ≡ true → g ≡ [])
    → Shows (line_text g) (map form_of g)
    → (b : Bool) → ends_line p ≡ b → Shows (if b then bytes_of p else bytes_of p ++ 32 ∷ line_text g)
    (form_of p ∷ map form_of g)
show_step p g sound last others true is = subst (λ l. Shows (bytes_of p) (form_of p ∷ map form_of l))
    (sym (last is)) (sound.alone is)
show_step p g sound last others false is = sound.behind (line_text g) (map form_of g) others

pub shows_group : (g : List Piece) → IsGroup g → Shows (line_text g) (map form_of g)
shows_group [] is = shows_nothing
shows_group (p ∷ g) is = show_step p g is.0 is.1 (shows_group g is.2) (ends_line p) refl

-- ---- tokens of pieces

no_line_end : (p : Piece) (kind : TokenKind) → kind ≡ (form_of p).kind → is_line_end kind ≡ false
no_line_end (word text) kind e = ap is_line_end e
no_line_end (numeral n) kind e = ap is_line_end e
no_line_end (sign text) kind e = ap is_line_end e ∙ plain (bytes_eq text (codes "=="))
  where
    plain : (b : Bool) → is_line_end (if b then Equal else Sign (first_of text)) ≡ false
    plain true = refl
    plain false = refl

is_written : (whole : List ℕ) (t : Token) (p : Piece) → form_in whole t ≡ form_of p
    → IsWritten (seen whole t) p
is_written whole t (word text) e = (ap (λ f. f.kind) e, ap (λ f. f.text) e)
is_written whole t (numeral n) e = ap (λ f. f.kind) e
is_written whole t (sign text) e = ap (λ f. f.kind) e

head_is : {A : Type 0} {x y : A} {xs ys : List A} → x ∷ xs ≡ y ∷ ys → x ≡ y
head_is e = cc

tail_is : {A : Type 0} {x y : A} {xs ys : List A} → x ∷ xs ≡ y ∷ ys → xs ≡ ys
tail_is e = cc

-- the tokens of a line, and those after it
pub written_onto : (whole : List ℕ) (g : List Piece) (ts : List Token)
    → map (form_in whole) ts ≡ map form_of g → (more : List Token) (rest : List Piece)
    → AreWritten (lexemes whole more) rest → AreWritten (lexemes whole (ts ++ more)) (g ++ rest)
written_onto whole [] [] e more rest w = w
written_onto whole [] (t ∷ ts) e more rest w = absurd (cc)
written_onto whole (p ∷ g) [] e more rest w = absurd (cc)
written_onto whole (p ∷ g) (t ∷ ts) e more rest w =
    let here = head_is e in
    let plain : is_line_end t.kind ≡ false = no_line_end p t.kind (ap (λ f. f.kind) here) in
    subst (λ b. AreWritten (if b then lexemes whole (ts ++ more) else seen whole t ∷ lexemes whole
    (ts ++ more)) (p ∷ (g ++ rest))) (sym plain)
    (is_written whole t p here, written_onto whole g ts (tail_is e) more rest w)
