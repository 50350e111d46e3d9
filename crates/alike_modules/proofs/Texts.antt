-- A printed text is read as the tokens that it was printed of.
use Rattle.std.proofs.Common.{◌≡◌, ℕ, ◌+◌, ◌≤◌, Bool, true, false, if◌then◌else◌, List, [], ◌∷◌, ◌++◌, map}
use Rattle.std.proofs.Common.{drop, Ok, refl, sym, ◌∙◌, ap, subst, arith, length, append-nil}
use Rattle.std.specs.List.{slice_split, onto_first, join_with_byte}
use Rattle.std.proofs.lemmas.List.{drop-drop}
use Rattle.std.proofs.lemmas.List.Splits.{join_with_byte-slice_split, length-slice_split}
use Rattle.std.proofs.lemmas.Bool.{le-leb}
use Rattle.text_scan.specs.declared.TheConstants.{LONGEST_LINE}
use Rattle.text_scan.specs.declared.token.Token.{Token}
use Rattle.text_scan.specs.Bytes.{is_newline}
use Rattle.text_scan.specs.Tokens.{line_from, line_tokens, newline_at, lines_from, scanned}
use Rattle.proc_language.specs.Limits.{Each}
use Rattle.proc_grammar.specs.Lexemes.{lexemes}
use Rattle.proc_print.specs.Printed.{Piece, ends_line, spelled}
use Rattle.alike_modules.specs.Written.{AreWritten}
use Rattle.alike_modules.specs.Reprint.{HasShortLines}
use Rattle.alike_modules.proofs.Sound.{Sound}
use Rattle.alike_modules.proofs.Lines.{groups, line_text, IsGroup, are_groups, cut, shows_group, written_onto}

abbrev pub IsShort : List ℕ → Type 0
IsShort line = length line ≤ LONGEST_LINE

pub record Tells (whole : List ℕ) (number at : ℕ) (lines : List (List ℕ)) (pieces : List Piece) : Type 0 where
  pub tokens : List Token
  pub read : lines_from number at lines ≡ Ok tokens
  pub are : AreWritten (lexemes whole tokens) pieces

short_line : (number at : ℕ) (line : List ℕ) (first : List Token) → length line ≤ 512
    → line_from at 0 line ≡ Ok first → line_tokens number at line ≡ Ok first
unfolding line_tokens
short_line number at line first le read = let short = le-leb (length line) 512 le in rw short read

one_line : (number at : ℕ) (line : List ℕ) (first : List Token) → line_tokens number at line ≡ Ok first
    → lines_from number at (line ∷ []) ≡ Ok first
unfolding lines_from
one_line number at line first one = one

more_lines : (number at : ℕ) (line next : List ℕ) (lines : List (List ℕ)) (first others : List Token)
    → line_tokens number at line ≡ Ok first → lines_from (number + 1) (at + length line + 1)
    (next ∷ lines) ≡ Ok others
    → lines_from number at (line ∷ next ∷ lines) ≡ Ok (first ++ newline_at (at + length line) ∷ others)
unfolding lines_from
more_lines number at line next lines first others one more = rw (one, more) refl

drop_front : (xs ys : List ℕ) → drop (length xs) (xs ++ ys) ≡ ys
drop_front [] ys = refl
drop_front (x ∷ xs) ys = drop_front xs ys

next_stands : (whole line rest : List ℕ) (at : ℕ) → drop at whole ≡ line ++ 10 ∷ rest
    → drop (at + length line + 1) whole ≡ rest
next_stands whole line rest at h =
    let behind : drop (at + length line) whole ≡ 10 ∷ rest = sym (drop-drop (length line) at whole)
    ∙ ap (drop (length line)) h ∙ drop_front line (10 ∷ rest) in
    sym (drop-drop 1 (at + length line) whole) ∙ ap (drop 1) behind

abbrev pub flat : List (List Piece) → List Piece
flat [] = []
flat (g ∷ gs) = g ++ flat gs

pub lines_tell : (g : List Piece) (gs : List (List Piece)) → Each IsGroup (g ∷ gs)
    → (whole : List ℕ) (number at : ℕ) → drop at whole ≡ join_with_byte 10 (map line_text (g ∷ gs))
    → Each IsShort (map line_text (g ∷ gs))
    → Tells whole number at (map line_text (g ∷ gs)) (flat (g ∷ gs))
lines_tell g [] is whole number at stands short =
    let shown = shows_group g is.0 whole [] at (stands ∙ sym (append-nil (line_text g))) in
    record {
      tokens = shown.tokens;
      read = one_line number at (line_text g) shown.tokens
          (short_line number at (line_text g) shown.tokens short.0 shown.read);
      are = subst (λ ts. AreWritten (lexemes whole ts) (g ++ [])) (append-nil shown.tokens)
          (written_onto whole g shown.tokens shown.are [] [] tt);
    }
lines_tell g (h ∷ gs) is whole number at stands short =
    let rest = join_with_byte 10 (map line_text (h ∷ gs)) in
    let shown = shows_group g is.0 whole (10 ∷ rest) at stands in
    let others = lines_tell h gs is.1 whole (number + 1) (at + length (line_text g) + 1)
    (next_stands whole (line_text g) rest at stands) short.1 in
    record {
      tokens = shown.tokens ++ newline_at (at + length (line_text g)) ∷ others.tokens;
      read = more_lines number at (line_text g) (line_text h) (map line_text gs) shown.tokens others.tokens
          (short_line number at (line_text g) shown.tokens short.0 shown.read) others.read;
      are = written_onto whole g shown.tokens shown.are
          (newline_at (at + length (line_text g)) ∷ others.tokens) (flat (h ∷ gs)) others.are;
    }

flat_step : (p : Piece) (all : List (List Piece)) (b : Bool)
    → flat (if b then (p ∷ []) ∷ all else onto_first p all) ≡ p ∷ flat all
flat_step p all true = refl
flat_step p [] false = refl
flat_step p (g ∷ gs) false = refl

flat_groups : (ps : List Piece) → flat (groups ps) ≡ ps
flat_groups [] = refl
flat_groups (p ∷ ps) = flat_step p (groups ps) (ends_line p) ∙ ap (λ l. p ∷ l) (flat_groups ps)

pub record Scanned (text : List ℕ) (pieces : List Piece) : Type 0 where
  pub tokens : List Token
  pub read : scanned text ≡ Ok tokens
  pub are : AreWritten (lexemes text tokens) pieces

by_groups : (text : List ℕ) (all : List (List Piece)) → Each IsGroup all
    → slice_split is_newline text ≡ map line_text all → Each IsShort (map line_text all)
    → Scanned text (flat all)
unfolding scanned
by_groups text [] is cuts short = absurd (no text cuts)
  where
    no : (t : List ℕ) → slice_split is_newline t ≡ [] → ⊥
    no t e = let n : length (slice_split is_newline t) ≡ 0 = ap length e in
        absurd (omega (arith, length-slice_split is_newline t, n))
by_groups text (g ∷ gs) is cuts short =
    let told = lines_tell g gs is text 1 0 (sym (join_with_byte-slice_split 10 text)
    ∙ ap (join_with_byte 10) cuts) short in
    record { tokens = told.tokens; read = ap (lines_from 1 0) cuts ∙ told.read; are = told.are }

-- a text of sound pieces whose lines are short is read as these pieces
pub text_scanned : (ps : List Piece) → Each Sound ps → HasShortLines (spelled ps) → Scanned (spelled ps) ps
text_scanned ps sound short =
    let cuts = cut ps sound in
    subst (Scanned (spelled ps)) (flat_groups ps)
    (by_groups (spelled ps) (groups ps) (are_groups ps sound) cuts (subst (Each IsShort) cuts short))
