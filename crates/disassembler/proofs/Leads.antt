-- Printed lines, from their bytes to the draft that they make.
use Rattle.std.proofs.Common.{◌≡◌, ◌≢◌, ℕ, ◌+◌, ◌*◌, ◌<◌, ◌≤◌, false, List, [], ◌∷◌, ◌++◌, map, length}
use Rattle.std.proofs.Common.{drop, Ok, refl, sym, ap, ◌∙◌, subst, append_assoc, append-nil, arith, le-leb}
use Rattle.std.proofs.Common.{length-append, lit≤}
use Rattle.std.specs.Prelude.{◌==◌}
use Rattle.std.specs.List.{slice_split, flat_map}
use Rattle.std.proofs.lemmas.List.{map-append}
use Rattle.std.proofs.lemmas.List.Splits.{slice_split_at, length-slice_split}
use Rattle.std.proofs.lemmas.Bool.{ne_eqb}
use Rattle.text_scan.proofs.Offers.{next_here, Form, IsField, IsRest, IsPrinted, AreInLine, printed}
use Rattle.text_scan.specs.declared.token.TokenKind.{TokenKind}
use Rattle.text_scan.specs.declared.token.TokenKind.TheVariants.{Name, Number, Sign, Equal, NewLine}
use Rattle.text_scan.specs.declared.token.Token.{Token}
use Rattle.text_scan.specs.Bytes.{is_newline}
use Rattle.text_scan.specs.Tokens.{line_from, line_tokens, newline_at, lines_from}
use Rattle.asm_fields.specs.Fields.{Lexeme, seen}
use Rattle.asm_fields.proofs.Offers.{Alike, Whole, left, alike_seen}
use Rattle.assembler.specs.Draft.{Draft}
use Rattle.assembler.specs.Lines.{line_in}
use Rattle.assembler.specs.Whole.{is_newline as is_line_end, lines_of, onto_first, line_or_none, drafted}
use Rattle.assembler.specs.Whole.{goes_to}
use Rattle.cap_words.specs.Text.{newline}

-- reading on from a place of the text, where the lines before made a draft, ends in another
pub record Goes (whole : List ℕ) (end number at : ℕ) (rest : List ℕ) (d final : Draft) : Type 0 where
  pub tokens : List Token
  pub read : lines_from number at (slice_split is_newline rest) ≡ Ok tokens
  pub made : drafted d (lines_of (map (seen whole) tokens) end) ≡ Ok final

-- so many lines at most lead from one draft to another, wherever they stand
pub record Leads (lines : ℕ) (text : List ℕ) (d new : Draft) : Type 0 where
  pub short : length text ≤ 513 * lines
  pub leads : (whole rest : List ℕ) (end number at : ℕ) (final : Draft) → drop at whole ≡ text ++ rest
      → ((next : ℕ) → Goes whole end next (at + length text) rest new final)
      → Goes whole end number at (text ++ rest) d final

-- ---- no line, and lines after lines

pub leads_none : (d : Draft) → Leads 0 [] d d
leads_none d = record {
  short = lit≤ tt;
  leads = λ whole rest end number at final stands more. subst (λ n. Goes whole end number n rest d final)
      (let e : at + 0 ≡ at = omega arith in e) (more number);
}

-- a line that isn't there
pub leads_optional : (d : Draft) → Leads 1 [] d d
leads_optional d = record { short = lit≤ tt; leads = (leads_none d).leads }

pub leads_then : (k l : ℕ) (a b : List ℕ) (d e f : Draft) → Leads k a d e → Leads l b e f
    → Leads (k + l) (a ++ b) d f
leads_then k l a b d e f one two = record {
  short = omega (arith, length-append a b, one.short, two.short);
  leads = λ whole rest end number at final stands more.
      let here : drop at whole ≡ a ++ (b ++ rest) = stands ∙ append_assoc a b rest in
      let places : at + length (a ++ b) ≡ at + length a + length b = omega (arith, length-append a b) in
      subst (λ t. Goes whole end number at t d final) (sym (append_assoc a b rest))
      (one.leads whole (b ++ rest) end number at final here (λ next.
      two.leads whole rest end next (at + length a) final (next_here whole a (b ++ rest) at here) (λ n.
      subst (λ p. Goes whole end n p rest f final) places (more n))));
}

leads_rest : {A : Type 0} (t : A → List ℕ) (D : List A → Draft) (xs : List A)
    → ((before : List A) (x : A) (after : List A) → xs ≡ before ++ x ∷ after
    → Leads 1 (t x) (D before) (D (before ++ x ∷ [])))
    → (front rest : List A) → xs ≡ front ++ rest → Leads (length rest) (flat_map t rest) (D front) (D xs)
leads_rest t D xs step front [] is = subst (λ l. Leads 0 [] (D front) (D l)) (sym (is ∙ append-nil front))
    (leads_none (D front))
leads_rest t D xs step front (x ∷ rest) is =
    let next : xs ≡ (front ++ x ∷ []) ++ rest = is ∙ sym (append_assoc front (x ∷ []) rest) in
    subst (λ n. Leads n (t x ++ flat_map t rest) (D front) (D xs))
    (let e : 1 + length rest ≡ length (x ∷ rest) = omega arith in e)
    (leads_then 1 (length rest) (t x) (flat_map t rest) (D front) (D (front ++ x ∷ [])) (D xs)
    (step front x rest is) (leads_rest t D xs step (front ++ x ∷ []) rest next))

-- the lines of items, each after those before it
pub leads_all : {A : Type 0} (t : A → List ℕ) (D : List A → Draft) (xs : List A)
    → ((before : List A) (x : A) (after : List A) → xs ≡ before ++ x ∷ after
    → Leads 1 (t x) (D before) (D (before ++ x ∷ []))) → Leads (length xs) (flat_map t xs) (D []) (D xs)
leads_all t D xs step = leads_rest t D xs step [] xs refl

-- ---- one line

line_end_kind : (kind : TokenKind) → kind ≢ NewLine → is_line_end kind ≡ false
line_end_kind Name h = refl
line_end_kind (Number n) h = refl
line_end_kind (Sign s) h = refl
line_end_kind Equal h = refl
line_end_kind NewLine h = absurd (h refl)

-- the fields up to a newline are a line
first_line : (fs : List Form) (ls : List Lexeme) (nl : Lexeme) (more : List Lexeme) (end : ℕ)
    → AreInLine fs → Alike fs ls → nl.kind ≡ NewLine
    → lines_of (ls ++ nl ∷ more) end ≡ left ls nl.at ∷ lines_of more end
unfolding lines_of
first_line [] [] nl more end plain alike is = rw is refl
first_line [] (l ∷ ls) nl more end plain alike is = absurd alike
first_line (f ∷ fs) [] nl more end plain alike is = absurd alike
first_line (f ∷ fs) (l ∷ ls) nl more end plain alike is =
    let kind : is_line_end l.kind ≡ false = ap is_line_end alike.0 ∙ line_end_kind f.kind plain.0 in
    rw kind (ap (onto_first l) (first_line fs ls nl more end plain.1 alike.2 is))

not_empty : (fs : List Form) (ls : List Lexeme) → 0 < length fs → Alike fs ls → (length ls == 0) ≡ false
not_empty [] ls lt h = absurd (omega arith)
not_empty (f ∷ fs) [] lt h = absurd h
not_empty (f ∷ fs) (l ∷ ls) lt h = ne_eqb (length (l ∷ ls)) 0 (λ e. omega (arith, e))

line_drafts : (fs : List Form) (ls : List Lexeme) (end : ℕ) (d new : Draft) → 0 < length fs → Alike fs ls
    → Whole fs new (line_in d) → line_or_none d (left ls end) ≡ Ok (new, left [] end)
unfolding line_or_none
line_drafts fs ls end d new some alike one = let is = not_empty fs ls some alike in
    rw is (one.read ls end alike)

-- a line and the lines after it
lines_read : (number at : ℕ) (line : List ℕ) (lines : List (List ℕ)) (first others : List Token)
    → 0 < length lines → line_tokens number at line ≡ Ok first
    → lines_from (number + 1) (at + length line + 1) lines ≡ Ok others
    → lines_from number at (line ∷ lines) ≡ Ok (first ++ newline_at (at + length line) ∷ others)
unfolding lines_from
lines_read number at line [] first others some one more = absurd (omega arith)
lines_read number at line (next ∷ lines) first others some one more = rw (one, more) refl

short_line : (number at : ℕ) (line : List ℕ) (first : List Token) → length line ≤ 512
    → line_from at 0 line ≡ Ok first → line_tokens number at line ≡ Ok first
unfolding line_tokens
short_line number at line first le read = let short = le-leb (length line) 512 le in rw short read

line_goes : (most : ℕ) (line : List ℕ) (fs : List Form) (d new : Draft) → IsPrinted most line fs
    → most ≤ 512 → 0 < length fs → Whole fs new (line_in d)
    → (whole rest : List ℕ) (end number at : ℕ) (final : Draft) → drop at whole ≡ line ++ 10 ∷ rest
    → Goes whole end (number + 1) (at + length line + 1) rest new final
    → Goes whole end number at (line ++ 10 ∷ rest) d final
unfolding drafted
line_goes most line fs d new p le some one whole rest end number at final stands more =
    let shown = p.shown whole (10 ∷ rest) at stands in
    let cut : slice_split is_newline (line ++ 10 ∷ rest) ≡ line ∷ slice_split is_newline rest =
    slice_split_at is_newline line 10 rest p.in_line refl in
    let there : 0 < length (slice_split is_newline rest) =
    omega (arith, length-slice_split is_newline rest) in
    let first = short_line number at line shown.tokens (omega (arith, p.short)) shown.read in
    let nl = newline_at (at + length line) in
    let alike : Alike fs (map (seen whole) shown.tokens) =
    subst (λ l. Alike l (map (seen whole) shown.tokens)) shown.are (alike_seen whole shown.tokens) in
    let lines : lines_of (map (seen whole) (shown.tokens ++ nl ∷ more.tokens)) end ≡ left
    (map (seen whole) shown.tokens) nl.at ∷ lines_of (map (seen whole) more.tokens) end =
    ap (λ l. lines_of l end) (map-append (seen whole) shown.tokens (nl ∷ more.tokens))
    ∙ first_line fs (map (seen whole) shown.tokens) (seen whole nl)
    (map (seen whole) more.tokens) end p.tokens alike refl in
    record {
      tokens = shown.tokens ++ nl ∷ more.tokens;
      read = ap (lines_from number at) cut
          ∙ lines_read number at line (slice_split is_newline rest) shown.tokens more.tokens there first
          more.read;
      made = ap (drafted d) lines
          ∙ ap (λ r. goes_to r (λ new. drafted new (lines_of (map (seen whole) more.tokens) end)))
          (line_drafts fs (map (seen whole) shown.tokens) nl.at d new some alike one) ∙ more.made;
    }

pub leads_line : (most : ℕ) (line : List ℕ) (fs : List Form) (d new : Draft) → IsPrinted most line fs
    → most ≤ 512 → 0 < length fs → Whole fs new (line_in d) → Leads 1 (line ++ newline) d new
leads_line most line fs d new p le some one = record {
  short = omega (arith, length-append line newline, p.short);
  leads = λ whole rest end number at final stands more.
      let here : (line ++ newline) ++ rest ≡ line ++ 10 ∷ rest = append_assoc line newline rest in
      let place : at + length (line ++ newline) ≡ at + length line + 1 =
      omega (arith, length-append line newline) in
      subst (λ t. Goes whole end number at t d final) (sym here)
      (line_goes most line fs d new p le some one whole rest end number at final (stands ∙ here)
      (subst (λ n. Goes whole end (number + 1) n rest new final) place (more (number + 1))));
}

-- a line of a first field and others
pub leads_fields : (n m : ℕ) (a b : List ℕ) (f : Form) (fs gs : List Form) (d new : Draft)
    → IsField n a (f ∷ fs) → IsRest m b gs → n + m ≤ 512 → Whole ((f ∷ fs) ++ gs) new (line_in d)
    → Leads 1 (a ++ (b ++ newline)) d new
leads_fields n m a b f fs gs d new one others le again =
    subst (λ t. Leads 1 t d new) (append_assoc a b newline)
    (leads_line (n + m) (a ++ b) ((f ∷ fs) ++ gs) d new (printed n m a b (f ∷ fs) gs one others) le
    (omega arith) again)

-- ---- the text's end

pub goes_nowhere : (whole : List ℕ) (end number at : ℕ) (d : Draft) → Goes whole end number at [] d d
unfolding lines_from line_tokens line_from lines_of drafted line_or_none
goes_nowhere whole end number at d = record { tokens = []; read = refl; made = refl }
