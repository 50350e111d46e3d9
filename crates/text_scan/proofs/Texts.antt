-- A text whose lines are cut so is read so, and back; and where its tokens stand.
use Rattle.std.proofs.Common.{◌≡◌, ℕ, ◌+◌, true, List, [], ◌∷◌, ◌++◌, length, Result, Ok, Err, refl, sym, ap}
use Rattle.std.proofs.Common.{◌∙◌, arith, inl, inr}
use Rattle.std.specs.Prelude.{nat_le}
use Rattle.std.specs.List.{slice_split}
use Rattle.std.proofs.lemmas.Bool.{le-leb, leb-true}
use Rattle.text_scan.specs.declared.TheConstants.{LONGEST_LINE}
use Rattle.text_scan.specs.declared.fault.ScanFault.{ScanFault}
use Rattle.text_scan.specs.declared.fault.ScanFault.TheVariants.{BadByte, NumberTooLarge, LineTooLong}
use Rattle.text_scan.specs.declared.fault.ScanFault.TheVariants.{NoMemory}
use Rattle.text_scan.specs.declared.token.Token.{Token}
use Rattle.text_scan.specs.Bytes.{is_newline}
use Rattle.text_scan.specs.Fault.{is_refusal}
use Rattle.readers.specs.Answers.{Fails}
use Rattle.text_scan.specs.Tokens.{line_from, in_long_line, line_tokens, newline_at, lines_from, scanned}
use Rattle.readers.specs.Results.{◌>>=◌}
use Rattle.text_scan.specs.Grammar.{IsLine, AreLines, HasTokens}
use Rattle.text_scan.proofs.Cuts.{chosen, cut_is_read, read_is_cut}

-- ---- lines

pub line_is_read : (number at : ℕ) (line : List ℕ) (ts : List Token) → IsLine at line ts
    → line_tokens number at line ≡ Ok ts
unfolding line_tokens
line_is_read number at line ts h =
    let short : nat_le (length line) LONGEST_LINE ≡ true = le-leb _ _ h.short in
    rw short (cut_is_read at h.pieces line h.cut ∙ ap Ok (sym h.are))

long_line_fails : (number limit : ℕ) (r : Result (List Token) ScanFault) (ts : List Token)
    → in_long_line number limit r ≡ Ok ts → ⊥
long_line_fails number limit (Ok more) ts h = absurd cc
long_line_fails number limit (Err (BadByte at)) ts h =
    elim (chosen (nat_le at limit) _ _ _ h) [
      | inl x ↦ absurd (let bad = x.1 in cc)
      | inr x ↦
          absurd (let bad = x.1 in cc)
    ]
long_line_fails number limit (Err (NumberTooLarge at)) ts h =
    elim (chosen (nat_le at limit) _ _ _ h) [
      | inl x ↦ absurd (let bad = x.1 in cc)
      | inr x ↦
          absurd (let bad = x.1 in cc)
    ]
long_line_fails number limit (Err (LineTooLong line)) ts h = absurd cc
long_line_fails number limit (Err NoMemory) ts h = absurd cc

pub read_is_line : (number at : ℕ) (line : List ℕ) (ts : List Token) → line_tokens number at line ≡ Ok ts
    → IsLine at line ts
unfolding line_tokens
read_is_line number at line ts h = elim (chosen (nat_le (length line) LONGEST_LINE) _ _ _ h) [
  | inl x ↦ let c = read_is_cut (length line) at line ts (omega arith) x.1 in
      record { short = leb-true _ _ x.0; pieces = c.pieces; cut = c.cut; are = c.are }
  | inr x ↦ absurd (long_line_fails number (at + LONGEST_LINE) (line_from at 0 line) ts x.1)
]

-- ---- texts

lines_are_read : (number at : ℕ) (lines : List (List ℕ)) (ts : List Token) → AreLines at lines ts
    → lines_from number at lines ≡ Ok ts
unfolding lines_from
lines_are_read number at [] ts h = ap Ok (sym h)
lines_are_read number at (line ∷ []) ts h = line_is_read number at line ts h
lines_are_read number at (line ∷ next ∷ lines) ts h =
    let one = line_is_read number at line h.0 h.2 in
    let others = lines_are_read (number + 1) (at + length line + 1) (next ∷ lines) h.1 h.3 in
    rw (one, others) (ap Ok (sym h.4))

both : (r s : Result (List Token) ScanFault) (newline : Token) (ts : List Token)
    → (r >>= λ first. s >>= λ others. Ok (first ++ newline ∷ others)) ≡ Ok ts
    → (first others : List Token) × (r ≡ Ok first) × (s ≡ Ok others) × (ts ≡ first ++ newline ∷ others)
both (Err e) s newline ts h = absurd cc
both (Ok first) (Err e) newline ts h = absurd cc
both (Ok first) (Ok others) newline ts h =
    (first, others, refl, refl, let e : first ++ newline ∷ others ≡ ts = cc in sym e)

read_are_lines : (number at : ℕ) (lines : List (List ℕ)) (ts : List Token)
    → lines_from number at lines ≡ Ok ts → AreLines at lines ts
unfolding lines_from
read_are_lines number at [] ts h = let e : [] ≡ ts = cc in sym e
read_are_lines number at (line ∷ []) ts h = read_is_line number at line ts h
read_are_lines number at (line ∷ next ∷ lines) ts h =
    let b = both (line_tokens number at line) (lines_from (number + 1) (at + length line + 1) (next ∷ lines))
    (newline_at (at + length line)) ts h in (
      b.0,
      b.1,
      read_is_line number at line b.0 b.2,
      read_are_lines (number + 1) (at + length line + 1)
          (next ∷ lines) b.1 b.3,
      b.4,
    )

pub text_is_read : (text : List ℕ) (ts : List Token) → HasTokens text ts → scanned text ≡ Ok ts
unfolding scanned
text_is_read text ts h = lines_are_read 1 0 (slice_split is_newline text) ts h

pub read_is_text : (text : List ℕ) (ts : List Token) → scanned text ≡ Ok ts → HasTokens text ts
unfolding scanned
read_is_text text ts h = read_are_lines 1 0 (slice_split is_newline text) ts h

-- a text has one list of tokens
pub one_reading : (text : List ℕ) (a b : List Token) → scanned text ≡ Ok a → HasTokens text b → a ≡ b
one_reading text a b read has = let same = sym read ∙ text_is_read text b has in cc

-- a text that has tokens has no fault
pub no_fault : (text : List ℕ) (e : ScanFault) (ts : List Token) → Fails is_refusal e (scanned text)
    → HasTokens text ts → e ≡ NoMemory
no_fault text NoMemory ts fails has = refl
no_fault text e ts fails has = absurd (let bad = sym fails ∙ text_is_read text ts has in cc)
