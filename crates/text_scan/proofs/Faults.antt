-- What goes wrong in a text is read as its fault, and back.
use Rattle.std.proofs.Common.{◌≡◌, ℕ, zero, suc, ◌+◌, ◌-◌, ◌<◌, ◌≤◌, Bool, true, false, List, [], ◌∷◌, ◌++◌}
use Rattle.std.proofs.Common.{length, take, drop, Option, Result, Ok, Err, refl, sym, ap, ◌∙◌, subst, arith}
use Rattle.std.proofs.Common.{inl, inr, length-drop, length-append, length-take-le, take-append-drop}
use Rattle.std.specs.Prelude.{◌==◌, nat_le, ◌⊎◌, ◌||◌}
use Rattle.std.specs.List.{take_while, slice_split}
use Rattle.std.specs.Str.Parse.{digits_value}
use Rattle.std.proofs.lemmas.Bool.{leb-true, le-leb, or_parts, lt-leb, leb-false}
use Rattle.std.proofs.lemmas.Bool.Decides.{nat_tests}
use Rattle.text_scan.specs.declared.TheConstants.{LONGEST_LINE, LARGEST_NUMBER}
use Rattle.text_scan.specs.declared.fault.ScanFault.{ScanFault}
use Rattle.text_scan.specs.declared.fault.ScanFault.TheVariants.{BadByte, NumberTooLarge, LineTooLong}
use Rattle.text_scan.specs.declared.fault.ScanFault.TheVariants.{NoMemory}
use Rattle.text_scan.specs.declared.token.TokenKind.{TokenKind}
use Rattle.text_scan.specs.declared.token.Token.{Token}
use Rattle.text_scan.specs.declared.piece.Piece.{Piece}
use Rattle.text_scan.specs.Bytes.{is_newline, is_digit, is_name_start, is_blank, is_sign, begins_piece}
use Rattle.text_scan.specs.Fault.{fault_place, is_refusal}
use Rattle.readers.specs.Answers.{Fails}
use Rattle.text_scan.specs.Tokens.{first_of, number_piece, piece_at, begins_equal, token_of, line_from}
use Rattle.text_scan.specs.Tokens.{with_front, in_long_line, line_tokens, newline_at, lines_from, scanned}
use Rattle.readers.specs.Results.{◌>>=◌}
use Rattle.text_scan.specs.Grammar.{IsWrong, GoesWrong, HasWrong, LineFails, LinesFail, HasFault}
use Rattle.text_scan.proofs.Lines.{begins, one_piece, front_fails}
use Rattle.text_scan.proofs.Pieces.{after_piece, piece_read, digit_blank, digit_hash, digit_start}
use Rattle.text_scan.proofs.Cuts.{chosen, piece_found}
use Rattle.text_scan.proofs.Texts.{line_is_read, read_is_line}

-- ---- pieces

wrong_is : (at : ℕ) (text : List ℕ) (d e : ScanFault) → (let r : Result Piece ScanFault = Err d in r) ≡ Err e
    → IsWrong at text d → IsWrong at text e
wrong_is at text d e h w = let same : d ≡ e = cc in subst (IsWrong at text) same w

number_wrong : (at b : ℕ) (bs : List ℕ) (e : ScanFault) → is_digit b ≡ true
    → number_piece at (take_while is_digit (b ∷ bs)) ≡ Err e → IsWrong at (b ∷ bs) e
unfolding number_piece
number_wrong at b bs e digit h =
    elim (chosen (nat_le (digits_value 10 (take_while is_digit (b ∷ bs))) LARGEST_NUMBER) _ _ _ h) [
      | inl x ↦ absurd (let bad = x.1 in cc)
      | inr x ↦ wrong_is at (b ∷ bs) _ e x.1 (refl, digit, leb-false _ _ x.0)
    ]

none_begins : (b : ℕ) → is_blank b ≡ false → (b == 35) ≡ false → is_name_start b ≡ false → is_digit b ≡ false
    → is_sign b ≡ false → begins_piece b ≡ false
none_begins b blank no_hash start digit sign = rw (blank, no_hash, start, digit, sign) refl

piece_wrong : (at b : ℕ) (bs : List ℕ) (e : ScanFault) → piece_at at (b ∷ bs) ≡ Err e → IsWrong at (b ∷ bs) e
unfolding piece_at
piece_wrong at b bs e h = elim (chosen (is_blank b) _ _ _ h) [
  | inl x ↦ absurd (let bad = x.1 in cc)
  | inr e1 ↦ elim (chosen (b == 35) _ _ _ e1.1) [
    | inl x ↦ absurd (let bad = x.1 in cc)
    | inr e2 ↦ elim (chosen (is_name_start b) _ _ _ e2.1) [
      | inl x ↦ absurd (let bad = x.1 in cc)
      | inr e3 ↦ elim (chosen (is_digit b) _ _ _ e3.1) [
        | inl x ↦ number_wrong at b bs e x.0 x.1
        | inr e4 ↦ elim (chosen (begins_equal (b ∷ bs)) _ _ _ e4.1) [
          | inl x ↦ absurd (let bad = x.1 in cc)
          | inr e5 ↦ elim (chosen (is_sign b) _ _ _ e5.1) [
            | inl x ↦ absurd (let bad = x.1 in cc)
            | inr e6 ↦ wrong_is at (b ∷ bs) _ e e6.1
                (refl, omega arith, none_begins b e1.0 e2.0 e3.0 e4.0 e6.0)
          ]
        ]
      ]
    ]
  ]
]

no_equal : (b : ℕ) (bs : List ℕ) → is_sign b ≡ false → begins_equal (b ∷ bs) ≡ false
unfolding is_sign
no_equal b bs h = let one : (b == 61) ≡ false = grind (arith, nat_tests) in rw one refl

bad_byte_read : (at b : ℕ) (bs : List ℕ) → begins_piece b ≡ false → piece_at at (b ∷ bs) ≡ Err (BadByte at)
unfolding piece_at
bad_byte_read at b bs h =
    let a = or_parts (is_blank b || (b == 35) || is_name_start b || is_digit b) (is_sign b) h in
    let c = or_parts (is_blank b || (b == 35) || is_name_start b) (is_digit b) a.0 in
    let d = or_parts (is_blank b || (b == 35)) (is_name_start b) c.0 in
    let e = or_parts (is_blank b) (b == 35) d.0 in
    let blank = e.0 in
    let no_hash = e.1 in
    let start = d.1 in
    let digit = c.1 in
    let sign = a.1 in
    let equal = no_equal b bs sign in
    rw (blank, no_hash, start, digit, equal, sign) refl

large_number : (at : ℕ) (digits : List ℕ) → LARGEST_NUMBER < digits_value 10 digits
    → number_piece at digits ≡ Err (NumberTooLarge at)
unfolding number_piece
large_number at digits h = let large = lt-leb _ _ h in rw large refl

large_number_read : (at : ℕ) (text : List ℕ) → is_digit (first_of text) ≡ true
    → LARGEST_NUMBER < digits_value 10 (take_while is_digit text) → piece_at at text ≡ Err (NumberTooLarge at)
unfolding piece_at
large_number_read at text digit h =
    let blank = digit_blank (first_of text) digit in
    let no_hash = digit_hash (first_of text) digit in
    let start = digit_start (first_of text) digit in
    rw (blank, no_hash, start, digit) (large_number at (take_while is_digit text) h)

wrong_read : (at b : ℕ) (bs : List ℕ) (e : ScanFault) → IsWrong at (b ∷ bs) e → piece_at at (b ∷ bs) ≡ Err e
wrong_read at b bs (BadByte p) h = bad_byte_read at b bs h.2 ∙ ap (λ n. Err (BadByte n)) (sym h.0)
wrong_read at b bs (NumberTooLarge p) h = large_number_read at (b ∷ bs) h.1 h.2
    ∙ ap (λ n. Err (NumberTooLarge n)) (sym h.0)
wrong_read at b bs (LineTooLong line) h = absurd h
wrong_read at b bs NoMemory h = absurd h

-- ---- lines

first_fails : (at b : ℕ) (bs : List ℕ) (e : ScanFault) → piece_at at (b ∷ bs) ≡ Err e
    → line_from at 0 (b ∷ bs) ≡ Err e
unfolding line_from
first_fails at b bs e h =
    ap (λ r. r >>= λ q. line_from (at + 1) (q.len - 1) bs >>= λ others.
    Ok (token_of at q.kind q.len ++ others)) h

nothing_wrong : (at : ℕ) (e : ScanFault) → IsWrong at [] e → ⊥
nothing_wrong at (BadByte p) h = omega (arith, h.1)
nothing_wrong at (NumberTooLarge p) h = absurd (let bad = h.1 in cc)
nothing_wrong at (LineTooLong line) h = h
nothing_wrong at NoMemory h = h

wrong_is_read : (at : ℕ) (pieces : List (Option TokenKind × List ℕ)) (line : List ℕ) (e : ScanFault)
    → GoesWrong at pieces line e → line_from at 0 line ≡ Err e
wrong_is_read at [] [] e h = absurd (nothing_wrong at e h)
wrong_is_read at [] (b ∷ bs) e h = first_fails at b bs e (wrong_read at b bs e h)
wrong_is_read at (p ∷ pieces) line e h =
    let r = piece_read at p.0 p.1 h.0 h.2 in
    ap (line_from at 0) h.1 ∙ after_piece at p.1 h.0 (record { kind = p.0; len = length p.1 }) r.some refl
    r.is
    ∙ ap (with_front (token_of at p.0 (length p.1))) (wrong_is_read (at + length p.1) pieces h.0 e h.3)

read_is_wrong : (n at : ℕ) (line : List ℕ) (e : ScanFault) → length line ≤ n → line_from at 0 line ≡ Err e
    → HasWrong at line e
unfolding line_from
read_is_wrong n at [] e le h = absurd cc
read_is_wrong zero at (b ∷ bs) e le h = absurd (omega arith)
read_is_wrong (suc n) at (b ∷ bs) e le h =
    by_piece (λ place after short read. read_is_wrong n place after e short read) (piece_at at (b ∷ bs)) refl
  where
    by_piece : ((place : ℕ) (after : List ℕ) → length after ≤ n → line_from place 0 after ≡ Err e
        → HasWrong place after e)
        → (r : Result Piece ScanFault) → piece_at at (b ∷ bs) ≡ r → HasWrong at (b ∷ bs) e
    by_piece behind (Err d) is =
        let same : (let r : Result (List Token) ScanFault = Err d in r) ≡ Err e =
        sym (first_fails at b bs d is) ∙ h in
        let one : d ≡ e = cc in
        ([], piece_wrong at b bs e (is ∙ ap Err one))
    by_piece behind (Ok p) is =
        let f = piece_found at b bs p is in
        let text = take p.len (b ∷ bs) in
        let after = drop p.len (b ∷ bs) in
        let len : length text ≡ p.len = length-take-le p.len (b ∷ bs) f.2 in
        let one = sym (begins (line_from at 0 (b ∷ bs))) ∙ one_piece [] at b bs p f.1 is in
        let rest = front_fails (token_of at p.kind p.len) (line_from (at + p.len) 0 after) e (sym one ∙ h) in
        let w = behind (at + p.len) after (omega (arith, length-drop p.len (b ∷ bs), f.1)) rest in (
          (p.kind, text) ∷ w.0,
          (
            after,
            sym (take-append-drop p.len (b ∷ bs)),
            f.0,
            subst (λ k. GoesWrong (at + k) w.0 after e)
                (sym len) w.1,
          ),
        )

place_is : (at : ℕ) (rest : List ℕ) (e : ScanFault) → IsWrong at rest e → fault_place e ≤ at + length rest
place_is at rest (BadByte p) h = omega (arith, h.0)
place_is at rest (NumberTooLarge p) h = omega (arith, h.0)
place_is at rest (LineTooLong line) h = absurd h
place_is at rest NoMemory h = absurd h

within_line : (at : ℕ) (pieces : List (Option TokenKind × List ℕ)) (line : List ℕ) (e : ScanFault)
    → GoesWrong at pieces line e → fault_place e ≤ at + length line
within_line at [] line e h = place_is at line e h
within_line at (p ∷ pieces) line e h =
    omega (arith, within_line (at + length p.1) pieces h.0 e h.3, ap length h.1, length-append p.1 h.0)

never_long : (at : ℕ) (pieces : List (Option TokenKind × List ℕ)) (line : List ℕ) (n : ℕ)
    → GoesWrong at pieces line (LineTooLong n) → ⊥
never_long at [] line n h = h
never_long at (p ∷ pieces) line n h = never_long (at + length p.1) pieces h.0 n h.3

never_memory : (at : ℕ) (pieces : List (Option TokenKind × List ℕ)) (line : List ℕ)
    → GoesWrong at pieces line NoMemory → ⊥
never_memory at [] line h = h
never_memory at (p ∷ pieces) line h = never_memory (at + length p.1) pieces h.0 h.3

-- ---- a line's fault

long_line_is_read : (number limit : ℕ) (r : Result (List Token) ScanFault)
    → ((p : ℕ) → r ≡ Err (BadByte p) → limit < p) → ((p : ℕ) → r ≡ Err (NumberTooLarge p) → limit < p)
    → in_long_line number limit r ≡ Err (LineTooLong number)
long_line_is_read number limit (Ok ts) bad large = refl
long_line_is_read number limit (Err (BadByte p)) bad large = let more = lt-leb p limit (bad p refl) in
    rw more refl
long_line_is_read number limit (Err (NumberTooLarge p)) bad large = let more =
    lt-leb p limit (large p refl) in rw more refl
long_line_is_read number limit (Err (LineTooLong line)) bad large = refl
long_line_is_read number limit (Err NoMemory) bad large = refl

early_is_read : (number limit : ℕ) (e : ScanFault) → ((n : ℕ) → e ≡ LineTooLong n → ⊥) → (e ≡ NoMemory → ⊥)
    → fault_place e ≤ limit → in_long_line number limit (Err e) ≡ Err e
early_is_read number limit (BadByte p) long memory le = let few = le-leb p limit le in rw few refl
early_is_read number limit (NumberTooLarge p) long memory le = let few = le-leb p limit le in rw few refl
early_is_read number limit (LineTooLong line) long memory le = absurd (long line refl)
early_is_read number limit NoMemory long memory le = absurd (memory refl)

failing_is_read : (number at : ℕ) (line : List ℕ) (e : ScanFault) → LineFails number at line e
    → line_tokens number at line ≡ Err e
unfolding line_tokens
failing_is_read number at line e (inl h) = by_length (nat_le (length line) LONGEST_LINE) refl
  where
    by_length : (b : Bool) → nat_le (length line) LONGEST_LINE ≡ b → line_tokens number at line ≡ Err e
    by_length true short = rw short (wrong_is_read at h.0.0 line e h.0.1)
    by_length false long =
        rw long (ap (in_long_line number (at + LONGEST_LINE)) (wrong_is_read at h.0.0 line e h.0.1)
        ∙ early_is_read number (at + LONGEST_LINE) e
        (λ n is. never_long at h.0.0 line n (subst (GoesWrong at h.0.0 line) is h.0.1))
        (λ is. never_memory at h.0.0 line (subst (GoesWrong at h.0.0 line) is h.0.1)) h.1)
failing_is_read number at line e (inr h) =
    let long = lt-leb (length line) LONGEST_LINE h.0 in
    rw long (long_line_is_read number (at + LONGEST_LINE) (line_from at 0 line)
    (λ p is. h.2 (BadByte p) (read_is_wrong (length line) at line (BadByte p) (omega arith) is))
    (λ p is. h.2 (NumberTooLarge p) (read_is_wrong (length line) at line (NumberTooLarge p) (omega arith) is))
    ∙ ap Err (sym h.1))

err_value : {A : Type 0} (d e : ScanFault) → (let r : Result A ScanFault = Err d in r) ≡ Err e → d ≡ e
err_value d e h = cc

too_long : (number at : ℕ) (line : List ℕ) (e : ScanFault) → LONGEST_LINE < length line
    → LineTooLong number ≡ e
    → ((other : ScanFault) → line_from at 0 line ≡ Err other → at + LONGEST_LINE < fault_place other)
    → LineFails number at line e
too_long number at line e long is later =
    inr (long, sym is, λ other w. later other (wrong_is_read at w.0 line other w.1))

early : (number at : ℕ) (line : List ℕ) (d e : ScanFault) → line_from at 0 line ≡ Err d
    → fault_place d ≤ at + LONGEST_LINE → d ≡ e → LineFails number at line e
early number at line d e read le is = subst (LineFails number at line) is
    (inl (read_is_wrong (length line) at line d (omega arith) read, le))

later_than : (at limit : ℕ) (line : List ℕ) (d other : ScanFault) → line_from at 0 line ≡ Err d
    → limit < fault_place d → line_from at 0 line ≡ Err other → limit < fault_place other
later_than at limit line d other read lt this = subst (λ x. limit < fault_place x)
    (err_value {A = List Token} d other (sym read ∙ this)) lt

read_is_failing : (number at : ℕ) (line : List ℕ) (e : ScanFault) → line_tokens number at line ≡ Err e
    → LineFails number at line e
unfolding line_tokens
read_is_failing number at line e h = elim (chosen (nat_le (length line) LONGEST_LINE) _ _ _ h) [
  | inl x ↦ let w = read_is_wrong (length line) at line e (omega arith) x.1 in
      inl (w, omega (arith, within_line at w.0 line e w.1, leb-true _ _ x.0))
  | inr x ↦ by_read (leb-false _ _ x.0) (line_from at 0 line) refl x.1
]
  where
    by_read : LONGEST_LINE < length line → (r : Result (List Token) ScanFault) → line_from at 0 line ≡ r
        → in_long_line number (at + LONGEST_LINE) r ≡ Err e → LineFails number at line e
    by_read long (Ok ts) is h = too_long number at line e long (err_value {A = List Token} _ e h)
        (λ other this. absurd (let bad = sym is ∙ this in cc))
    by_read long (Err (BadByte p)) is h = elim (chosen (nat_le p (at + LONGEST_LINE)) _ _ _ h) [
      | inl x ↦ early number at line (BadByte p) e is (leb-true _ _ x.0) (err_value {A = List Token} _ e x.1)
      | inr x ↦ too_long number at line e long (err_value {A = List Token} _ e x.1)
          (λ other. later_than at (at + LONGEST_LINE) line (BadByte p) other is (leb-false _ _ x.0))
    ]
    by_read long (Err (NumberTooLarge p)) is h = elim (chosen (nat_le p (at + LONGEST_LINE)) _ _ _ h) [
      | inl x ↦ early number at line (NumberTooLarge p) e is (leb-true _ _ x.0)
          (err_value {A = List Token} _ e x.1)
      | inr x ↦ too_long number at line e long (err_value {A = List Token} _ e x.1)
          (λ other. later_than at (at + LONGEST_LINE) line (NumberTooLarge p) other is (leb-false _ _ x.0))
    ]
    by_read long (Err (LineTooLong n)) is h = let w = read_is_wrong (length line) at line (LineTooLong n)
        (omega arith) is in absurd (never_long at w.0 line n w.1)
    by_read long (Err NoMemory) is h = let w = read_is_wrong (length line) at line NoMemory
        (omega arith) is in absurd (never_memory at w.0 line w.1)

-- ---- texts

failing_lines_are_read : (number at : ℕ) (lines : List (List ℕ)) (e : ScanFault)
    → LinesFail number at lines e → lines_from number at lines ≡ Err e
unfolding lines_from
failing_lines_are_read number at [] e h = absurd h
failing_lines_are_read number at (line ∷ []) e (inl h) = failing_is_read number at line e h
failing_lines_are_read number at (line ∷ []) e (inr h) = absurd h.2
failing_lines_are_read number at (line ∷ next ∷ lines) e (inl h) = let one =
    failing_is_read number at line e h in rw one refl
failing_lines_are_read number at (line ∷ next ∷ lines) e (inr h) =
    let one = line_is_read number at line h.0 h.1 in
    let others = failing_lines_are_read (number + 1) (at + length line + 1) (next ∷ lines) e h.2 in
    rw (one, others) refl

read_lines_are_failing : (number at : ℕ) (lines : List (List ℕ)) (e : ScanFault)
    → lines_from number at lines ≡ Err e → LinesFail number at lines e
unfolding lines_from
read_lines_are_failing number at [] e h = absurd cc
read_lines_are_failing number at (line ∷ []) e h = inl (read_is_failing number at line e h)
read_lines_are_failing number at (line ∷ next ∷ lines) e h =
    by_line (λ read. read_lines_are_failing (number + 1) (at + length line + 1) (next ∷ lines) e read)
    (line_tokens number at line) refl (lines_from (number + 1) (at + length line + 1) (next ∷ lines))
    refl h
  where
    by_line : (lines_from (number + 1) (at + length line + 1) (next ∷ lines) ≡ Err e
        → LinesFail (number + 1) (at + length line + 1) (next ∷ lines) e)
        → (r : Result (List Token) ScanFault) → line_tokens number at line ≡ r
        → (s : Result (List Token) ScanFault) → lines_from (number + 1) (at + length line + 1)
        (next ∷ lines) ≡ s
        → (r >>= λ first. s >>= λ others. Ok (first ++ newline_at (at + length line) ∷ others)) ≡ Err e
        → LinesFail number at (line ∷ next ∷ lines) e
    by_line behind (Err d) is s others h = inl (read_is_failing number at line e (is ∙ h))
    by_line behind (Ok ts) is (Ok more) others h = absurd cc
    by_line behind (Ok ts) is (Err d) others h =
        inr (ts, read_is_line number at line ts is, behind (others ∙ h))

pub fault_is_read : (text : List ℕ) (e : ScanFault) → HasFault text e → scanned text ≡ Err e
unfolding scanned
fault_is_read text e h = failing_lines_are_read 1 0 (slice_split is_newline text) e h

pub read_is_fault : (text : List ℕ) (e : ScanFault) → scanned text ≡ Err e → HasFault text e
unfolding scanned
read_is_fault text e h = read_lines_are_failing 1 0 (slice_split is_newline text) e h

-- for what scan answers

pub told_fault : (text : List ℕ) (e : ScanFault) → Fails is_refusal e (scanned text)
    → (e ≡ NoMemory) ⊎ HasFault text e
told_fault text NoMemory h = inl refl
told_fault text e h = inr (read_is_fault text e h)

pub one_fault : (text : List ℕ) (d e : ScanFault) → Fails is_refusal d (scanned text) → HasFault text e
    → (d ≡ e) ⊎ (d ≡ NoMemory)
one_fault text NoMemory e h has = inr refl
one_fault text d e h has = inl (err_value {A = List Token} _ e (sym h ∙ fault_is_read text e has))

pub no_tokens_and_fault : (text : List ℕ) (ts : List Token) (e : ScanFault) → scanned text ≡ Ok ts
    → HasFault text e → ⊥
no_tokens_and_fault text ts e read has = absurd (let bad = sym read ∙ fault_is_read text e has in cc)
