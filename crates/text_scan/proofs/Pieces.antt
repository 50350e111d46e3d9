-- What the text of a piece is read as, whatever follows.
use Rattle.std.proofs.Common.{◌≡◌, ℕ, suc, ◌+◌, ◌<◌, ◌≤◌, Bool, true, false, List, [], ◌∷◌, ◌++◌, length}
use Rattle.std.proofs.Common.{take, drop, Some, None, Option, Ok, refl, sym, ap, ◌∙◌, subst, append-nil}
use Rattle.std.proofs.Common.{arith, lit<, inl, inr}
use Rattle.std.specs.Prelude.{◌==◌, nat_le}
use Rattle.std.specs.List.{list_all, prefix_len, take_while}
use Rattle.std.specs.Str.Parse.{digits_value}
use Rattle.std.proofs.lemmas.Bool.{and_parts, le-leb, ne_eqb, cases_eq, and_left, and_right}
use Rattle.std.proofs.lemmas.Bool.Decides.{nat_tests}
use Rattle.std.proofs.Math.Seq.{drop-append_seam, take-append_seam}
use Rattle.text_scan.specs.declared.TheConstants.{LARGEST_NUMBER}
use Rattle.text_scan.specs.declared.token.TokenKind.{TokenKind}
use Rattle.text_scan.specs.declared.token.TokenKind.TheVariants.{Name, Number, Sign, Equal, NewLine}
use Rattle.text_scan.specs.declared.piece.Piece.{Piece}
use Rattle.text_scan.specs.Bytes.{is_digit, is_name_start, is_name_byte, is_blank, is_sign}
use Rattle.text_scan.specs.Tokens.{first_of, number_piece, piece_at, begins_equal, token_of, line_from}
use Rattle.text_scan.specs.Tokens.{with_front}
use Rattle.text_scan.specs.Grammar.{IsName, IsPiece}
use Rattle.text_scan.proofs.Lines.{one_piece, begins}

-- a piece that isn't empty, and what is read after it
pub after_piece : (at : ℕ) (first rest : List ℕ) (p : Piece) → 0 < length first → p.len ≡ length first
    → piece_at at (first ++ rest) ≡ Ok p
    → line_from at 0 (first ++ rest) ≡ with_front (token_of at p.kind p.len)
    (line_from (at + length first) 0 rest)
after_piece at [] rest p lt len read = absurd (omega arith)
after_piece at (b ∷ first) rest p lt len read =
    let one = one_piece [] at b (first ++ rest) p (omega (arith, len)) read in
    sym (begins (line_from at 0 (b ∷ (first ++ rest)))) ∙ one
    ∙ ap (λ n. with_front (token_of at p.kind p.len) (line_from (at + n) 0 (drop n (b ∷ (first ++ rest)))))
    len
    ∙ ap (λ l. with_front (token_of at p.kind p.len) (line_from (at + length (b ∷ first)) 0 l))
    (drop-append_seam (b ∷ first) rest)

-- ---- runs

run_ends : (p : ℕ → Bool) (xs ys : List ℕ) → list_all p xs ≡ true → p (first_of ys) ≡ false
    → prefix_len p (xs ++ ys) ≡ length xs
run_ends p [] [] h e = refl
run_ends p [] (y ∷ ys) h e = rw e refl
run_ends p (x ∷ xs) ys h e =
    let q = and_parts (p x) (list_all p xs) h in
    let r = run_ends p xs ys q.1 e in
    let one : p x ≡ true = q.0 in
    rw (one, r) (omega arith)

-- ---- names

first_front : (xs ys : List ℕ) → 0 < length xs → first_of (xs ++ ys) ≡ first_of xs
first_front [] ys lt = absurd (omega arith)
first_front (x ∷ xs) ys lt = refl

-- a letter is no blank and begins no comment
letter_blank : (b : ℕ) → is_name_start b ≡ true → is_blank b ≡ false
letter_blank b h = grind (arith, nat_tests)

letter_hash : (b : ℕ) → is_name_start b ≡ true → (b == 35) ≡ false
letter_hash b h = grind (arith, nat_tests)

pub name_piece : (name rest : List ℕ) (at : ℕ) → IsName name → is_name_byte (first_of rest) ≡ false
    → piece_at at (name ++ rest) ≡ Ok (record { kind = Some Name; len = length name })
unfolding piece_at
name_piece name rest at w stops =
    let first = first_front name rest w.some in
    let start = ap is_name_start first ∙ w.start in
    let blank = letter_blank (first_of (name ++ rest)) start in
    let no_hash = letter_hash (first_of (name ++ rest)) start in
    let run = run_ends is_name_byte name rest w.bytes stops in
    rw (blank, no_hash, start, run) refl

-- ---- numbers

pub digit_blank : (b : ℕ) → is_digit b ≡ true → is_blank b ≡ false
digit_blank b h = grind (arith, nat_tests)

pub digit_hash : (b : ℕ) → is_digit b ≡ true → (b == 35) ≡ false
digit_hash b h = grind (arith, nat_tests)

pub digit_start : (b : ℕ) → is_digit b ≡ true → is_name_start b ≡ false
digit_start b h = grind (arith, nat_tests)

first_passes : (p : ℕ → Bool) (xs : List ℕ) → 0 < length xs → list_all p xs ≡ true → p (first_of xs) ≡ true
first_passes p [] lt h = absurd (omega arith)
first_passes p (x ∷ xs) lt h = (and_parts (p x) (list_all p xs) h).0

value_fits : (at n : ℕ) (ds : List ℕ) → digits_value 10 ds ≡ n → n ≤ LARGEST_NUMBER
    → number_piece at ds ≡ Ok (record { kind = Some (Number n); len = length ds })
unfolding number_piece
value_fits at n ds value le =
    let fits : nat_le n LARGEST_NUMBER ≡ true = le-leb _ _ le in
    rw (value, fits) refl

pub digits_piece : (ds rest : List ℕ) (at n : ℕ) → 0 < length ds → list_all is_digit ds ≡ true
    → digits_value 10 ds ≡ n → n ≤ LARGEST_NUMBER → is_digit (first_of rest) ≡ false
    → piece_at at (ds ++ rest) ≡ Ok (record { kind = Some (Number n); len = length ds })
unfolding piece_at
digits_piece ds rest at n some all value le stops =
    let first = first_front ds rest some in
    let digit : is_digit (first_of (ds ++ rest)) ≡ true = ap is_digit first
    ∙ first_passes is_digit ds some all in
    let blank = digit_blank (first_of (ds ++ rest)) digit in
    let no_hash = digit_hash (first_of (ds ++ rest)) digit in
    let start = digit_start (first_of (ds ++ rest)) digit in
    let run : take_while is_digit (ds ++ rest) ≡ ds = ap (λ k. take k (ds ++ rest))
    (run_ends is_digit ds rest all stops) ∙ take-append_seam ds rest in
    rw (blank, no_hash, start, digit) (ap (number_piece at) run ∙ value_fits at n ds value le)

-- ---- the others

blank_read : (at b : ℕ) (after : List ℕ) → is_blank b ≡ true → piece_at at (b ∷ after) ≡ Ok
    (record { kind = None; len = 1 })
unfolding piece_at
blank_read at b after h = rw h refl

comment_read : (at : ℕ) (more after : List ℕ) → after ≡ [] → piece_at at (35 ∷ (more ++ after)) ≡ Ok
    (record { kind = None; len = length (35 ∷ more) })
unfolding piece_at
comment_read at more after h = ap (λ n. Ok (record { kind = None; len = suc n }))
    (ap length (ap (λ l. more ++ l) h ∙ append-nil more))

equal_read : (at : ℕ) (after : List ℕ) → piece_at at (61 ∷ 61 ∷ after) ≡ Ok
    (record { kind = Some Equal; len = 2 })
unfolding piece_at
equal_read at after = refl

-- a sign is none of the bytes that come before it in the table
sign_blank : (b : ℕ) → is_sign b ≡ true → is_blank b ≡ false
unfolding is_sign
sign_blank b h = grind (arith, nat_tests)

sign_hash : (b : ℕ) → is_sign b ≡ true → (b == 35) ≡ false
unfolding is_sign
sign_hash b h = grind (arith, nat_tests)

sign_start : (b : ℕ) → is_sign b ≡ true → is_name_start b ≡ false
unfolding is_sign
sign_start b h = grind (arith, nat_tests)

sign_digit : (b : ℕ) → is_sign b ≡ true → is_digit b ≡ false
unfolding is_sign
sign_digit b h = grind (arith, nat_tests)

second_of : (b : ℕ) (after : List ℕ) → (b ≡ 61 → first_of after ≡ 61 → ⊥) → begins_equal (b ∷ after) ≡ false
second_of b [] h = and_right (b == 61) false refl
second_of b (c ∷ after) h =
    elim (cases_eq b 61) [
      | inl same ↦ and_right (b == 61) (c == 61) (ne_eqb c 61 (h same))
      | inr other ↦
          and_left (b == 61) (c == 61) (ne_eqb b 61 other)
    ]

sign_read : (at b : ℕ) (after : List ℕ) → is_sign b ≡ true → (b ≡ 61 → first_of after ≡ 61 → ⊥)
    → piece_at at (b ∷ after) ≡ Ok (record { kind = Some (Sign b); len = 1 })
unfolding piece_at
sign_read at b after h single =
    let blank = sign_blank b h in
    let no_hash = sign_hash b h in
    let start = sign_start b h in
    let digit = sign_digit b h in
    let equal = second_of b after single in
    rw (blank, no_hash, start, digit, equal, h) refl

-- a piece and its length
pub record Read (at : ℕ) (kind : Option TokenKind) (text after : List ℕ) : Type 0 where
  pub some : 0 < length text
  pub is : piece_at at (text ++ after) ≡ Ok (record { kind = kind; len = length text })

pub piece_read : (at : ℕ) (kind : Option TokenKind) (text after : List ℕ) → IsPiece kind text after
    → Read at kind text after
piece_read at None text after (inl h) = subst (λ t. Read at None t after) (sym h.1)
    (record { some = lit< tt; is = blank_read at h.0 after h.2 })
piece_read at None text after (inr h) = subst (λ t. Read at None t after) (sym h.1)
    (record { some = omega arith; is = comment_read at h.0 after h.2 })
piece_read at (Some Name) text after h = record { some = h.0.some; is = name_piece text after at h.0 h.1 }
piece_read at (Some (Number n)) text after h =
    record { some = h.0.some; is = digits_piece text after at n h.0.some h.0.digits h.0.value h.0.small h.1 }
piece_read at (Some (Sign s)) text after h = subst (λ t. Read at (Some (Sign s)) t after) (sym h.0.0)
    (record { some = lit< tt; is = sign_read at s after h.0.1 h.1 })
piece_read at (Some Equal) text after h = subst (λ t. Read at (Some Equal) t after) (sym h.0)
    (record { some = lit< tt; is = equal_read at after })
piece_read at (Some NewLine) text after h = absurd h.1
