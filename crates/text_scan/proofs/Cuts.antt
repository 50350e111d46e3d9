-- A line that is cut so is read so, and back.
use Rattle.std.proofs.Common.{◌≡◌, ℕ, zero, suc, ◌+◌, drop, length-take-le, take-append-drop, ◌<◌, ◌≤◌, Bool}
use Rattle.std.proofs.Common.{true, false, cond, List, [], ◌∷◌, ◌++◌, length, take, Some, Option, Ok, refl}
use Rattle.std.proofs.Common.{sym, ap, ◌∙◌, subst, arith, inl, inr, Result, Err, eq-eqb, length-drop}
use Rattle.std.specs.Prelude.{◌==◌, nat_le, ◌⊎◌}
use Rattle.std.specs.List.{take_while, prefix_len}
use Rattle.std.specs.Str.Parse.{digits_value}
use Rattle.std.proofs.lemmas.Bool.{and_parts, eqb-true, leb-true}
use Rattle.std.proofs.lemmas.List.Sums.{prefix_len-le-length}
use Rattle.std.proofs.Math.Seq.{take-length, drop-length}
use Rattle.text_scan.specs.declared.TheConstants.{LARGEST_NUMBER}
use Rattle.text_scan.specs.declared.fault.ScanFault.{ScanFault}
use Rattle.text_scan.specs.declared.token.TokenKind.{TokenKind}
use Rattle.text_scan.specs.declared.token.TokenKind.TheVariants.{Name, Number, Equal}
use Rattle.text_scan.specs.declared.token.Token.{Token}
use Rattle.text_scan.specs.declared.piece.Piece.{Piece}
use Rattle.text_scan.specs.Bytes.{is_digit, is_name_start, is_name_byte, is_blank, is_sign}
use Rattle.text_scan.specs.Tokens.{first_of, number_piece, piece_at, begins_equal, token_of, line_from}
use Rattle.text_scan.specs.Tokens.{with_front}
use Rattle.text_scan.specs.Grammar.{IsPiece, IsCut, tokens_at}
use Rattle.text_scan.proofs.Lines.{begins, one_piece}
use Rattle.text_scan.proofs.Digits.{run_is, name_begins}
use Rattle.text_scan.proofs.Pieces.{after_piece, piece_read}

-- what is cut so is read so
pub cut_is_read : (at : ℕ) (pieces : List (Option TokenKind × List ℕ)) (line : List ℕ) → IsCut pieces line
    → line_from at 0 line ≡ Ok (tokens_at at pieces)
unfolding line_from
cut_is_read at [] line h = ap (line_from at 0) h
cut_is_read at (p ∷ pieces) line h =
    let r = piece_read at p.0 p.1 h.0 h.2 in
    ap (line_from at 0) h.1 ∙ after_piece at p.1 h.0 (record { kind = p.0; len = length p.1 }) r.some refl
    r.is
    ∙ ap (with_front (token_of at p.0 (length p.1))) (cut_is_read (at + length p.1) pieces h.0 h.3)

-- ---- and back

abbrev pub Chosen : {A : Type 0} → Bool → A → A → A → Type 0
Chosen b x y z = ((b ≡ true) × (x ≡ z)) ⊎ ((b ≡ false) × (y ≡ z))

pub chosen : {A : Type 0} (b : Bool) (x y z : A) → cond b x y ≡ z → Chosen b x y z
chosen true x y z h = inl (refl, h)
chosen false x y z h = inr (refl, h)

-- what is read as a piece is one
abbrev Found : List ℕ → Piece → Type 0
Found text p = IsPiece p.kind (take p.len text) (drop p.len text) × (1 ≤ p.len) × (p.len ≤ length text)

ok_is : (text : List ℕ) (p q : Piece) (e : (let r : Result Piece ScanFault = Ok p in r) ≡ Ok q)
    → Found text p → Found text q
ok_is text p q e h = let same : p ≡ q = cc in subst (Found text) same h

run_stops_at : (p : ℕ → Bool) (x : ℕ) (xs : List ℕ) (b : Bool) → p x ≡ b
    → p (first_of (drop (prefix_len p xs) xs)) ≡ false → p (first_of (drop (prefix_len p (x ∷ xs)) (x ∷ xs)))
    ≡ false
run_stops_at p x xs true e h = let n : 1 + prefix_len p xs ≡ suc (prefix_len p xs) = omega arith in
    rw (e, n) h
run_stops_at p x xs false e h = rw e e

run_stops : (p : ℕ → Bool) (xs : List ℕ) → p 0 ≡ false → p (first_of (drop (prefix_len p xs) xs)) ≡ false
run_stops p [] zero_fails = zero_fails
run_stops p (x ∷ xs) zero_fails = run_stops_at p x xs (p x) refl (run_stops p xs zero_fails)

run_first : (p : ℕ → Bool) (x : ℕ) (xs : List ℕ) → p x ≡ true → (0 < length (take_while p (x ∷ xs)))
    × (first_of (take_while p (x ∷ xs)) ≡ x)
run_first p x xs e = let n : 1 + prefix_len p xs ≡ suc (prefix_len p xs) = omega arith in
    rw (e, n) (omega arith, refl)

name_found : (b : ℕ) (bs : List ℕ) → is_name_start b ≡ true
    → Found (b ∷ bs) (record { kind = Some Name; len = prefix_len is_name_byte (b ∷ bs) })
name_found b bs h =
    let r = run_first is_name_byte b bs (name_begins b h) in
    let most = prefix_len-le-length is_name_byte (b ∷ bs) in
    let len : length (take_while is_name_byte (b ∷ bs)) ≡ prefix_len is_name_byte (b ∷ bs) = length-take-le
    (prefix_len is_name_byte (b ∷ bs)) (b ∷ bs) most in (
      (
        record { some = r.0; start = ap is_name_start r.1 ∙ h; bytes = run_is is_name_byte (b ∷ bs) },
        run_stops is_name_byte (b ∷ bs) refl,
      ),
      omega (arith, len, r.0),
      most,
    )

number_found : (at : ℕ) (b : ℕ) (bs : List ℕ) (p : Piece) → is_digit b ≡ true
    → number_piece at (take_while is_digit (b ∷ bs)) ≡ Ok p → Found (b ∷ bs) p
unfolding number_piece
number_found at b bs p h e =
    let ds = take_while is_digit (b ∷ bs) in
    let r = run_first is_digit b bs h in
    let len : length ds ≡ prefix_len is_digit (b ∷ bs) = length-take-le (prefix_len is_digit (b ∷ bs))
    (b ∷ bs) (prefix_len-le-length is_digit (b ∷ bs)) in
    elim (chosen (nat_le (digits_value 10 ds) LARGEST_NUMBER) _ _ _ e) [
      | inl x ↦
          ok_is (b ∷ bs) _ p x.1 (
            (subst (λ n. IsPiece (Some (Number (digits_value 10 ds))) (take n (b ∷ bs)) (drop n (b ∷ bs)))
                (sym len) (
                  record {
                    some = r.0;
                    digits = run_is is_digit (b ∷ bs);
                    value = refl;
                    small = leb-true _ _ x.0;
                  },
                  run_stops is_digit (b ∷ bs) refl,
                )),
            omega (arith, r.0),
            omega (arith, len, prefix_len-le-length is_digit (b ∷ bs)),
          )
      | inr x ↦ absurd (let bad = x.1 in cc)
    ]

equal_found : (b : ℕ) (bs : List ℕ) → begins_equal (b ∷ bs) ≡ true
    → Found (b ∷ bs) (record { kind = Some Equal; len = 2 })
equal_found b [] h = absurd (let p = (and_parts (b == 61) false h).1 in cc)
equal_found b (c ∷ bs) h = let p = and_parts (b == 61) (c == 61) h in let one = eqb-true b 61 p.0 in
    let two = eqb-true c 61 p.1 in ((rw (one, two) refl, tt), omega arith, omega arith)

not_equal : (b : ℕ) (bs : List ℕ) → begins_equal (b ∷ bs) ≡ false → b ≡ 61 → first_of bs ≡ 61 → ⊥
not_equal b [] h one two = absurd (omega arith)
not_equal b (c ∷ bs) h one two = let e : begins_equal (b ∷ c ∷ bs) ≡ true =
    (let x = eq-eqb b 61 one in let y = eq-eqb c 61 two in rw (x, y) refl) in absurd cc

pub piece_found : (at b : ℕ) (bs : List ℕ) (p : Piece) → piece_at at (b ∷ bs) ≡ Ok p → Found (b ∷ bs) p
unfolding piece_at
piece_found at b bs p e = elim (chosen (is_blank b) _ _ _ e) [
  | inl x ↦ ok_is (b ∷ bs) _ p x.1 (inl (b, refl, x.0), omega arith, omega arith)
  | inr e1 ↦ elim (chosen (b == 35) _ _ _ e1.1) [
    | inl x ↦
        ok_is (b ∷ bs) _ p x.1 (
          inr (bs, take-length (b ∷ bs) ∙ ap (λ c. c ∷ bs) (eqb-true b 35 x.0), drop-length (b ∷ bs)),
          omega arith,
          omega arith,
        )
    | inr e2 ↦ elim (chosen (is_name_start b) _ _ _ e2.1) [
      | inl x ↦ ok_is (b ∷ bs) _ p x.1 (name_found b bs x.0)
      | inr e3 ↦ elim (chosen (is_digit b) _ _ _ e3.1) [
        | inl x ↦ number_found at b bs p x.0 x.1
        | inr e4 ↦ elim (chosen (begins_equal (b ∷ bs)) _ _ _ e4.1) [
          | inl x ↦ ok_is (b ∷ bs) _ p x.1 (equal_found b bs x.0)
          | inr e5 ↦ elim (chosen (is_sign b) _ _ _ e5.1) [
            | inl x ↦ ok_is (b ∷ bs) _ p x.1 (((refl, x.0), not_equal b bs e5.0), omega arith, omega arith)
            | inr e6 ↦ absurd (let bad = e6.1 in cc)
          ]
        ]
      ]
    ]
  ]
]

-- ---- a line

pub record Cut (at : ℕ) (line : List ℕ) (tokens : List Token) : Type 0 where
  pub pieces : List (Option TokenKind × List ℕ)
  pub cut : IsCut pieces line
  pub are : tokens ≡ tokens_at at pieces

front_ok : (front : List Token) (r : Result (List Token) ScanFault) (ts : List Token)
    → with_front front r ≡ Ok ts → (more : List Token) × (r ≡ Ok more) × (ts ≡ front ++ more)
front_ok front (Ok more) ts h = (more, refl, let e : front ++ more ≡ ts = cc in sym e)
front_ok front (Err e) ts h = absurd cc

next_ok : (at b : ℕ) (bs : List ℕ) (ts : List Token) (r : Result Piece ScanFault) → piece_at at (b ∷ bs) ≡ r
    → line_from at 0 (b ∷ bs) ≡ Ok ts → (p : Piece) × (piece_at at (b ∷ bs) ≡ Ok p)
unfolding line_from
next_ok at b bs ts (Ok p) e h = (p, e)
next_ok at b bs ts (Err f) e h = absurd (let bad = rw e at h in cc)

-- what is read so is cut so
pub read_is_cut : (n at : ℕ) (line : List ℕ) (ts : List Token) → length line ≤ n
    → line_from at 0 line ≡ Ok ts → Cut at line ts
unfolding line_from
read_is_cut n at [] ts le h = record { pieces = []; cut = refl; are = let e : [] ≡ ts = cc in sym e }
read_is_cut zero at (b ∷ bs) ts le h = absurd (omega arith)
read_is_cut (suc n) at (b ∷ bs) ts le h =
    let q = next_ok at b bs ts (piece_at at (b ∷ bs)) refl h in
    let p = q.0 in
    let f = piece_found at b bs p q.1 in
    let text = take p.len (b ∷ bs) in
    let after = drop p.len (b ∷ bs) in
    let whole : b ∷ bs ≡ text ++ after = sym (take-append-drop p.len (b ∷ bs)) in
    let len : length text ≡ p.len = length-take-le p.len (b ∷ bs) f.2 in
    let one = sym (begins (line_from at 0 (b ∷ bs))) ∙ one_piece [] at b bs p f.1 q.1 in
    let m = front_ok (token_of at p.kind p.len) (line_from (at + p.len) 0 after) ts (sym one ∙ h) in
    let c = read_is_cut n (at + p.len) after m.0 (omega (arith, length-drop p.len (b ∷ bs), f.1)) m.1 in
    record {
      pieces = (p.kind, text) ∷ c.pieces;
      cut = (after, whole, f.0, c.cut);
      are = m.2 ∙ ap (λ l. token_of at p.kind p.len ++ l) c.are
          ∙ ap (λ k. token_of at p.kind k ++ tokens_at (at + k) c.pieces) (sym len);
    }
