-- A number is what its decimal text is read as.
use Rattle.std.proofs.Common.{◌≡◌, ℕ, zero, suc, ◌+◌, ◌^◌, ◌<◌, ◌≤◌, Bool, true, false, cond, List, [], ◌∷◌}
use Rattle.std.proofs.Common.{length, get_or, drop, Option, Some, None, refl, sym, ap, ◌∙◌, subst, arith, inl}
use Rattle.std.proofs.Common.{inr, eq-eqb}
use Rattle.std.specs.Prelude.{ℤ, pos, negsuc, nat_le, nat_lt, not, ◌&&◌, ◌||◌, ◌==◌, ◌⊎◌, slice_index}
use Rattle.std.specs.Prelude.{FitsSigned, option_map, option_and_then, if◌then◌else◌}
use Rattle.std.specs.Int.{w64}
use Rattle.std.specs.List.{list_all}
use Rattle.std.specs.Fmt.{decimal, signed_decimal}
use Rattle.std.specs.Str.Parse.{digits_value}
use Rattle.std.proofs.lemmas.Bool.{and_parts, leb-true, le-leb, lt-ltb, ltb-true, eqb-true, ne_eqb, or_cases}
use Rattle.std.proofs.lemmas.Bool.{not-true}
use Rattle.std.proofs.lemmas.Str.Parse.{IsNumeralModel, IsDigitsTest, numerals_by_value}
use Rattle.std.proofs.lemmas.Fmt.{digits_decimal, digits_value-decimal, decimal-digits_value}
use Rattle.std.proofs.lemmas.Fmt.{decimal_nonempty, first_decimal, decimal_digit}
use Rattle.cap_words.specs.Names.{is_digit}
use Rattle.line_fields.specs.declared.TheConstants.{LAST_INTEGER}
use Rattle.line_fields.specs.Numbers.{is_plain, are_digits, number_in, negative, integer_in}

-- ---- what was found, and from what

pub chosen : {A : Type 0} (b : Bool) (x : A) (y : A) → cond b (Some x) None ≡ Some y → (b ≡ true) × (x ≡ y)
chosen true x y h = (refl, cc)
chosen false x y h = absurd cc

pub some_from : {A B : Type 0} (o : Option A) (f : A → Option B) (y : B) → option_and_then f o ≡ Some y
    → (x : A) × (o ≡ Some x) × (f x ≡ Some y)
some_from None f y h = absurd cc
some_from (Some x) f y h = (x, refl, h)

pub some_of : {A B : Type 0} (o : Option A) (f : A → B) (y : B) → option_map f o ≡ Some y
    → (x : A) × (o ≡ Some x) × (f x ≡ y)
some_of None f y h = absurd cc
some_of (Some x) f y h = (x, refl, cc)

-- ---- numbers

digits_test : IsDigitsTest (λ ds. list_all is_digit ds ≡ true)
digits_test = record {
  empty = refl;
  parts = λ c cs h.
      (let p = and_parts (is_digit c) (list_all is_digit cs) h in
      let q = and_parts (nat_le 48 c) (nat_le c 57) p.0 in
      ((leb-true 48 c q.0, leb-true c 57 q.1), p.1));
  more = λ c cs r h. (let one = le-leb 48 c r.0 in let two = le-leb c 57 r.1 in rw (one, two, h) refl);
}

numerals : IsNumeralModel (λ ds. list_all is_digit ds ≡ true) (digits_value 10)
numerals = numerals_by_value (λ ds. list_all is_digit ds ≡ true) digits_test

pub digits_of_decimal : (n : ℕ) → n < 2 ^ 64 → list_all is_digit (decimal n) ≡ true
digits_of_decimal n h = digits_decimal numerals n h

either_true : (a b : Bool) → (a ≡ true) ⊎ (b ≡ true) → (a || b) ≡ true
either_true true b h = refl
either_true false b (inl h) = absurd cc
either_true false b (inr h) = h

plain_decimal : (n : ℕ) → n < 2 ^ 64 → is_plain (decimal n) ≡ true
plain_decimal zero h = ap is_plain (decimal_digit 0 (omega arith))
plain_decimal (suc n) h =
    let lt = first_decimal (suc n) (omega arith) h in
    either_true (length (decimal (suc n)) == 1) (not (slice_index (decimal (suc n)) 0 == 48))
    (inr (ap not (ne_eqb (slice_index (decimal (suc n)) 0) 48 (λ e. absurd (omega (arith, e, lt))))))

are_decimal : (n : ℕ) → n < 2 ^ 64 → are_digits (decimal n) ≡ true
are_decimal n h =
    let some : nat_lt 0 (length (decimal n)) ≡ true = lt-ltb 0 (length (decimal n)) (decimal_nonempty n h) in
    let plain = plain_decimal n h in
    let all = digits_of_decimal n h in
    rw (some, plain, all) refl

pub number_again : (most n : ℕ) → n ≤ most → n < 2 ^ 64 → number_in most (decimal n) ≡ Some n
unfolding number_in
number_again most n le h =
    let digits = are_decimal n h in
    let value = digits_value-decimal numerals n h in
    let small : nat_le n most ≡ true = le-leb n most le in
    rw (digits, value, small) refl

first_zero : (text : List ℕ) → is_plain text ≡ true → get_or text 0 0 ≡ 48 → length text ≡ 1
first_zero text h e = elim (or_cases (length text == 1) (not (slice_index text 0 == 48)) h) [
  | inl one ↦ eqb-true (length text) 1 one
  | inr other ↦
      absurd (let yes : (slice_index text 0 == 48) ≡ true = eq-eqb (slice_index text 0) 48 e in
      let n = not-true _ other in
      let bad : true ≡ false = sym yes ∙ n in
      cc)
]

-- a text that is read as a number is its decimal text
pub number_is : (most n : ℕ) (text : List ℕ) → most < 2 ^ 64 → number_in most text ≡ Some n
    → (n ≤ most) × (text ≡ decimal n)
unfolding number_in
number_is most n text small h =
    let k = chosen (are_digits text && nat_le (digits_value 10 text) most) (digits_value 10 text) n h in
    let p = and_parts (are_digits text) (nat_le (digits_value 10 text) most) k.0 in
    let q = and_parts (nat_lt 0 (length text)) (is_plain text && list_all is_digit text) p.0 in
    let r = and_parts (is_plain text) (list_all is_digit text) q.1 in
    let le = leb-true (digits_value 10 text) most p.1 in
    let same =
    decimal-digits_value numerals text r.1 (ltb-true 0 (length text) q.0) (first_zero text r.0)
    (omega (arith, le, small)) in
    (omega (arith, le, k.1), sym same ∙ ap decimal k.1)

-- ---- integers

digit_first : (ds : List ℕ) → 0 < length ds → list_all is_digit ds ≡ true → 48 ≤ slice_index ds 0
digit_first [] lt h = absurd (omega arith)
digit_first (d ∷ ds) lt h =
    let p = and_parts (is_digit d) (list_all is_digit ds) h in
    leb-true 48 d (and_parts (nat_le 48 d) (nat_le d 57) p.0).0

pub integer_again : (z : ℤ) → FitsSigned w64 z → integer_in (signed_decimal z) ≡ Some z
unfolding integer_in
integer_again (pos n) h =
    let small : n < 2 ^ 64 = omega (arith, h) in
    let low = digit_first (decimal n) (decimal_nonempty n small) (digits_of_decimal n small) in
    let no_minus : (slice_index (decimal n) 0 == 45) ≡ false =
    ne_eqb (slice_index (decimal n) 0) 45 (λ e. absurd (omega (arith, e, low))) in
    let read = number_again LAST_INTEGER n (omega (arith, h)) small in
    rw (no_minus, read) refl
integer_again (negsuc n) h =
    let read = number_again (LAST_INTEGER + 1) (suc n) (omega (arith, h)) (omega (arith, h)) in
    rw read refl

minus_is : (n : ℕ) (z : ℤ) (text : List ℕ) → negative n ≡ Some z → n ≤ LAST_INTEGER + 1 → text ≡ decimal n
    → FitsSigned w64 z × (45 ∷ text ≡ signed_decimal z)
minus_is zero z text h le e = absurd cc
minus_is (suc n) z text h le e =
    let same : negsuc n ≡ z = cc in
    subst (λ v. FitsSigned w64 v × (45 ∷ text ≡ signed_decimal v)) same (omega arith, ap (λ t. 45 ∷ t) e)

first_and_rest : (text : List ℕ) → slice_index text 0 ≡ 45 → text ≡ 45 ∷ drop 1 text
first_and_rest [] h = absurd (omega arith)
first_and_rest (b ∷ bs) h = ap (λ c. c ∷ bs) h

by_sign : (b : Bool) (z : ℤ) (text : List ℕ) → (slice_index text 0 == 45) ≡ b
    → (if b then option_and_then negative (number_in (LAST_INTEGER + 1) (drop 1 text))
    else option_map pos (number_in LAST_INTEGER text)) ≡ Some z
    → FitsSigned w64 z × (text ≡ signed_decimal z)
by_sign true z text e h =
    let k = some_from (number_in (LAST_INTEGER + 1) (drop 1 text)) negative z h in
    let n = number_is (LAST_INTEGER + 1) k.0 (drop 1 text) (omega arith) k.1 in
    let m = minus_is k.0 z (drop 1 text) k.2 n.0 n.1 in
    (m.0, first_and_rest text (eqb-true _ _ e) ∙ m.1)
by_sign false z text e h =
    let k = some_of (number_in LAST_INTEGER text) pos z h in
    let n = number_is LAST_INTEGER k.0 text (omega arith) k.1 in
    subst (λ v. FitsSigned w64 v × (text ≡ signed_decimal v)) k.2 (omega (arith, n.0), n.1)

pub integer_is : (z : ℤ) (text : List ℕ) → integer_in text ≡ Some z
    → FitsSigned w64 z × (text ≡ signed_decimal z)
unfolding integer_in
integer_is z text h = by_sign (slice_index text 0 == 45) z text refl h
