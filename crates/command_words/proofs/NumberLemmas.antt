-- What `parse` reads of a word of digits.
use Rattle.std.proofs.Common.{◌≡◌, ◌≢◌, ℕ, ◌<◌, ◌≤◌, ◌^◌, List, length, Bool, true, false, Some, None}
use Rattle.std.proofs.Common.{Result, get_or, refl, ap, ◌∙◌, arith, le-leb, inl, inr}
use Rattle.std.specs.Prelude.{Ok, Err, nat_le, nat_lt}
use Rattle.std.specs.Result.{result_ok}
use Rattle.std.specs.Str.{all_ascii_digits}
use Rattle.std.specs.Str.Parse.{digits_value, ParsesUnsigned}
use Rattle.std.proofs.lemmas.Bool.{cases_Bool, leb-true, lt-ltb, ltb-true}
use Rattle.std.proofs.lemmas.Str.Parse.{IsNumeralModel, numerals_by_value, tells_all_ascii_digits}
use Rattle.std.proofs.lemmas.Str.Parse.{parse_plain}
use Rattle.command_words.specs.Number.{number_in}

own : IsNumeralModel (λ ds. all_ascii_digits ds ≡ true) (digits_value 10)
own = numerals_by_value _ tells_all_ascii_digits

-- what doesn't begin with `+`
pub plain_word : (plus : Bool) (bs : List ℕ) → (get_or bs 0 0 ≡ 43 → plus ≡ true) → plus ≡ false
    → get_or bs 0 0 ≢ 43
plain_word plus bs s f e = let t = s e in cc

pub number_taken : {E : Type 0} (least most : ℕ) (bs : List ℕ) (r : Result ℕ E) (n : ℕ)
    → ParsesUnsigned 64 10 bs r → get_or bs 0 0 ≢ 43 → Some n ≡ result_ok r
    → least ≤ n → n ≤ most → Some n ≡ number_in least most bs
unfolding number_in
number_taken {E} least most bs (Ok m) n h plain e low high =
    let p : (all_ascii_digits bs ≡ true × 0 < length bs × digits_value 10 bs < 2 ^ 64)
    × (m ≡ digits_value 10 bs) = parse_plain own {E = E} 64 bs (Ok m) h plain in
    let q : n ≡ m = cc in let same : n ≡ digits_value 10 bs = q ∙ p.1 in
    let some : nat_lt 0 (length bs) ≡ true = lt-ltb 0 (length bs) p.0.1 in
    let l : nat_le least (digits_value 10 bs) ≡ true = le-leb least (digits_value 10 bs) (omega arith) in
    let g : nat_le (digits_value 10 bs) most ≡ true = le-leb (digits_value 10 bs) most (omega arith) in
    rw (some, p.0.0, l, g) (ap Some same)
number_taken least most bs (Err e) n h plain was low high = cc

pub number_refused : {E : Type 0} (least most : ℕ) (bs : List ℕ) (r : Result ℕ E) → most < 2 ^ 64
    → ParsesUnsigned 64 10 bs r → get_or bs 0 0 ≢ 43 → None ≡ result_ok r → None ≡ number_in least most bs
unfolding number_in
number_refused least most bs (Ok m) fits h plain was = cc
number_refused least most bs (Err e) fits h plain was =
    let p = parse_plain own 64 bs (Err e) h plain in
    elim (cases_Bool (nat_lt 0 (length bs))) as (λ _. None ≡ number_in least most bs) [
      | inl s ↦ elim (cases_Bool (all_ascii_digits bs)) as (λ _. None ≡ number_in least most bs) [
        | inl d ↦ elim (cases_Bool (nat_le least (digits_value 10 bs))) as
            (λ _. None ≡ number_in least most bs) [
              | inl l ↦ elim (cases_Bool (nat_le (digits_value 10 bs) most)) as
                  (λ _. None ≡ number_in least most bs) [
                    | inl g ↦ let small = leb-true (digits_value 10 bs) most g in
                        absurd (p (d, ltb-true 0 (length bs) s, omega arith))
                    | inr g ↦ rw (s, d, l, g) refl
                  ]
              | inr l ↦ rw (s, d, l) refl
            ]
        | inr d ↦ rw (s, d) refl
      ]
      | inr s ↦ rw s refl
    ]
