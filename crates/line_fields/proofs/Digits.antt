-- Digits and their value.
use Rattle.std.proofs.Common.{◌≡◌, ℕ, ◌+◌, ◌-◌, ◌*◌, ◌<◌, ◌≤◌, true, zero, suc, List, [], ◌∷◌, length, get_or}
use Rattle.std.proofs.Common.{drop, sym, ap, ◌∙◌, arith, drop-cons}
use Rattle.std.specs.Prelude.{nat_le}
use Rattle.std.specs.List.{list_all}
use Rattle.std.specs.Str.Parse.{digits_value, digits_value_after}
use Rattle.std.specs.Char.{digit_value}
use Rattle.std.proofs.lemmas.Bool.{and_parts, leb-true}
use Rattle.std.proofs.lemmas.Str.{digit_value_digit}
use Rattle.cap_words.specs.Names.{is_digit}

-- further digits make no number smaller
grows : (n : ℕ) (ds : List ℕ) → n ≤ digits_value_after 10 n ds
grows n [] = omega arith
grows n (d ∷ ds) = omega (arith, grows (n * 10 + digit_value d) ds)

digit_in_range : (b : ℕ) → is_digit b ≡ true → (48 ≤ b) × (b ≤ 57)
digit_in_range b h = let p = and_parts (nat_le 48 b) (nat_le b 57) h in (leb-true 48 b p.0, leb-true b 57 p.1)

digit_here : (i : ℕ) (ds : List ℕ) → i < length ds → list_all is_digit ds ≡ true
    → is_digit (get_or ds i 0) ≡ true
digit_here i [] lt h = absurd (omega arith)
digit_here zero (d ∷ ds) lt h = (and_parts (is_digit d) (list_all is_digit ds) h).0
digit_here (suc i) (d ∷ ds) lt h =
    digit_here i ds (omega arith) (and_parts (is_digit d) (list_all is_digit ds) h).1

-- a digit as a number
digit_is : (i : ℕ) (ds : List ℕ) → i < length ds → list_all is_digit ds ≡ true
    → get_or ds i 0 - 48 ≡ digit_value (get_or ds i 0)
digit_is i ds lt h =
    let r = digit_in_range (get_or ds i 0) (digit_here i ds lt h) in
    omega (arith, digit_value_digit (get_or ds i 0) r)

-- where one digit more passes the most, so do all
pub too_large : (most value digit i : ℕ) (ds : List ℕ) → i < length ds → digit ≡ get_or ds i 0 - 48
    → list_all is_digit ds ≡ true → digits_value_after 10 value (drop i ds) ≡ digits_value 10 ds
    → most < value * 10 + digit → most < digits_value 10 ds
too_large most value digit i ds lt is all so_far more =
    let d : digit ≡ digit_value (get_or ds i 0) = is ∙ digit_is i ds lt all in
    let here : digits_value_after 10 (value * 10 + digit) (drop (suc i) ds) ≡ digits_value 10 ds =
    ap (λ e. digits_value_after 10 (value * 10 + e) (drop (suc i) ds)) d
    ∙ ap (digits_value_after 10 value) (sym (drop-cons ds i 0 lt)) ∙ so_far in
    let low = grows (value * 10 + digit) (drop (suc i) ds) in
    omega (arith, here, low, more)
