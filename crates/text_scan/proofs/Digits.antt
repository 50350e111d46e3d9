-- Digits and their value.
use Rattle.std.proofs.Common.{◌≡◌, ℕ, ◌+◌, ◌-◌, ◌*◌, ◌<◌, ◌≤◌, Bool, true, false, cond, zero, suc, List}
use Rattle.std.proofs.Common.{[], ◌∷◌, length, get_or, drop, refl, sym, ap, ◌∙◌, arith, drop-cons}
use Rattle.std.specs.List.{list_all, prefix_len, take_while}
use Rattle.std.specs.Str.Parse.{digits_value, digits_value_after}
use Rattle.std.specs.Char.{digit_value}
use Rattle.std.proofs.lemmas.List.Sums.{take_while-cons}
use Rattle.std.specs.Prelude.{nat_le}
use Rattle.std.proofs.lemmas.Bool.{and_parts, leb-true}
use Rattle.std.proofs.lemmas.Str.{digit_value_digit}
use Rattle.text_scan.specs.declared.TheConstants.{LARGEST_NUMBER}
use Rattle.text_scan.specs.Bytes.{is_digit, is_name_start, is_name_byte}
use Rattle.text_scan.specs.Tokens.{AreDigits}

take_while_all : (p : ℕ → Bool) (x : ℕ) (xs : List ℕ) (b : Bool) → p x ≡ b
    → list_all p (take_while p xs) ≡ true → list_all p (cond b (x ∷ take_while p xs) []) ≡ true
take_while_all p x xs false e h = refl
take_while_all p x xs true e h = rw (e, h) refl

-- the bytes of a run are of its kind
pub run_is : (p : ℕ → Bool) (xs : List ℕ) → list_all p (take_while p xs) ≡ true
run_is p [] = refl
run_is p (x ∷ xs) = rw (take_while-cons p x xs) (take_while_all p x xs (p x) refl (run_is p xs))

-- further digits make no number smaller
pub grows : (n : ℕ) (ds : List ℕ) → n ≤ digits_value_after 10 n ds
grows n [] = omega arith
grows n (d ∷ ds) = omega (arith, grows (n * 10 + digit_value d) ds)

digit_in_range : (b : ℕ) → is_digit b ≡ true → (48 ≤ b) × (b ≤ 57)
digit_in_range b h = let p = and_parts (nat_le 48 b) (nat_le b 57) h in (leb-true 48 b p.0, leb-true b 57 p.1)

digit_here : (i : ℕ) (ds : List ℕ) → i < length ds → AreDigits ds → is_digit (get_or ds i 0) ≡ true
digit_here i [] lt h = absurd (omega arith)
digit_here zero (d ∷ ds) lt h = (and_parts (is_digit d) (list_all is_digit ds) h).0
digit_here (suc i) (d ∷ ds) lt h = digit_here i ds (omega arith)
    (and_parts (is_digit d) (list_all is_digit ds) h).1

-- a digit as a number
pub digit_is : (i : ℕ) (ds : List ℕ) → i < length ds → AreDigits ds → get_or ds i 0 - 48 ≡ digit_value
    (get_or ds i 0)
digit_is i ds lt h =
    let r = digit_in_range (get_or ds i 0) (digit_here i ds lt h) in
    omega (arith, digit_value_digit (get_or ds i 0) r)

pub too_large : (value digit i : ℕ) (ds : List ℕ) → i < length ds → digit ≡ get_or ds i 0 - 48 → AreDigits ds
    → digits_value_after 10 value (drop i ds) ≡ digits_value 10 ds
    → LARGEST_NUMBER < value * 10 + digit → LARGEST_NUMBER < digits_value 10 ds
too_large value digit i ds lt is all so_far more =
    let d : digit ≡ digit_value (get_or ds i 0) = is ∙ digit_is i ds lt all in
    let here : digits_value_after 10 (value * 10 + digit) (drop (suc i) ds) ≡ digits_value 10 ds =
    ap (λ e. digits_value_after 10 (value * 10 + e) (drop (suc i) ds)) d
    ∙ ap (digits_value_after 10 value) (sym (drop-cons ds i 0 lt)) ∙ so_far in
    let low = grows (value * 10 + digit) (drop (suc i) ds) in
    omega (arith, here, low, more)

pub run_begins : (p : ℕ → Bool) (xs : List ℕ) → 0 < length xs → p (get_or xs 0 0) ≡ true → 1 ≤ prefix_len p xs
run_begins p [] lt h = absurd (omega arith)
run_begins p (x ∷ xs) lt h = rw h (omega arith)

pub name_begins : (b : ℕ) → is_name_start b ≡ true → is_name_byte b ≡ true
name_begins b h = rw h refl
