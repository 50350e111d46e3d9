-- Numbers that templates reckon with.
use Rattle.std.proofs.Common.{ℤ, ◌+ℤ◌, ◌≡◌, inl, inr, ℕ, ◌+◌, ◌-◌, ◌^◌, ◌≤◌, pos, negsuc, ◌-ℤ◌, true, arith}
use Rattle.std.proofs.Common.{lt-ltb}
use Rattle.std.proofs.lemmas.Int.{ints}
use Rattle.std.proofs.lemmas.Bool.{cases_lt}
use Rattle.cap_words.specs.declared.TheConstants.{LAST_PLACE}
use Rattle.lcm_machine.specs.Table.{fits_64}

pub fits_small : (n : ℕ) → n ≤ LAST_PLACE + 1 → fits_64 (pos n) ≡ true
fits_small n h = lt-ltb n (2 ^ 63) (omega (arith, h))

pub fits_less : (a b : ℕ) → a ≤ LAST_PLACE + 1 → b ≤ LAST_PLACE + 1 → fits_64 (pos a -ℤ pos b) ≡ true
fits_less a b h g = elim (cases_lt a b) as (λ _. fits_64 (pos a -ℤ pos b) ≡ true) [
  | inl lt ↦ (let e : pos a -ℤ pos b ≡ negsuc (b - a - 1) = omega (arith, ints, lt) in
      rw e (lt-ltb (b - a - 1) (2 ^ 63) (omega (arith, h, g))))
  | inr ge ↦ (let e : pos a -ℤ pos b ≡ pos (a - b) = omega (arith, ints, ge) in
      rw e (fits_small (a - b) (omega (arith, h))))
]

pub zero_more : (z : ℤ) → z +ℤ pos 0 ≡ z
zero_more z = omega (arith, ints)
