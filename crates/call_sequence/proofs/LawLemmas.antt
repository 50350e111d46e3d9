-- Numbers that sequences reckon with, and code that stands as before where a cell outside it is set.
use Rattle.std.proofs.Common.{◌≡◌, ◌≢◌, inl, inr, ℕ, ◌+◌, ◌-◌, ◌^◌, ◌≤◌, pos, negsuc, ℤ, ◌+ℤ◌, ◌-ℤ◌, true}
use Rattle.std.proofs.Common.{false, List, length, ap, arith, lt-ltb, ne_eqb, refl, FitsSigned, w32}
use Rattle.std.proofs.lemmas.Int.{ints}
use Rattle.std.proofs.lemmas.Bool.{cases_lt}
use Rattle.std.specs.Ordering.{nat_cmp}
use Rattle.std.specs.FinMap.{FinMap}
use Rattle.cap_words.specs.declared.TheConstants.{LAST_PLACE}
use Rattle.cap_words.specs.declared.Word.{Word}
use Rattle.lcm_isa.specs.declared.Instr.{Instr}
use Rattle.lcm_machine.specs.Cells.{set_cell}
use Rattle.lcm_machine.specs.Table.{fits_64, is_zero}
use Rattle.lcm_machine.specs.Runs.{Stands}
use Rattle.lcm_machine.proofs.Offers.{Stands-set, Stands-set_below}
use Rattle.call_sequence.specs.Sequences.{distance}
use Rattle.call_sequence.specs.SequenceRuns.{IsOutsideRange}

pub fits_small : (n : ℕ) → n ≤ LAST_PLACE → fits_64 (pos n) ≡ true
fits_small n h = lt-ltb n (2 ^ 63) (omega (arith, h))

pub small_operand : (n : ℕ) → n ≤ LAST_PLACE → FitsSigned w32 (pos n)
small_operand n h = record { sfits = omega (arith, h) }

-- the distance of two places is an operand, and leads from the one to the other
pub near_operand : (from to : ℕ) → from ≤ LAST_PLACE → to ≤ LAST_PLACE → FitsSigned w32 (distance from to)
near_operand from to h g = elim (cases_lt to from) as (λ _. FitsSigned w32 (distance from to)) [
  | inl lt ↦
      (let e : pos to -ℤ pos from ≡ negsuc (from - to - 1) =
      omega (arith, ints, lt) in rw e (record { sfits = omega (arith, h, g) }))
  | inr ge ↦
      (let e : pos to -ℤ pos from ≡ pos (to - from) =
      omega (arith, ints, ge) in rw e (record { sfits = omega (arith, h, g) }))
]

pub leads : (a base from to : ℕ) → a ≡ base + from → pos a +ℤ distance from to ≡ pos (base + to)
leads a base from to e = omega (arith, ints, e)

pub not_zero_int : (z : ℤ) → z ≢ pos 0 → is_zero z ≡ false
not_zero_int (pos n) ne = ne_eqb n 0 (λ e. ne (ap pos e))
not_zero_int (negsuc n) ne = refl

pub not_zero : (a b : ℕ) → a ≢ b → is_zero (pos a -ℤ pos b) ≡ false
not_zero a b ne = not_zero_int (pos a -ℤ pos b) (λ e. let same : a ≡ b = omega (arith, ints, e) in ne same)

pub fits_less : (a b : ℕ) → a ≤ LAST_PLACE → b ≤ LAST_PLACE → fits_64 (pos a -ℤ pos b) ≡ true
fits_less a b h g = elim (cases_lt a b) as (λ _. fits_64 (pos a -ℤ pos b) ≡ true) [
  | inl lt ↦
      (let e : pos a -ℤ pos b ≡ negsuc (b - a - 1) =
      omega (arith, ints, lt) in rw e (lt-ltb (b - a - 1) (2 ^ 63) (omega (arith, h, g))))
  | inr ge ↦
      (let e : pos a -ℤ pos b ≡ pos (a - b) =
      omega (arith, ints, ge) in rw e (fits_small (a - b) (omega (arith, h))))
]

-- code within a range stands as before where a cell outside is set
pub Stands-outside : {W : Type 0} (look : W → Word) (m : FinMap nat_cmp W) (a : ℕ) (w : W) (base last at : ℕ)
    (is : List Instr)
    → IsOutsideRange a base last → base ≤ at → at + length is ≤ last + 1 → Stands look m at is
    → Stands look (set_cell m a w) at is
Stands-outside look m a w base last at is (inl below) low high h =
    Stands-set_below look m a w at is (omega (arith, below, low)) h
Stands-outside look m a w base last at is (inr above) low high h =
    Stands-set look m a w at is (omega (arith, above, high)) h

pub differs : (a base last q : ℕ) → IsOutsideRange a base last → base ≤ q → q ≤ last → q ≢ a
differs a base last q (inl below) low high = omega (arith, below, low)
differs a base last q (inr above) low high = omega (arith, above, high)
