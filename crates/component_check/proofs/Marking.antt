-- A table of bits: what setting one does.
use Rattle.std.proofs.Common.{◌≡◌, ℕ, ◌*◌, ◌/◌, ◌%◌, ◌^◌, ◌<◌, inl, inr, true, false, List, length}
use Rattle.std.proofs.Common.{get_or, refl, arith, eq-eqb}
use Rattle.std.proofs.Math.ListN.{set, replicate}
use Rattle.std.specs.Prelude.{◌==◌, ◌||◌}
use Rattle.std.specs.Int.{w64}
use Rattle.std.specs.Int.RustNames.{bit_or}
use Rattle.std.proofs.lemmas.Nat.Bits.{bit_at_set_same, bit_at_set_other, bit_at-zero}
use Rattle.std.proofs.lemmas.List.{get_or-replicate, get_or-set_same, get_or-set_other}
use Rattle.std.proofs.lemmas.Bool.{cases_eq, ne_eqb}
use Rattle.component_check.specs.Marks.{is_marked}

-- the word with one more bit
abbrev with_bit : ℕ → ℕ → ℕ
with_bit word i = bit_or word (1 * 2 ^ i % 2 ^ 64)

same_word : (a b : ℕ) → a / 64 ≡ b / 64 → (a ≡ b → ⊥) → a % 64 ≡ b % 64 → ⊥
same_word a b e ne f = omega arith

set_same : (bits : List ℕ) (n : ℕ) → n < 65536 → length bits ≡ 1024
    → is_marked (set bits (n / 64) (with_bit (get_or bits (n / 64) 0) (n % 64))) n ≡ true
set_same bits n lt len =
    rw (get_or-set_same bits (n / 64) (with_bit (get_or bits (n / 64) 0) (n % 64)) 0 (omega arith)) (
    rw (bit_at_set_same w64 (get_or bits (n / 64) 0) (n % 64) (omega arith)) refl
    )

set_other : (bits : List ℕ) (n k : ℕ) → (k ≡ n → ⊥) → n < 65536 → length bits ≡ 1024
    → is_marked (set bits (n / 64) (with_bit (get_or bits (n / 64) 0) (n % 64))) k ≡ is_marked bits k
set_other bits n k ne lt len = elim (cases_eq (k / 64) (n / 64)) as
    (λ _. is_marked (set bits (n / 64) (with_bit (get_or bits (n / 64) 0) (n % 64))) k ≡ is_marked bits k) [
      | inl e ↦
          rw (e, get_or-set_same bits (n / 64) (with_bit (get_or bits (n / 64) 0) (n % 64)) 0 (omega arith)) (
          rw (bit_at_set_other w64 (get_or bits (n / 64) 0) (n % 64) (omega arith) (k % 64)
          (same_word k n e ne))
          refl
          )
      | inr other ↦
          rw (get_or-set_other bits (n / 64) (k / 64) (with_bit (get_or bits (n / 64) 0) (n % 64)) 0 other)
          refl
    ]

pub set_bit : (bits : List ℕ) (n k : ℕ) → n < 65536 → length bits ≡ 1024
    → is_marked (set bits (n / 64) (with_bit (get_or bits (n / 64) 0) (n % 64))) k
    ≡ ((k == n) || is_marked bits k)
set_bit bits n k lt len = elim (cases_eq k n) as
    (λ _. is_marked (set bits (n / 64) (with_bit (get_or bits (n / 64) 0) (n % 64))) k
    ≡ ((k == n) || is_marked bits k)) [
      | inl e ↦ rw (eq-eqb k n e) (rw e (set_same bits n lt len))
      | inr ne ↦ rw (ne_eqb k n ne) (set_other bits n k ne lt len)
    ]

pub none_set : (k : ℕ) → k < 65536 → is_marked (replicate 1024 0) k ≡ false
none_set k lt = rw (get_or-replicate {A = ℕ} 1024 (k / 64) 0 0 (omega arith)) (rw (bit_at-zero (k % 64)) refl)
