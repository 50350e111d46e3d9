use Rattle.std.proofs.Common.{ℕ, ◌≡◌, ◌<◌, length, false}
use Rattle.std.specs.Prelude.{nat_le}
use Rattle.component_check.specs.Rules.{export_offset}
use Rattle.component_check.proofs.slots.c6.Given as goal

abbrev pub invariant-loop-i : goal.invariant-loop-i
invariant-loop-i l = (k : ℕ) → k < l.i → nat_le (length l.c.code) (export_offset l.c k) ≡ false
