use Rattle.std.proofs.Common.{ℕ, ◌≡◌, ◌<◌, false}
use Rattle.std.specs.Prelude.{not}
use Rattle.component_check.specs.Rules.{slot_is_free}
use Rattle.component_check.proofs.slots.c5.Given as goal

abbrev pub invariant-loop-i : goal.invariant-loop-i
invariant-loop-i l = (k : ℕ) → k < l.i → not (slot_is_free l.c k) ≡ false
