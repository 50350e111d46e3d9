use Rattle.std.proofs.Common.{ℕ, ◌≡◌, ◌<◌, false}
use Rattle.component_check.specs.Rules.{slot_is_bad}
use Rattle.component_check.proofs.slots.c4.Given as goal

abbrev pub invariant-loop-i : goal.invariant-loop-i
invariant-loop-i l = (k : ℕ) → k < l.i → slot_is_bad l.c k ≡ false
