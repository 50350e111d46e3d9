use Rattle.std.proofs.Common.{ℕ, ◌≡◌, ◌<◌, false}
use Rattle.std.specs.Prelude.{is_some}
use Rattle.call_sequence.specs.Standing.{site_difference}
use Rattle.flow_check.proofs.lists.k2.Given as goal

abbrev pub invariant-loop-i : goal.invariant-loop-i
invariant-loop-i l = (j : ℕ) → j < l.i → is_some (site_difference l.c j) ≡ false
