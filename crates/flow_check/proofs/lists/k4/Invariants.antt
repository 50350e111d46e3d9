use Rattle.std.proofs.Common.{ℕ, ◌≡◌, ◌<◌, false}
use Rattle.call_sequence.specs.Lists.{is_misplaced, row_offset}
use Rattle.flow_check.proofs.lists.k4.Given as goal

abbrev pub invariant-loop-i : goal.invariant-loop-i
invariant-loop-i l = (j : ℕ) → j < l.i → is_misplaced l.c (row_offset l.c j) ≡ false
