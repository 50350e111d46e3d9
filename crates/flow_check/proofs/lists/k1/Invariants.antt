use Rattle.std.proofs.Common.{ℕ, ◌≡◌, ◌<◌, false}
use Rattle.call_sequence.specs.Lists.{site_is_bad}
use Rattle.flow_check.proofs.lists.k1.Given as goal

abbrev pub invariant-loop-i : goal.invariant-loop-i
invariant-loop-i l = (j : ℕ) → j < l.i → site_is_bad l.c j ≡ false
