use Rattle.std.proofs.Common.{ℕ, ◌≡◌, ◌<◌, false}
use Rattle.std.specs.Prelude.{slice_get}
use Rattle.component_check.specs.Rules.{holds_of, is_no_int}
use Rattle.component_check.proofs.trusted.c11.Given as goal

abbrev pub invariant-loop-i : goal.invariant-loop-i
invariant-loop-i l = (k : ℕ) → k < l.i → holds_of is_no_int (slice_get l.c.data_words k) ≡ false
