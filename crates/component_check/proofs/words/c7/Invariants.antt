use Rattle.std.proofs.Common.{ℕ, ◌≡◌, ◌<◌, false}
use Rattle.std.specs.Prelude.{slice_get}
use Rattle.component_check.specs.Rules.{words, holds_of, is_foreign}
use Rattle.component_check.proofs.words.c7.Given as goal

abbrev pub invariant-loop-i : goal.invariant-loop-i
invariant-loop-i l = (k : ℕ) → k < l.i → holds_of (is_foreign l.c) (slice_get (words l.c) k) ≡ false
