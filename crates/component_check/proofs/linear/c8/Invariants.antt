use Rattle.std.proofs.Common.{ℕ, ◌≡◌, ◌<◌, false}
use Rattle.component_check.specs.Rules.{meets_before}
use Rattle.component_check.specs.Marks.{Taken}
use Rattle.component_check.proofs.linear.c8.Given as goal

abbrev pub invariant-loop-j : goal.invariant-loop-j
invariant-loop-j l = record {
  marked : Taken l.c l.taken.bits l.j;
  apart : (i : ℕ) → i < l.j → meets_before l.c i ≡ false;
}
