-- All places so far are alike.
use Rattle.std.proofs.Common.{◌≡◌, ◌≤◌, ℕ}
use Rattle.authority_report.specs.Has.{has}
use Rattle.authority_report.proofs.set.PlaceSet.same_end.Given as goal

abbrev pub invariant-loop-at : goal.invariant-loop-at
invariant-loop-at l = (a : ℕ) → l.from ≤ a → a ≤ l.at → l.is ≡ has l.self a
