-- All places so far are free.
use Rattle.std.proofs.Common.{◌≡◌, ◌≤◌, ℕ, false}
use Rattle.authority_report.specs.Has.{has}
use Rattle.authority_report.proofs.set.PlaceSet.free_end.Given as goal

abbrev pub invariant-loop-at : goal.invariant-loop-at
invariant-loop-at l = (a : ℕ) → l.from ≤ a → a ≤ l.at → has l.self a ≡ false
