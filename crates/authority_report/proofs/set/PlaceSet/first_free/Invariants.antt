-- No place so far is free, and the set has the same places.
use Rattle.std.proofs.Common.{◌≡◌, ◌<◌, ◌≤◌, ◌+◌, ◌-◌, ℕ, true}
use Rattle.authority_report.specs.Has.{has}
use Rattle.authority_report.proofs.set.PlaceSet.first_free.Given as goal

abbrev pub invariant-loop-at : goal.invariant-loop-at
invariant-loop-at l = record {
  from : l.from ≤ l.at;
  same : (a : ℕ) → has l.self a ≡ has l.initial.self a;
  before : (a : ℕ) → l.from ≤ a → a < l.at → has l.initial.self a ≡ true;
}

abbrev pub decreases-loop-at : goal.decreases-loop-at
decreases-loop-at l = l.end + 1 - l.at
