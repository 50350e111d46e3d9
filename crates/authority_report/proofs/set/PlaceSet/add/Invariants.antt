-- The places so far were added.
use Rattle.std.proofs.Common.{◌≡◌, ◌≤◌, ◌+◌, ◌-◌, ◌&&◌, ◌||◌, ℕ}
use Rattle.std.specs.Prelude.{nat_le, nat_lt}
use Rattle.authority_report.specs.Has.{has}
use Rattle.authority_report.proofs.set.PlaceSet.add.Given as goal

abbrev pub invariant-loop-from : goal.invariant-loop-from
invariant-loop-from l = (l.base ≤ l.from) × (l.from ≤ l.base + l.end + 1)
    × ((a : ℕ)
    → has l.self a ≡ ((nat_le l.base a && (nat_lt a l.from && nat_le a l.end)) || has l.initial.self a))

abbrev pub decreases-loop-from : goal.decreases-loop-from
decreases-loop-from l = l.end + 1 - l.from
