-- The places so far were taken.
use Rattle.std.proofs.Common.{◌≤◌, ◌+◌, ◌-◌}
use Rattle.authority_report.specs.Takes.{Takes}
use Rattle.authority_report.proofs.TakesLemmas.{below_in}
use Rattle.authority_report.proofs.set.PlaceSet.take_all.Given as goal

abbrev pub invariant-loop-from : goal.invariant-loop-from
invariant-loop-from l = (l.base ≤ l.from) × Takes (below_in l.base l.end l.from) l.initial.self
    l.initial.left.items l.self l.left.items

abbrev pub decreases-loop-from : goal.decreases-loop-from
decreases-loop-from l = l.end + 1 - l.from
