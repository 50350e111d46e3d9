-- The stretches of the places so far are found.
use Rattle.std.proofs.Common.{◌+◌, ◌-◌}
use Rattle.cap_words.specs.declared.TheConstants.{LAST_PLACE}
use Rattle.authority_report.specs.Stretches.{Found}
use Rattle.authority_report.proofs.set.PlaceSet.stretches.Given as goal

abbrev pub invariant-loop-at : goal.invariant-loop-at
invariant-loop-at l = Found l.self l.at l.list.items

abbrev pub decreases-loop-at : goal.decreases-loop-at
decreases-loop-at l = LAST_PLACE + 1 - l.at
