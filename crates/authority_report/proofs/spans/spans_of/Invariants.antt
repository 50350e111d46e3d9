-- The spans of the places so far, the last of which is not to go on.
use Rattle.std.proofs.Common.{◌+◌, ◌-◌}
use Rattle.cap_words.specs.declared.TheConstants.{LAST_PLACE}
use Rattle.authority_report.specs.Listed.{Listed}
use Rattle.authority_report.proofs.spans.spans_of.Given as goal

abbrev pub invariant-loop-at : goal.invariant-loop-at
invariant-loop-at l = Listed l.read l.write l.run l.at l.spans.items

abbrev pub decreases-loop-at : goal.decreases-loop-at
decreases-loop-at l = LAST_PLACE + 1 - l.at
