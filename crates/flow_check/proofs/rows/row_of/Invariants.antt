use Rattle.std.proofs.Common.{◌-◌, ◌≤◌}
use Rattle.call_sequence.specs.declared.flow.Walk.TheVariants.{Before}
use Rattle.call_sequence.specs.Walk.{Arrives}
use Rattle.flow_check.proofs.rows.row_of.Given as goal

abbrev pub invariant-loop-at : goal.invariant-loop-at
invariant-loop-at l = record {
  comes : Arrives l.c (Before l.at l.current);
  short : l.at ≤ l.offset;
}

abbrev pub decreases-loop-at : goal.decreases-loop-at
decreases-loop-at l = l.offset - l.at
