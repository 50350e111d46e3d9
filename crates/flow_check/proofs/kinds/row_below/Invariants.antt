use Rattle.std.proofs.Common.{◌≡◌, drop}
use Rattle.call_sequence.specs.Kinds.{row_below}
use Rattle.flow_check.proofs.kinds.row_below.Given as goal

abbrev pub invariant-loop-i : goal.invariant-loop-i
invariant-loop-i l = row_below (drop l.i l.row) (drop l.i l.other) ≡ row_below l.row l.other
