use Rattle.overlay_machine.proofs.frames.take_cells.Given as goal
use Rattle.overlay_machine.proofs.TakeLemmas.{Taking}

abbrev pub invariant-loop-left : goal.invariant-loop-left
invariant-loop-left l = Taking l.fn.maps l.fn.frames l.fn.from l.fn.n l.maps l.frames l.at l.left

abbrev pub decreases-loop-left : goal.decreases-loop-left
decreases-loop-left l = l.left
