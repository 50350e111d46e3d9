use Rattle.overlay_machine.proofs.frames.give_cells.Given as goal
use Rattle.overlay_machine.proofs.GiveLemmas.{Giving}

abbrev pub invariant-loop-left : goal.invariant-loop-left
invariant-loop-left l = Giving l.fn.maps l.fn.frames l.fn.base l.fn.n l.maps l.frames l.left

abbrev pub decreases-loop-left : goal.decreases-loop-left
decreases-loop-left l = l.left
