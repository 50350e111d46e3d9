use Rattle.std.proofs.Common.{◌≡◌, ◌≤◌, ◌<◌, ◌+◌, ℕ, IsTrue}
use Rattle.lcm_machine.specs.Spans.{in_spans}
use Rattle.lcm_machine.specs.Cells.{all_there}
use Rattle.overlay_machine.proofs.frames.all_there.Given as goal

abbrev pub invariant-loop-left : goal.invariant-loop-left
invariant-loop-left l = (all_there l.maps.cells l.at l.left ≡ all_there l.maps.cells l.fn.from l.fn.n)
    × (l.at + l.left ≡ l.fn.from + l.fn.n)
    × ((q : ℕ) → l.fn.from ≤ q → q < l.at → IsTrue (in_spans q l.maps.spans))

abbrev pub decreases-loop-left : goal.decreases-loop-left
decreases-loop-left l = l.left
