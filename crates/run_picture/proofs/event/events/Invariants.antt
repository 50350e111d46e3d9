use Rattle.std.proofs.Common.{◌≡◌, ◌++◌, length}
use Rattle.run_picture.specs.Events.{events_in, events}
use Rattle.run_picture.proofs.event.events.Given as goal

abbrev pub invariant-loop-line : goal.invariant-loop-line
invariant-loop-line l = l.events.items ++ events_in l.lines ≡ events l.text

abbrev pub decreases-loop-line : goal.decreases-loop-line
decreases-loop-line l = length l.lines
