-- The cells so far were looked at.
use Rattle.std.proofs.Common.{◌≤◌, ◌&&◌}
use Rattle.std.specs.Prelude.{nat_le}
use Rattle.authority_report.specs.Found.{IsClosedBut, unread}
use Rattle.authority_report.proofs.found.Found.look.Given as goal

abbrev pub invariant-loop-at : goal.invariant-loop-at
invariant-loop-at l =
    IsClosedBut (λ a. nat_le l.at a && nat_le a l.fn.cells.end) l.state.maps l.owner l.self
    × (unread l.self ≤ unread l.initial.self)
