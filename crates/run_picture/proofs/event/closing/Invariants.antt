use Rattle.std.proofs.Common.{◌≡◌, ◌+◌, ◌≤◌, drop}
use Rattle.run_picture.specs.Events.{closing_from}
use Rattle.run_picture.proofs.event.closing.Given as goal

abbrev pub invariant-loop-event : goal.invariant-loop-event
invariant-loop-event l = record {
  so_far : closing_from l.k l.within (drop l.event-index l.events) ≡ closing_from 1 0 l.events;
  count : l.k ≡ l.event-index + 1;
  inner : l.within ≤ l.event-index;
}
