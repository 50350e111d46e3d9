use Rattle.std.proofs.Common.{◌≡◌, ◌*◌, ◌≤◌, length, [], drop}
use Rattle.run_picture.specs.Heights.{cuts_from}
use Rattle.run_picture.proofs.heights.cuts_of.Given as goal

abbrev pub invariant-loop-event : goal.invariant-loop-event
invariant-loop-event l = record {
  so_far : cuts_from l.cuts.items (drop l.event-index l.events) ≡ cuts_from [] l.events;
  few : length l.cuts.items ≤ 2 * l.event-index;
}
