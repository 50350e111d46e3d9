use Rattle.std.proofs.Common.{◌≡◌, ◌+◌, ◌≤◌, ◌^◌, length}
use Rattle.run_picture.specs.Events.{events_in, events}
use Rattle.run_picture.proofs.event.line_count.Given as goal

abbrev pub invariant-loop-line : goal.invariant-loop-line
invariant-loop-line l = record {
  so_far : l.count + length (events_in l.lines) ≡ length (events l.text);
  few : l.count + length l.lines ≤ 2 ^ 63 + 1;
}

abbrev pub decreases-loop-line : goal.decreases-loop-line
decreases-loop-line l = length l.lines
