use Rattle.std.proofs.Common.{◌≡◌, ◌+◌, ◌≤◌, ◌^◌, length}
use Rattle.line_fields.specs.Feed.{fed, fed_from}
use Rattle.line_fields.proofs.Feeding.{behind_items}
use Rattle.line_fields.proofs.reading.read_feed.Given as goal

abbrev pub invariant-loop-line : goal.invariant-loop-line
invariant-loop-line l = record {
  number : l.number + length l.lines ≤ 2 ^ 63 + 1;
  so_far : behind_items l.items.items (fed_from l.base l.entry l.number l.lines) ≡ fed l.base l.text;
}

abbrev pub decreases-loop-line : goal.decreases-loop-line
decreases-loop-line l = length l.lines
