use Rattle.std.proofs.Common.{◌≡◌, ◌-◌, None}
use Rattle.readers.proofs.Offers.{with_front}
use Rattle.component_file.specs.Reading.{next_items}
use Rattle.component_file.proofs.Lists.{newest}
use Rattle.component_file.proofs.listed.items.Given as goal

abbrev pub invariant-loop : goal.invariant-loop
invariant-loop g l =
    with_front l.items.items
    (next_items g.T.Listed.next_item (l.count - l.counter) (newest l.items.items) l.bytes)
    ≡ next_items g.T.Listed.next_item l.fn.count None l.fn.bytes
