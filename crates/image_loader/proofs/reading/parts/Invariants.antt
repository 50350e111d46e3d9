use Rattle.std.proofs.Common.{◌≡◌, ◌-◌}
use Rattle.readers.proofs.Offers.{with_front}
use Rattle.image_loader.specs.Reading.{next_parts}
use Rattle.image_loader.proofs.reading.parts.Given as goal

abbrev pub invariant-loop-index : goal.invariant-loop-index
invariant-loop-index l =
    with_front l.parts.items (next_parts l.index (l.count - l.index) l.bytes)
    ≡ next_parts 0 l.fn.count l.fn.bytes
