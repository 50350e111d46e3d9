-- The spans of the parts so far.
use Rattle.std.proofs.Common.{◌≡◌, map, take}
use Rattle.std.specs.List.{flat_map}
use Rattle.linked_starts.specs.Regions.{part_regions, region_span}
use Rattle.component_linker.proofs.memory.spans_of.Given as goal

abbrev pub invariant-loop-index : goal.invariant-loop-index
invariant-loop-index l = l.spans.items ≡ map region_span (flat_map part_regions (take l.index l.parts))
