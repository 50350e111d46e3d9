-- The name is none of the parts before.
use Rattle.std.proofs.Common.{◌≡◌, drop}
use Rattle.linked_starts.specs.Start.{part_named}
use Rattle.component_linker.proofs.names.part_named.Given as goal

abbrev pub invariant-loop-index : goal.invariant-loop-index
invariant-loop-index l = part_named (drop l.index l.parts) l.name ≡ part_named l.parts l.name
