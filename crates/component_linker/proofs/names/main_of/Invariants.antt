-- No part before has it.
use Rattle.std.proofs.Common.{◌≡◌, drop}
use Rattle.linked_starts.specs.Start.{main_of}
use Rattle.component_linker.proofs.names.main_of.Given as goal

abbrev pub invariant-loop-index : goal.invariant-loop-index
invariant-loop-index l = main_of (drop l.index l.parts) ≡ main_of l.parts
