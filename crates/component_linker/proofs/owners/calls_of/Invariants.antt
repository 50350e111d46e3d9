-- What the slots so far name is listed.
use Rattle.std.proofs.Common.{◌≡◌, map, take}
use Rattle.linked_starts.specs.Owners.{call_of}
use Rattle.component_linker.proofs.owners.calls_of.Given as goal

abbrev pub invariant-loop-import : goal.invariant-loop-import
invariant-loop-import l =
    l.calls.items ≡ map (call_of l.part.component) (take l.import-index l.part.component.imports)
