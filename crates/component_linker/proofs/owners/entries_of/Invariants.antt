-- The entries of the exports so far are listed.
use Rattle.std.proofs.Common.{◌≡◌, map, take}
use Rattle.linked_starts.specs.Owners.{placed_entry}
use Rattle.component_linker.proofs.owners.entries_of.Given as goal

abbrev pub invariant-loop-export : goal.invariant-loop-export
invariant-loop-export l =
    l.entries.items ≡ map (placed_entry l.part.component) (take l.export-index l.part.component.exports)
