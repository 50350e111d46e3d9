-- The owners of the parts so far are listed.
use Rattle.linked_starts.specs.Listing.{OwnersUpto}
use Rattle.component_linker.proofs.owners.owners.Given as goal

abbrev pub invariant-loop-number : goal.invariant-loop-number
invariant-loop-number l = OwnersUpto l.parts l.number l.owners.items
