-- The owners before are copied.
use Rattle.std.proofs.Common.{◌≡◌, take}
use Rattle.overlay_machine.proofs.copies.copy_owners.Given as goal

abbrev pub invariant-loop-owner : goal.invariant-loop-owner
invariant-loop-owner l = l.copies.items ≡ take l.owner-index l.owners
