-- The spans before are copied.
use Rattle.std.proofs.Common.{◌≡◌}
use Rattle.overlay_machine.proofs.copies.copy_cells.Given as goal
use Rattle.overlay_machine.proofs.CopyLemmas.{AreCopied}

abbrev pub invariant-loop-span : goal.invariant-loop-span
invariant-loop-span l =
    AreCopied l.fn.state.maps l.span-index l.maps.cells
    × (l.maps.regs ≡ l.fn.maps.regs)
    × (l.maps.spans ≡ l.fn.maps.spans)
