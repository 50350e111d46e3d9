-- The addresses before are copied.
use Rattle.std.proofs.Common.{◌≡◌}
use Rattle.overlay_machine.specs.Copies.{AreCopiedTo}
use Rattle.overlay_machine.proofs.copies.copy_span.Given as goal

abbrev pub invariant-loop-at : goal.invariant-loop-at
invariant-loop-at l =
    AreCopiedTo l.fn.state.maps l.fn.span.base l.at l.fn.maps.cells l.maps.cells
    × (l.maps.regs ≡ l.fn.maps.regs)
    × (l.maps.spans ≡ l.fn.maps.spans)
