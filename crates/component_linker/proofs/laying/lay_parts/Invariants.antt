-- The words of the parts so far are laid.
use Rattle.linked_starts.specs.Laying.{Lays}
use Rattle.linked_starts.proofs.Offers.{parts_upto}
use Rattle.component_linker.proofs.laying.lay_parts.Given as goal

abbrev pub invariant-loop-index : goal.invariant-loop-index
invariant-loop-index l = Lays (parts_upto l.parts l.index) l.fn.state l.state
