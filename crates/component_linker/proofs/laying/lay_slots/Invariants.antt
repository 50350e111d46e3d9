-- The halves of the imports so far are laid.
use Rattle.linked_starts.specs.Start.{from}
use Rattle.linked_starts.specs.Laying.{Lays}
use Rattle.linked_starts.proofs.Offers.{slots_upto}
use Rattle.component_linker.proofs.laying.lay_slots.Given as goal

abbrev pub invariant-loop-import : goal.invariant-loop-import
invariant-loop-import l =
    Lays (from l.part.component.data_base (slots_upto l.parts l.part.component.imports l.import-index))
    l.fn.state l.state
