-- The words so far are laid.
use Rattle.std.specs.Prelude.{slice_get}
use Rattle.linked_starts.specs.Start.{from}
use Rattle.linked_starts.specs.Laying.{Lays}
use Rattle.linked_starts.proofs.Offers.{upto}
use Rattle.component_linker.proofs.laying.lay_words.Given as goal

abbrev pub invariant-loop-index : goal.invariant-loop-index
invariant-loop-index l = Lays (from l.base (upto l.index (slice_get l.words))) l.fn.state l.state
