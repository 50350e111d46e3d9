use Rattle.std.proofs.Common.{List, ap, ◌∙◌}
use Rattle.std.specs.Prelude.{slice_get}
use Rattle.linked_starts.specs.Parts.{PartSeen}
use Rattle.component_linker.proofs.placed.PlacedParts.are_kept.Goals as goal

pub returns : goal.returns
returns c = λ k p e. c.self.invariant.3 k p (ap (λ (ps : List PartSeen). slice_get ps k) c.self.view_is ∙ e)
