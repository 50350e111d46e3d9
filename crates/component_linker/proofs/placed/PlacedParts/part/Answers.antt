use Rattle.std.proofs.Common.{◌<◌, List, length, sym, ap, subst, ◌∙◌}
use Rattle.std.specs.Prelude.{slice_get}
use Rattle.linked_starts.specs.Parts.{PartSeen}
use Rattle.linked_starts.specs.Standing.{placed_from, free_of}
use Rattle.linked_starts.proofs.Offers.{as_many}
use Rattle.component_linker.proofs.placed.PlacedParts.part.Goals as goal

pub part_from-requires-clause-within : goal.part_from-requires-clause-within
part_from-requires-clause-within c =
    subst (λ n. c.args.index < n)
    (ap (λ (ps : List PartSeen). length ps) (sym c.self.view_is)
    ∙ as_many (free_of c.self.inside.parts.now c.self.inside.stack) c.self.inside.parts.now) c.requires

pub part_from-requires-clause-parts : goal.part_from-requires-clause-parts
part_from-requires-clause-parts c = λ k q e.
    c.self.invariant.3 k q
    (ap (λ f. slice_get (placed_from f c.self.inside.parts.now) k) (sym c.self.invariant.1) ∙ e)
