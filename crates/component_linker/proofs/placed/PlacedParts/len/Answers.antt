use Rattle.std.proofs.Common.{List, length, sym, ap, ◌∙◌}
use Rattle.linked_starts.specs.Parts.{PartSeen}
use Rattle.linked_starts.specs.Standing.{free_of}
use Rattle.linked_starts.proofs.Offers.{as_many}
use Rattle.component_linker.proofs.placed.PlacedParts.len.Goals as goal

pub returns-clause-is : goal.returns-clause-is
returns-clause-is c =
    sym (as_many (free_of c.self.inside.parts.now c.self.inside.stack) c.self.inside.parts.now)
    ∙ ap (λ (ps : List PartSeen). length ps) c.self.view_is
