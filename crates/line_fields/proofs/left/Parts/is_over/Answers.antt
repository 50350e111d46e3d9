use Rattle.std.proofs.Common.{ap, ◌∙◌}
use Rattle.line_fields.specs.Fields.{is_none_left}
use Rattle.line_fields.proofs.Cuts.{none_left}
use Rattle.line_fields.proofs.left.Parts.is_over.Goals as goal

pub returns : goal.returns
returns c =
    none_left c.self.inside.mark c.self.inside.rest c.is_none.result c.is_none.ensures
    ∙ ap is_none_left c.self.view_is
