use Rattle.std.proofs.Common.{ap, sym, ◌∙◌}
use Rattle.line_fields.proofs.Cuts.{seen, first_part, last_part}
use Rattle.line_fields.proofs.left.Parts.part.Goals as goal

pub returns-in-Some : goal.returns-in-Some
returns-in-Some c =
    first_part c.self.inside.mark c.in_ok-rest.rest.now c.in-Some.part.now c.in-Some.behind.now
    c.args.self.now
    (ap (seen c.self.inside.mark) (sym c.in_ok-rest.was) ∙ c.self.view_is) c.in-Some.ensures.exact

pub returns-in-None : goal.returns-in-None
returns-in-None c =
    last_part c.self.inside.mark c.in_ok-rest.rest.now c.args.self.now
    (ap (seen c.self.inside.mark) (sym c.in_ok-rest.was) ∙ c.self.view_is) c.in-None.ensures.exact
