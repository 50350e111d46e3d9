use Rattle.std.proofs.Common.{rules, ap, ◌∙◌, ◌+◌, ◌-◌}
use Rattle.std.specs.Prelude.{is_some}
use Rattle.component_check.specs.Places.{plainly}
use Rattle.component_check.specs.Marks.{is_marked}
use Rattle.component_check.proofs.First.{first_of_is}
use Rattle.component_check.proofs.marks.Marks.has_any.Goals as goal

pub returns : goal.returns
returns c =
    let first =
    first_of_is
    (plainly (c.args.to - c.args.from) (λ i. is_marked c.args.self.now.bits (c.args.from + i)))
    c.first_place.ensures.first (search rules) (λ i b lt h. search rules) in
    c.is_some.ensures ∙ ap is_some first
