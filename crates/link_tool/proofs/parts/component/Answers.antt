use Rattle.file_plans.specs.Plans.{file}
use Rattle.link_tool.specs.Parts.{form_by, component_at}
use Rattle.file_plans.proofs.Offers.{follows_meets}
use Rattle.link_tool.proofs.parts.component.Goals as goal

pub returns : goal.returns
unfolding component_at
returns g c =
    follows_meets (file c.args.word.now.name c.args.index)
    (form_by c.args.word.now.ending c.args.index) _ _ c.in_ok-bytes.bytes c.form.result
    c.in_ok-bytes.ensures.came (rw c.as_slice.ensures at c.form.ensures)
