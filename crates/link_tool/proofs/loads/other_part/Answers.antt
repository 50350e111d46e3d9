use Rattle.std.proofs.Common.{false, subst}
use Rattle.linked_starts.specs.Accepted.{accepted}
use Rattle.file_plans.specs.Plans.{unless, Meets}
use Rattle.link_tool.specs.Parts.{broken_in}
use Rattle.link_tool.specs.Loads.{load_other}
use Rattle.link_tool.proofs.loads.other_part.Goals as goal

pub returns : goal.returns
unfolding load_other
returns c =
    subst (λ x. Meets (unless (broken_in 1) (accepted (record { component = x; trusted = false })))
    c.accept_at.result) c.in_ok-component.ensures c.accept_at.ensures
