use Rattle.std.proofs.Common.{subst}
use Rattle.linked_starts.specs.Accepted.{accepted}
use Rattle.file_plans.specs.Plans.{unless, Meets}
use Rattle.command_words.specs.Part.{is_trusted_mark}
use Rattle.link_tool.specs.Parts.{broken_in, component_at, part_at}
use Rattle.file_plans.proofs.Offers.{follows_meets}
use Rattle.link_tool.proofs.parts.part.Goals as goal

pub returns : goal.returns
unfolding part_at
returns g c =
    follows_meets (component_at c.args.index c.args.word.now)
    (λ x. unless (broken_in c.args.index)
    (accepted (record { component = x; trusted = is_trusted_mark c.args.word.now.mark }))) _ _
    c.in_ok-component.component c.accept_at.result c.in_ok-component.ensures
    (subst (λ b. Meets (unless (broken_in c.args.index)
    (accepted (record { component = c.in_ok-component.component; trusted = b }))) c.accept_at.result)
    c.is_trusted.ensures c.accept_at.ensures)
