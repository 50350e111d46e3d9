use Rattle.std.proofs.Common.{refl, ◌∙◌}
use Rattle.component_file.proofs.Offers.{read_whole}
use Rattle.ready_tasks.specs.Commands.{OfComponent}
use Rattle.ready_tasks.proofs.ready.ready_deed.Goals as goal

pub returns-in_ok-bytes-in-Put-clause-does : goal.returns-in_ok-bytes-in-Put-clause-does
returns-in_ok-bytes-in-Put-clause-does c =
    rw c.in-Put.is (
      OfComponent c.args.component.now,
      refl,
      read_whole c.args.component.now c.in_ok-bytes-in-Put.ensures.spelled.0,
      c.of.ensures ∙ c.in_ok-bytes-in-Put.ensures.spelled.1,
    )
