use Rattle.linked_starts.specs.Accepted.{accepted}
use Rattle.link_tool.specs.Parts.{broken_in}
use Rattle.file_plans.proofs.Offers.{unless_made, unless_ended}
use Rattle.link_tool.proofs.parts.accept_at.Goals as goal

pub returns-in-Ok : goal.returns-in-Ok
returns-in-Ok c =
    unless_made (broken_in c.args.index) (accepted
    (record { component = c.args.component; trusted = c.args.trusted })) c.in-Ok.part
    c.in-Ok.ensures.is

pub returns-in-Err : goal.returns-in-Err
returns-in-Err c =
    unless_ended (broken_in c.args.index) (accepted
    (record { component = c.args.component; trusted = c.args.trusted })) c.in-Err.broken
    c.in-Err.ensures.is
