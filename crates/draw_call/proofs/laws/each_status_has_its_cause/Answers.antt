use Rattle.draw_call.proofs.Due.{caused}
use Rattle.draw_call.proofs.laws.each_status_has_its_cause.Goals as goal

pub returns : goal.returns
returns c = caused c.traces_are_found.ensures.traces c.traces_are_found.ensures.faults
