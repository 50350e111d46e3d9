use Rattle.overlay_machine.proofs.starts.StartInstance.{start_there}
use Rattle.overlay_machine.proofs.laws.a_linked_start_may_come.Goals as goal

pub returns : goal.returns
returns c = start_there
