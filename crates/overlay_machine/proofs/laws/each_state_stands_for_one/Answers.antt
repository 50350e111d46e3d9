use Rattle.overlay_machine.proofs.Flattened.{stands_for_one}
use Rattle.overlay_machine.proofs.laws.each_state_stands_for_one.Goals as goal

pub returns : goal.returns
returns c = stands_for_one
