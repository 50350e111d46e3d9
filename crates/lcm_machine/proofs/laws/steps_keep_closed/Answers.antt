use Rattle.lcm_machine.proofs.WordsKept.{steps_keep_closed}
use Rattle.lcm_machine.proofs.laws.steps_keep_closed.Goals as goal

pub returns : goal.returns
returns g c = steps_keep_closed g.W.MachineWord.look g.W.MachineWord.plain
