use Rattle.lcm_machine.proofs.CountLemmas.{covered_counts}
use Rattle.lcm_machine.proofs.laws.covered_once_counts.Goals as goal

pub returns : goal.returns
returns g c = covered_counts g.W.MachineWord.look
