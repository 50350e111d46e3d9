use Rattle.lcm_machine.proofs.Quiet.{runs_are_quiet}
use Rattle.lcm_machine.proofs.laws.runs_are_quiet.Goals as goal

pub returns : goal.returns
returns g c =
    runs_are_quiet g.W.MachineWord.look g.W.MachineWord.plain g.met.W.MachineWord.looks_plain
