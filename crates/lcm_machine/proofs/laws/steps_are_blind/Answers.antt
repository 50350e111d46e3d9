use Rattle.lcm_machine.proofs.Blind.{steps_are_blind, runs_are_blind}
use Rattle.lcm_machine.proofs.laws.steps_are_blind.Goals as goal

pub returns-clause-step : goal.returns-clause-step
returns-clause-step g c = steps_are_blind g.W.MachineWord.look g.W.MachineWord.plain

pub returns-clause-runs : goal.returns-clause-runs
returns-clause-runs g c = runs_are_blind g.W.MachineWord.look g.W.MachineWord.plain
