use Rattle.lockstep.proofs.Whole.{run_in_step as answer}
use Rattle.lockstep.proofs.laws.runs_go_in_step.Goals as goal

pub returns : goal.returns
returns c = answer
