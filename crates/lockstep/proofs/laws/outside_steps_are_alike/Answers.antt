use Rattle.lockstep.proofs.Step.{outside_steps_alike as answer}
use Rattle.lockstep.proofs.laws.outside_steps_are_alike.Goals as goal

pub returns : goal.returns
returns c = answer
