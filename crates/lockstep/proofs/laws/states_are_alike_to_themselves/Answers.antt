use Rattle.lockstep.proofs.Itself.{to_itself as answer}
use Rattle.lockstep.proofs.laws.states_are_alike_to_themselves.Goals as goal

pub returns : goal.returns
returns c = answer
