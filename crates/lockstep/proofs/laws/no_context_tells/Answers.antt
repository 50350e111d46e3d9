use Rattle.lockstep.proofs.Contexts.{no_context_tells as answer}
use Rattle.lockstep.proofs.laws.no_context_tells.Goals as goal

pub returns : goal.returns
returns g c = answer
