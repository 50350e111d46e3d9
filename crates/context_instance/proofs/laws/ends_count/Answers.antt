use Rattle.context_instance.proofs.Halts.{ends_count as answer}
use Rattle.context_instance.proofs.laws.ends_count.Goals as goal

pub returns : goal.returns
returns c = answer
