use Rattle.context_laws.proofs.Sources.{starts_alike as answer}
use Rattle.context_laws.proofs.laws.starts_are_alike.Goals as goal

pub returns : goal.returns
returns c = answer
