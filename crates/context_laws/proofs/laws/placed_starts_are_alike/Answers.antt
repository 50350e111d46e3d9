use Rattle.context_laws.proofs.Starts.{placed_alike as answer}
use Rattle.context_laws.proofs.laws.placed_starts_are_alike.Goals as goal

pub returns : goal.returns
returns c = answer c.starts_begin.ensures
