use Rattle.source_laws.proofs.Alike.{calls_alike}
use Rattle.source_laws.proofs.laws.calls_are_seen_alike.Goals as goal

pub returns : goal.returns
returns c = calls_alike
