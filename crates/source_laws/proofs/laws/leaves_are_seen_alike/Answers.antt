use Rattle.source_laws.proofs.Alike.{leaves_alike}
use Rattle.source_laws.proofs.laws.leaves_are_seen_alike.Goals as goal

pub returns : goal.returns
returns c = leaves_alike
