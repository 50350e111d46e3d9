use Rattle.source_laws.proofs.Secrets as secrets
use Rattle.source_laws.proofs.laws.each_lets_go.Goals as goal

pub returns : goal.returns
returns c = secrets.each_lets_go
