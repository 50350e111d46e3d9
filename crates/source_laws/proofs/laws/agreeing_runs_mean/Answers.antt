use Rattle.source_laws.proofs.Sum.{agreeing_runs}
use Rattle.source_laws.proofs.laws.agreeing_runs_mean.Goals as goal

pub returns : goal.returns
returns c = agreeing_runs
