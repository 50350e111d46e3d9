use Rattle.answer_laws.proofs.SafeSinks.{safe_sinks_hold}
use Rattle.answer_laws.proofs.laws.safe_sinks_hold_runs.Goals as goal

pub returns : goal.returns
returns c = safe_sinks_hold
