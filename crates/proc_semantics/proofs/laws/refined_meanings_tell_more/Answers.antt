use Rattle.proc_semantics.proofs.Picks.{told_apart}
use Rattle.proc_semantics.proofs.laws.refined_meanings_tell_more.Goals as goal

pub returns : goal.returns
returns c = told_apart
