use Rattle.context_laws.proofs.First.{whole_runs as answer}
use Rattle.context_laws.proofs.laws.whole_runs_go_in_step.Goals as goal

pub returns : goal.returns
returns c = answer c.starts_begin.ensures c.linked_starts_agree.ensures c.sources_leave_nothing.ensures
