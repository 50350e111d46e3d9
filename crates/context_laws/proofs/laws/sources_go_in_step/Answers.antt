use Rattle.context_laws.proofs.Sources.{sources_in_step as answer}
use Rattle.context_laws.proofs.laws.sources_go_in_step.Goals as goal

pub returns : goal.returns
returns c = answer c.starts_begin.ensures c.linked_starts_agree.ensures c.sources_leave_nothing.ensures
