use Rattle.context_laws.proofs.First.{first_alike as answer}
use Rattle.context_laws.proofs.laws.first_arrivals_are_alike.Goals as goal

pub returns : goal.returns
returns c = answer c.starts_begin.ensures c.linked_starts_agree.ensures c.sources_leave_nothing.ensures
