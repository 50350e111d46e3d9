use Rattle.context_laws.proofs.Sources.{sources_against_contexts as answer}
use Rattle.context_laws.proofs.laws.no_context_tells_sources.Goals as goal

pub returns : goal.returns
returns g c = answer c.starts_begin.ensures c.linked_starts_agree.ensures c.sources_leave_nothing.ensures
