use Rattle.source_instance.proofs.Shows.{source_shows}
use Rattle.source_instance.proofs.laws.a_source_shows_no_more.Goals as goal

pub returns : goal.returns
returns c = source_shows c.each_lets_go.ensures c.sources_leave_nothing.ensures c.plain_runs_wipe.ensures
