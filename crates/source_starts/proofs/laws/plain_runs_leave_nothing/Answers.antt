use Rattle.source_starts.proofs.PlainSecrets.{start_shows}
use Rattle.source_starts.proofs.laws.plain_runs_leave_nothing.Goals as goal

pub returns : goal.returns
returns c =
    start_shows c.starts_begin.ensures c.linked_starts_agree.ensures c.the_headline.ensures.holds
    c.sources_leave_nothing.ensures
