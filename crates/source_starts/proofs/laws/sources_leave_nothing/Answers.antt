use Rattle.source_starts.proofs.Whole.{start_leaves}
use Rattle.source_starts.proofs.laws.sources_leave_nothing.Goals as goal

pub returns : goal.returns
returns c = start_leaves c.starts_begin.ensures c.pairs_are_the_overlays.ensures.words
