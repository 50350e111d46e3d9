use Rattle.source_starts.proofs.Whole.{start_means}
use Rattle.source_starts.proofs.laws.sources_mean.Goals as goal

pub returns : goal.returns
returns c = start_means c.starts_begin.ensures c.pairs_are_the_overlays.ensures.words
