use Rattle.source_starts.proofs.Whole.{start_words}
use Rattle.source_starts.proofs.laws.sources_tell_words.Goals as goal

pub returns : goal.returns
returns c = start_words c.starts_begin.ensures c.pairs_are_the_overlays.ensures.words
