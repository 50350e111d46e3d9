use Rattle.source_starts.proofs.Whole.{start_wiped}
use Rattle.source_starts.proofs.laws.wiped_cells_are_told.Goals as goal

pub returns : goal.returns
returns c = start_wiped c.starts_begin.ensures c.pairs_are_the_overlays.ensures.words
