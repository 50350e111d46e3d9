use Rattle.linked_starts.proofs.StartFits.{starts_fit}
use Rattle.linked_starts.proofs.laws.start_words_fit.Goals as goal

pub returns : goal.returns
returns c = starts_fit
