use Rattle.linked_starts.proofs.DataStands.{data_stands}
use Rattle.linked_starts.proofs.laws.data_words_stand.Goals as goal

pub returns : goal.returns
returns c = data_stands
