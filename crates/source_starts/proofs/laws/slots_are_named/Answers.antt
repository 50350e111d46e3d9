use Rattle.source_starts.proofs.SlotPairs.{slots_named}
use Rattle.source_starts.proofs.laws.slots_are_named.Goals as goal

pub returns : goal.returns
returns c = slots_named c.starts_begin.ensures
