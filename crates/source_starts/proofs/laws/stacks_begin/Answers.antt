use Rattle.source_starts.proofs.RunMeaning.{stacks_begin}
use Rattle.source_starts.proofs.laws.stacks_begin.Goals as goal

pub returns : goal.returns
returns c = stacks_begin c.starts_begin.ensures
