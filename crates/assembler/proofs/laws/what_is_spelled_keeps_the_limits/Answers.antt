use Rattle.assembler.proofs.Complete.{spelled_fits}
use Rattle.assembler.proofs.laws.what_is_spelled_keeps_the_limits.Goals as goal

pub returns : goal.returns
returns c = spelled_fits
