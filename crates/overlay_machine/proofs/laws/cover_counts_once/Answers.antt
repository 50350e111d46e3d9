use Rattle.overlay_machine.proofs.invariant.Covered.{cover_is_once}
use Rattle.overlay_machine.proofs.laws.cover_counts_once.Goals as goal

pub returns : goal.returns
returns c = cover_is_once
