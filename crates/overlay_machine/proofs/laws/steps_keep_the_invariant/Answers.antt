use Rattle.overlay_machine.proofs.invariant.Kept.{kept}
use Rattle.overlay_machine.proofs.laws.steps_keep_the_invariant.Goals as goal

pub returns : goal.returns
returns c = λ g o t linked inv. kept g linked o t inv
