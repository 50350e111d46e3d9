use Rattle.overlay_machine.proofs.invariant.FramePrivate.{all_private}
use Rattle.overlay_machine.proofs.laws.frames_are_private.Goals as goal

pub returns : goal.returns
returns c = all_private
