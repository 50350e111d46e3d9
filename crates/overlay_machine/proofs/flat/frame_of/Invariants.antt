-- The call is that of none of the frames before.
use Rattle.std.proofs.Common.{◌≡◌, drop}
use Rattle.std.specs.Prelude.{◌==◌}
use Rattle.overlay_machine.specs.Machine.{head_with}
use Rattle.overlay_machine.proofs.flat.frame_of.Given as goal

abbrev pub invariant-loop-i : goal.invariant-loop-i
invariant-loop-i l =
    head_with (λ h. h.call == l.fn.call) (drop l.i l.fn.frames.frames) ≡ head_with (λ h. h.call == l.fn.call)
    l.fn.frames.frames
