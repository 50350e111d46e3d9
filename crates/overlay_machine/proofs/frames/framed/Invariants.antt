-- None of the frames before has the address.
use Rattle.std.proofs.Common.{◌≡◌, drop}
use Rattle.overlay_machine.specs.State.{framed}
use Rattle.overlay_machine.specs.Machine.{frames_of}
use Rattle.overlay_machine.proofs.frames.framed.Given as goal

abbrev pub invariant-loop-i : goal.invariant-loop-i
invariant-loop-i l =
    framed (frames_of (drop l.i l.fn.frames.frames)) l.fn.at ≡ framed (frames_of l.fn.frames.frames) l.fn.at
