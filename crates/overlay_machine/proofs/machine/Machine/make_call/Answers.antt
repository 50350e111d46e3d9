use Rattle.overlay_machine.proofs.JumpLemmas.{made-call}
use Rattle.overlay_machine.proofs.machine.Machine.make_call.Goals as goal

pub returns : goal.returns
returns c =
    made-call c.args.self.now c.args.site c.args.code c.args.c c.args.at c.args.effect _ _ _ _
    c.requires.effect c.open_frame.ensures.maps c.call_regs.ensures c.perform.ensures
    c.open_frame.ensures.frames
