use Rattle.std.proofs.Common.{◌<◌, ◌⊎◌, inl, inr, sym, ◌∙◌, arith}
use Rattle.overlay_machine.proofs.FramedLemmas.{item_there_is, framed_here, framed_step}
use Rattle.overlay_machine.proofs.frames.framed.Goals as goal
use Rattle.overlay_machine.proofs.frames.framed.Goals.{else-frame-at-via-then-frame-at+else-at-frame}
use Rattle.overlay_machine.proofs.frames.framed.Goals.{else-frame-at-via-else-frame-at}

pub item_at-requires : goal.item_at-requires
item_at-requires c =
    item_there_is c.args.frames.now.frames c.loop-i.i c.args.at c.head-frame.result.now c.requires
    c.head-frame.ensures c.if-frame-at.true c.if-at-frame.true

pub returns-then-at-frame : goal.returns-then-at-frame
returns-then-at-frame c =
    sym (framed_here c.args.frames.now.frames c.loop-i.i c.args.at c.head-frame.result.now
    c.item_at.result.now c.head-frame.ensures c.if-frame-at.true c.item_at.ensures) ∙ c.loop-i.invariant

pub loop-i-preserved : goal.loop-i-preserved
loop-i-preserved c =
    let out : (c.args.at < c.head-frame.result.now.base) ⊎ (c.head-frame.result.now.end < c.args.at) =
    elim c.else-frame-at.branch [
      | else-frame-at-via-then-frame-at+else-at-frame w ↦ inr (omega (arith, w.if-at-frame.false))
      | else-frame-at-via-else-frame-at w ↦ inl (omega (arith, w.if-frame-at.false))
    ] in
    sym (framed_step c.args.frames.now.frames c.loop-i.i c.args.at c.head-frame.result.now c.requires
    c.head-frame.ensures out) ∙ c.loop-i.invariant
