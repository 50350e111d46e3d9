use Rattle.std.proofs.Common.{◌≡◌, ◌≤◌, sym, ◌∙◌, rules, true, false, length}
use Rattle.std.specs.Prelude.{◌==◌}
use Rattle.overlay_machine.proofs.HeadLemmas.{head_step, head_here, head_end, heads_are}
use Rattle.overlay_machine.proofs.flat.frame_of.Goals as goal

pub returns-then-frame-call : goal.returns-then-frame-call
returns-then-frame-call c =
    let t : (c.head-frame.result.now.call == c.args.call) ≡ true = search rules in
    sym (heads_are c.args.call c.args.frames.now.frames ∙ sym c.loop-i.invariant
    ∙ head_here (λ h. h.call == c.args.call)
    c.args.frames.now.frames c.loop-i.i c.head-frame.result.now c.head-frame.ensures t)

pub loop-i-preserved : goal.loop-i-preserved
loop-i-preserved c =
    let t : (c.head-frame.result.now.call == c.args.call) ≡ false = search rules in
    sym (head_step (λ h. h.call == c.args.call)
    c.args.frames.now.frames c.loop-i.i c.head-frame.result.now c.head-frame.ensures t)
    ∙ c.loop-i.invariant

pub returns : goal.returns
returns c =
    let e : length c.args.frames.now.frames ≤ c.loop-i.i = search rules in
    sym (heads_are c.args.call c.args.frames.now.frames ∙ sym c.loop-i.invariant
    ∙ head_end (λ h. h.call == c.args.call) c.args.frames.now.frames c.loop-i.i e)
