use Rattle.std.proofs.Common.{rules, ◌≡◌, ◌<◌, ◌+◌, ◌∙◌, ap, arith, subst}
use Rattle.overlay_machine.proofs.Offers.{weight_some}
use Rattle.outside_io.specs.Writes.{AddsPieces, FailsAtPiece}
use Rattle.overlay_machine.specs.declared.overlay.OStep.TheVariants.{Went}
use Rattle.overlay_machine.specs.Seen.{OverlaySeen, answer_of}
use Rattle.run_lines.specs.Views.{overlay_view}
use Rattle.run_lines.specs.Lines.{lines_for}
use Rattle.run_lines.specs.Texts.{lines_pieces}
use Rattle.run_lines.specs.EndLines.{running_text, halted_text, failed_text}
use Rattle.run_lines.specs.Traces.{weight_with}
use Rattle.trace_tool.proofs.Tracing.{went_weight, fits_with, going_none, going_more, going_fails}
use Rattle.trace_tool.proofs.Tracing.{ends_running, ends_halted, ends_failed, start_layout}
use Rattle.trace_tool.proofs.trace.run_overlay.Goals as goal

pub loop-overlay-init : goal.loop-overlay-init
loop-overlay-init g c =
    going_none c.args.steps c.args.overlay.now (g.S.Sink.seen c.args.out.now) c.requires.of.weight

pub step-requires : goal.step-requires
step-requires g c =
    let some = weight_some c.loop-overlay.overlay.layout c.loop-overlay.overlay.state in
    omega (
      arith,
      some,
      c.if-sum-weight.false,
      c.weight-sum.ensures,
      c.next_weight.ensures,
      c.from-weight.ensures,
      c.requires.steps,
    )

pub returns-then-sum-weight-clause-traces : goal.returns-then-sum-weight-clause-traces
returns-then-sum-weight-clause-traces g c =
    let over : c.args.steps < weight_with c.loop-overlay.overlay =
    omega (
      arith,
      c.if-sum-weight.true,
      c.weight-sum.ensures,
      c.next_weight.ensures,
      c.from-weight.ensures,
    ) in
    ends_running c.args.steps c.args.overlay.now (g.S.Sink.seen c.args.out.now)
    c.loop-overlay.overlay _ _ c.as_str.result.now c.finish.result c.loop-overlay.invariant over
    (c.as_str.ensures.value ∙ c.running_line-line.ensures.bytes
    ∙ ap (running_text (overlay_view c.loop-overlay.overlay)) c.weight-sum.ensures) c.finish.ensures

pub loop-overlay-smaller : goal.loop-overlay-smaller
loop-overlay-smaller g c =
    let fits = fits_with c.args.steps c.loop-overlay.overlay c.weight-sum.ensures c.next_weight.ensures
    c.from-weight.ensures c.if-sum-weight.false in
    let some = weight_some c.loop-overlay.overlay.layout c.loop-overlay.overlay.state in
    let went : answer_of c.loop-overlay.overlay ≡ Went c.in-Went.event = search rules in
    let more : c.step.new.self.weight ≡ weight_with c.loop-overlay.overlay =
    ap (λ (x : OverlaySeen). x.weight) c.step.ensures.after
    ∙ went_weight c.loop-overlay.overlay c.in-Went.event went in
    omega (arith, fits, some, more)

pub loop-overlay-preserved : goal.loop-overlay-preserved
loop-overlay-preserved g c =
    let fits = fits_with c.args.steps c.loop-overlay.overlay c.weight-sum.ensures c.next_weight.ensures
    c.from-weight.ensures c.if-sum-weight.false in
    going_more c.args.steps c.args.overlay.now (g.S.Sink.seen c.args.out.now)
    c.loop-overlay.overlay _ c.in-Went.event c.step.new.self _ c.loop-overlay.invariant fits
    (search rules) c.step.ensures.after
    (subst (λ l. AddsPieces (g.S.Sink.seen c.loop-overlay.out)
    (lines_pieces (lines_for l (overlay_view c.step.new.self) c.in-Went.event))
    (g.S.Sink.seen c.tell.new.out))
    (start_layout c.args.steps c.args.overlay.now (g.S.Sink.seen c.args.out.now)
    c.args.start.now c.loop-overlay.overlay _ c.step.new.self c.requires.of c.loop-overlay.invariant
    c.step.ensures.after) c.in-Ok.ensures)

pub returns-in-Err-clause-traces : goal.returns-in-Err-clause-traces
returns-in-Err-clause-traces g c =
    let fits = fits_with c.args.steps c.loop-overlay.overlay c.weight-sum.ensures c.next_weight.ensures
    c.from-weight.ensures c.if-sum-weight.false in
    going_fails c.args.steps c.args.overlay.now (g.S.Sink.seen c.args.out.now)
    c.loop-overlay.overlay _ c.in-Went.event c.step.new.self _ c.loop-overlay.invariant fits
    (search rules) c.step.ensures.after
    (subst (λ l. FailsAtPiece (g.S.Sink.seen c.loop-overlay.out)
    (lines_pieces (lines_for l (overlay_view c.step.new.self) c.in-Went.event))
    (g.S.Sink.seen c.tell.new.out))
    (start_layout c.args.steps c.args.overlay.now (g.S.Sink.seen c.args.out.now)
    c.args.start.now c.loop-overlay.overlay _ c.step.new.self c.requires.of c.loop-overlay.invariant
    c.step.ensures.after) c.in-Err.ensures)

pub returns-in-Halted-clause-traces : goal.returns-in-Halted-clause-traces
returns-in-Halted-clause-traces g c =
    let fits = fits_with c.args.steps c.loop-overlay.overlay c.weight-sum.ensures c.next_weight.ensures
    c.from-weight.ensures c.if-sum-weight.false in
    let sum : c.weight-sum.result + c.from-weight.result ≡ weight_with c.loop-overlay.overlay =
    omega (arith, c.weight-sum.ensures, c.next_weight.ensures, c.from-weight.ensures) in
    ends_halted c.args.steps c.args.overlay.now (g.S.Sink.seen c.args.out.now)
    c.loop-overlay.overlay _ c.step.new.self _ c.as_str-in-Halted.result.now c.finish-in-Halted.result
    c.loop-overlay.invariant fits (search rules) c.step.ensures.after
    (c.as_str-in-Halted.ensures.value ∙ c.halted_line-line.ensures.bytes
    ∙ ap (halted_text (overlay_view c.step.new.self)) sum) c.finish-in-Halted.ensures

pub returns-in-Failed-clause-traces : goal.returns-in-Failed-clause-traces
returns-in-Failed-clause-traces g c =
    let fits = fits_with c.args.steps c.loop-overlay.overlay c.weight-sum.ensures c.next_weight.ensures
    c.from-weight.ensures c.if-sum-weight.false in
    ends_failed c.args.steps c.args.overlay.now (g.S.Sink.seen c.args.out.now)
    c.loop-overlay.overlay _ c.step.new.self _ c.as_str-in-Failed.result.now c.finish-in-Failed.result
    c.loop-overlay.invariant fits (search rules) c.step.ensures.after
    (c.as_str-in-Failed.ensures.value ∙ c.failed_line-line.ensures.bytes
    ∙ ap (failed_text (overlay_view c.step.new.self)) c.weight-sum.ensures) c.finish-in-Failed.ensures

pub returns-then-sum-weight-clause-headline : goal.returns-then-sum-weight-clause-headline
returns-then-sum-weight-clause-headline g c =
    λ parts size is. c.the_headline.ensures.holds parts size c.args.start.now is

pub returns-in-Err-clause-headline : goal.returns-in-Err-clause-headline
returns-in-Err-clause-headline g c =
    λ parts size is. c.the_headline.ensures.holds parts size c.args.start.now is

pub returns-in-Halted-clause-headline : goal.returns-in-Halted-clause-headline
returns-in-Halted-clause-headline g c =
    λ parts size is. c.the_headline.ensures.holds parts size c.args.start.now is

pub returns-in-Failed-clause-headline : goal.returns-in-Failed-clause-headline
returns-in-Failed-clause-headline g c =
    λ parts size is. c.the_headline.ensures.holds parts size c.args.start.now is
