use Rattle.std.proofs.Common.{rules, ◌≡◌, ◌<◌, ◌+◌, ◌∙◌, ap, sym, arith, refl, subst}
use Rattle.lcm_machine.specs.declared.Step.TheVariants.{Went}
use Rattle.linked_starts.specs.Started.{StartSeen}
use Rattle.trace_tool.specs.Gaps.{IsGap}
use Rattle.run_lines.proofs.Offers.{Going, going_more, line_fails, ends_early, ends_running}
use Rattle.trace_tool.proofs.InGaps.{going_on, ends_in}
use Rattle.trace_tool.proofs.run.run_noted.Goals as goal

pub stretch-made-requires : goal.stretch-made-requires
stretch-made-requires g c =
    let few = c.turns.invariant.1.gone.count in
    let room = c.requires.count in
    let most = c.turns.invariant.0 in
    omega (arith, few, room, most)

pub returns-then-ne : goal.returns-then-ne
returns-then-ne g c =
    let most = c.turns.invariant.0 in
    let some = c.stretch-made.ensures.most in
    ends_in c.args.start.now _ c.turns.done c.turns.start c.turns.inward _ c.turns.gap c.turns.invariant.1
    c.turns.invariant.2 c.stretch-made.result.0 c.args.steps c.stretch-made.new.start _
    c.stretch-made.result.1 _ c.end_run.result c.stretch-made.ensures.within (omega (arith, most, some))
    c.stretch-made.ensures.state c.stretch-made.ensures.last (search rules) refl c.end_run.ensures

pub returns-then-done-steps : goal.returns-then-done-steps
returns-then-done-steps g c =
    let e : c.stretch-made.result.1 ≡ Went = search rules in
    let h = going_on c.args.start.now _ c.turns.done c.turns.start c.turns.inward _ c.turns.gap
    c.turns.invariant.1 c.turns.invariant.2 c.stretch-made.result.0 c.stretch-made.new.start
    c.stretch-made.ensures.within c.stretch-made.ensures.state (sym c.stretch-made.ensures.last ∙ e) in
    let all : c.turns.done + c.stretch-made.result.0 ≡ c.args.steps = omega (arith, c.if-done-steps.true) in
    ends_running c.args.start.now _ c.args.steps c.stretch-made.new.start c.turns.inward _ _ _
    c.end_run-then-done-steps.result
    (subst (λ k. Going c.args.start.now (g.S.Sink.seen c.args.out.now) k c.stretch-made.new.start
    c.turns.inward (g.S.Sink.seen c.turns.out)) all h) refl c.end_run-then-done-steps.ensures

pub noted_turn-requires : goal.noted_turn-requires
noted_turn-requires g c =
    let e : c.stretch-made.result.1 ≡ Went = search rules in
    let h = going_on c.args.start.now _ c.turns.done c.turns.start c.turns.inward _ c.turns.gap
    c.turns.invariant.1 c.turns.invariant.2 c.stretch-made.result.0 c.stretch-made.new.start
    c.stretch-made.ensures.within c.stretch-made.ensures.state (sym c.stretch-made.ensures.last ∙ e) in
    let lt : c.turns.done + c.stretch-made.result.0 < c.args.steps =
    omega (arith, c.turns.invariant.0, c.stretch-made.ensures.most, c.if-done-steps.false) in
    let few = h.gone.count in
    let room = c.requires.count in
    omega (arith, few, room, lt)

pub returns-then-ne-2 : goal.returns-then-ne-2
returns-then-ne-2 g c =
    let e : c.stretch-made.result.1 ≡ Went = search rules in
    let h = going_on c.args.start.now _ c.turns.done c.turns.start c.turns.inward _ c.turns.gap
    c.turns.invariant.1 c.turns.invariant.2 c.stretch-made.result.0 c.stretch-made.new.start
    c.stretch-made.ensures.within c.stretch-made.ensures.state (sym c.stretch-made.ensures.last ∙ e) in
    let lt : c.turns.done + c.stretch-made.result.0 < c.args.steps =
    omega (arith, c.turns.invariant.0, c.stretch-made.ensures.most, c.if-done-steps.false) in
    ends_early c.args.start.now _ (c.turns.done + c.stretch-made.result.0) c.args.steps
    c.stretch-made.new.start c.turns.inward _ c.noted_turn.new.start _ _ c.in-Ok.step _
    c.end_run-then-ne-2.result h lt
    c.in-Ok.ensures.state c.in-Ok.ensures.answer (search rules) c.in-Ok.ensures.line refl
    c.end_run-then-ne-2.ensures

pub returns-in-Err : goal.returns-in-Err
returns-in-Err g c =
    let e : c.stretch-made.result.1 ≡ Went = search rules in
    let h = going_on c.args.start.now _ c.turns.done c.turns.start c.turns.inward _ c.turns.gap
    c.turns.invariant.1 c.turns.invariant.2 c.stretch-made.result.0 c.stretch-made.new.start
    c.stretch-made.ensures.within c.stretch-made.ensures.state (sym c.stretch-made.ensures.last ∙ e) in
    let lt : c.turns.done + c.stretch-made.result.0 < c.args.steps =
    omega (arith, c.turns.invariant.0, c.stretch-made.ensures.most, c.if-done-steps.false) in
    line_fails c.args.start.now _ (c.turns.done + c.stretch-made.result.0) c.args.steps
    c.stretch-made.new.start c.turns.inward _ c.noted_turn.new.start _ h lt c.in-Err.ensures.state
    c.in-Err.ensures.line

pub gap_ahead-gap-requires : goal.gap_ahead-gap-requires
gap_ahead-gap-requires g c =
    subst (λ sites. IsGap sites c.turns.gap)
    (sym (ap (λ (s : StartSeen). s.sites) c.in-Ok.ensures.state
    ∙ ap (λ (s : StartSeen). s.sites) c.stretch-made.ensures.state)) c.turns.invariant.2

pub turns-preserved : goal.turns-preserved
turns-preserved g c =
    let e : c.stretch-made.result.1 ≡ Went = search rules in
    let h = going_on c.args.start.now _ c.turns.done c.turns.start c.turns.inward _ c.turns.gap
    c.turns.invariant.1 c.turns.invariant.2 c.stretch-made.result.0 c.stretch-made.new.start
    c.stretch-made.ensures.within c.stretch-made.ensures.state (sym c.stretch-made.ensures.last ∙ e) in
    let lt : c.turns.done + c.stretch-made.result.0 < c.args.steps =
    omega (arith, c.turns.invariant.0, c.stretch-made.ensures.most, c.if-done-steps.false) in (
      omega (arith, lt),
      going_more c.args.start.now _ (c.turns.done + c.stretch-made.result.0) c.stretch-made.new.start
          c.turns.inward _ c.noted_turn.new.start c.noted_turn.new.inward _ h c.in-Ok.ensures.state
          c.in-Ok.ensures.inward
          (search rules) c.in-Ok.ensures.line,
      c.gap_ahead-gap.ensures,
    )

pub turns-smaller : goal.turns-smaller
turns-smaller g c =
    let lt : c.turns.done + c.stretch-made.result.0 < c.args.steps =
    omega (arith, c.turns.invariant.0, c.stretch-made.ensures.most, c.if-done-steps.false) in
    omega (arith, lt)
