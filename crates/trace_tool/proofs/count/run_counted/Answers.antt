use Rattle.std.proofs.Common.{rules, ◌≡◌, arith, refl, subst}
use Rattle.trace_tool.proofs.Counting.{Counting, counting_more, counted_running, counted_early}
use Rattle.trace_tool.proofs.count.run_counted.Goals as goal

pub returns-then-ne : goal.returns-then-ne
returns-then-ne c =
    counted_early c.args.start.now c.loop-i._i c.args.steps c.loop-i.start c.loop-i.inward c.loop-i.calls
    c.counted_turn-turn.new.start c.counted_turn-turn.result.calls _ c.loop-i.invariant c.loop-i-test.true
    c.counted_turn-turn.ensures.state c.counted_turn-turn.ensures.last (search rules)
    c.counted_turn-turn.ensures.calls refl

pub loop-i-preserved : goal.loop-i-preserved
loop-i-preserved c =
    counting_more c.args.start.now c.loop-i._i c.loop-i.start c.loop-i.inward c.loop-i.calls
    c.counted_turn-turn.new.start c.counted_turn-turn.new.inward c.counted_turn-turn.result.calls
    c.loop-i.invariant c.counted_turn-turn.ensures.state c.counted_turn-turn.ensures.inward (search rules)
    c.counted_turn-turn.ensures.calls c.counted_turn-turn.ensures.few

pub returns : goal.returns
returns c =
    let all : c.loop-i._i ≡ c.args.steps = omega arith in
    counted_running c.args.start.now c.args.steps c.loop-i.start c.loop-i.inward _
    (subst (λ k. Counting c.args.start.now k c.loop-i.start c.loop-i.inward c.loop-i.calls) all
    c.loop-i.invariant) refl
