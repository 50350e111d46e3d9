use Rattle.std.proofs.Common.{rules, ◌∙◌, ap}
use Rattle.lcm_machine.specs.Run.{next_state}
use Rattle.trace_tool.proofs.Counting.{calls_none, calls_told}
use Rattle.trace_tool.proofs.count.counted_turn.Goals as goal

pub returns-then-ne-clause-calls : goal.returns-then-ne-clause-calls
returns-then-ne-clause-calls c = calls_none c.args.start.now c.args.inward.now (search rules)

pub returns-clause-calls : goal.returns-clause-calls
returns-clause-calls c =
    c.calls_of.ensures.is
    ∙ calls_told c.args.start.now c.args.inward.now c.step-last.new.self c.event_after-event.result
    (c.step-last.ensures.after ∙ ap next_state c.state_mut.ensures.value) (search rules) (search rules)
