use Rattle.trace_tool.proofs.Counting.{Counting}
use Rattle.trace_tool.proofs.count.run_counted.Given as goal

-- the instructions passed went, and their calls are counted
abbrev pub invariant-loop-i : goal.invariant-loop-i
invariant-loop-i l = Counting l.fn.start l._i l.start l.inward l.calls
