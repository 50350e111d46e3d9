use Rattle.std.proofs.Common.{◌-◌}
use Rattle.trace_tool.proofs.Tracing.{Going}
use Rattle.trace_tool.proofs.trace.run_overlay.Given as goal

-- the steps that went have their lines written
abbrev pub invariant-loop-overlay : goal.invariant-loop-overlay
invariant-loop-overlay g l =
    Going l.fn.steps l.fn.overlay (g.S.Sink.seen l.fn.out) l.overlay (g.S.Sink.seen l.out)

-- each step has weight
abbrev pub decreases-loop-overlay : goal.decreases-loop-overlay
decreases-loop-overlay g l = l.fn.steps - l.overlay.weight
