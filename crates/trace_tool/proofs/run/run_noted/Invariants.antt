use Rattle.std.proofs.Common.{◌≤◌, ◌-◌}
use Rattle.trace_tool.specs.Gaps.{IsGap}
use Rattle.run_lines.proofs.Offers.{Going}
use Rattle.trace_tool.proofs.run.run_noted.Given as goal

-- the instructions done went, and their lines are written
abbrev pub invariant-turns : goal.invariant-turns
invariant-turns g l =
    (l.done ≤ l.fn.steps)
    × Going l.fn.start (g.S.Sink.seen l.fn.out) l.done l.start l.inward (g.S.Sink.seen l.out)
    × IsGap l.start.sites l.gap

abbrev pub decreases-turns : goal.decreases-turns
decreases-turns g l = l.fn.steps - l.done
