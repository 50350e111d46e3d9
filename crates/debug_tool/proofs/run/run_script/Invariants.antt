-- The commands so far were done, and their replies written.
use Rattle.debug_tool.proofs.Telling.{HaveTold}
use Rattle.debug_tool.proofs.run.run_script.Given as goal

abbrev pub invariant-loop-command : goal.invariant-loop-command
invariant-loop-command g l =
    HaveTold (g.S.Sink.seen l.fn.out) l.fn.debugger l.command-items l.command-index (g.S.Sink.seen l.out)
    l.debugger
