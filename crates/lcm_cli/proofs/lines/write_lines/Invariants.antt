-- The lines in front of the rest were written; it gets shorter.
use Rattle.std.proofs.Common.{length}
use Rattle.lcm_cli.proofs.Sinks.{Behind}
use Rattle.lcm_cli.proofs.lines.write_lines.Given as goal

abbrev pub invariant-loop-rest : goal.invariant-loop-rest
invariant-loop-rest g l = Behind (g.S.Sink.seen l.fn.out) l.text (g.S.Sink.seen l.out) l.rest

abbrev pub decreases-loop-rest : goal.decreases-loop-rest
decreases-loop-rest g l = length l.rest
