use Rattle.std.proofs.Common.{length}
use Rattle.proc_compiler.proofs.counts.+unused.Given as goal

abbrev pub decreases-unused : goal.decreases-unused
decreases-unused l = length l.args.now
