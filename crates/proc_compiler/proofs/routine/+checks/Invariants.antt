use Rattle.std.proofs.Common.{length}
use Rattle.proc_compiler.proofs.routine.+checks.Given as goal

abbrev pub decreases-checks : goal.decreases-checks
decreases-checks l = length l.callbacks.now
