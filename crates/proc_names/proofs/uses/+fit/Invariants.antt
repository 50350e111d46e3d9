use Rattle.std.proofs.Common.{length}
use Rattle.proc_names.proofs.uses.+fit.Given as goal

abbrev pub decreases-fit : goal.decreases-fit
decreases-fit l = length l.args.now
