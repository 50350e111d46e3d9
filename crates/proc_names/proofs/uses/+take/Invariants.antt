use Rattle.std.proofs.Common.{length}
use Rattle.proc_names.proofs.uses.+take.Given as goal

abbrev pub decreases-take : goal.decreases-take
decreases-take l = length l.args.now
