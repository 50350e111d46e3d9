use Rattle.std.proofs.Common.{length}
use Rattle.proc_print.proofs.items.+write_more_params.Given as goal

abbrev pub decreases-write_more_params : goal.decreases-write_more_params
decreases-write_more_params l = length l.params.now
