use Rattle.std.proofs.Common.{length}
use Rattle.token_language.proofs.calls.+fit.Given as goal

abbrev pub decreases-fit : goal.decreases-fit
decreases-fit l = length l.args.now
