use Rattle.std.proofs.Common.{length}
use Rattle.token_language.proofs.calls.+wrong_params.Given as goal

abbrev pub decreases-wrong_params : goal.decreases-wrong_params
decreases-wrong_params l = length l.params.now
