use Rattle.std.proofs.Common.{length}
use Rattle.token_language.proofs.scope.+param_index.Given as goal

abbrev pub decreases-param_index : goal.decreases-param_index
decreases-param_index l = length l.params.now
