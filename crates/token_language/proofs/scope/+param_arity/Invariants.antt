use Rattle.std.proofs.Common.{length}
use Rattle.token_language.proofs.scope.+param_arity.Given as goal

abbrev pub decreases-param_arity : goal.decreases-param_arity
decreases-param_arity l = length l.params.now
