use Rattle.std.proofs.Common.{length}
use Rattle.token_language.proofs.scope.+param_is_token.Given as goal

abbrev pub decreases-param_is_token : goal.decreases-param_is_token
decreases-param_is_token l = length l.params.now
