use Rattle.std.proofs.Common.{length}
use Rattle.token_language.proofs.scope.+local_is_token.Given as goal

abbrev pub decreases-local_is_token : goal.decreases-local_is_token
decreases-local_is_token l = length l.locals.now
