use Rattle.std.proofs.Common.{length}
use Rattle.token_language.proofs.scope.+local_index.Given as goal

abbrev pub decreases-local_index : goal.decreases-local_index
decreases-local_index l = length l.locals.now
