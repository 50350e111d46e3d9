use Rattle.std.proofs.Common.{length}
use Rattle.token_language.proofs.scope.+callback_index.Given as goal

abbrev pub decreases-callback_index : goal.decreases-callback_index
decreases-callback_index l = length l.params.now
