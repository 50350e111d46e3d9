use Rattle.token_semantics.proofs.PlainLemmas.{plain_are_accepted}
use Rattle.token_semantics.proofs.laws.plain_modules_are_token_modules.Goals as goal

-- src/laws.rt:15:1
pub returns : goal.returns
returns c = plain_are_accepted
