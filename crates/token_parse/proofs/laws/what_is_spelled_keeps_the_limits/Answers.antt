use Rattle.token_parse.proofs.Fits.{is_token_module}
use Rattle.token_parse.proofs.laws.what_is_spelled_keeps_the_limits.Goals as goal

pub returns : goal.returns
returns c = is_token_module
