use Rattle.proc_grammar.proofs.Fits.{is_module}
use Rattle.proc_grammar.proofs.laws.what_is_spelled_keeps_the_limits.Goals as goal

pub returns : goal.returns
returns c = is_module
