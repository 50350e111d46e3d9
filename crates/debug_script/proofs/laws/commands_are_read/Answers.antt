use Rattle.debug_script.proofs.CommandLemmas.{commands_are_read}
use Rattle.debug_script.proofs.laws.commands_are_read.Goals as goal

pub returns : goal.returns
returns c = commands_are_read
