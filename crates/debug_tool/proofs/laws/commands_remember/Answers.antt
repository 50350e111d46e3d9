use Rattle.debug_tool.proofs.Remembering.{commands_remember}
use Rattle.debug_tool.proofs.laws.commands_remember.Goals as goal

pub returns : goal.returns
returns c = commands_remember
