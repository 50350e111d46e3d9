use Rattle.debug_script.proofs.CommandLemmas.{named_is}
use Rattle.debug_script.proofs.command.register_in.Goals as goal

pub returns : goal.returns
returns c = named_is c.of_name.result c.args.name.now c.of_name.ensures.found c.of_name.ensures.none
