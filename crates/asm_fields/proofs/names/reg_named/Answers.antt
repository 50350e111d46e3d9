use Rattle.asm_fields.proofs.RegNames.{reg_is}
use Rattle.asm_fields.proofs.names.reg_named.Goals as goal

pub returns : goal.returns
returns c = reg_is c.args.name.now c.of_name.result c.of_name.ensures.found c.of_name.ensures.none
