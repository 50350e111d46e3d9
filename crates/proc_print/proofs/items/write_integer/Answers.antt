use Rattle.std.proofs.Common.{rules}
use Rattle.proc_print.proofs.Writing.{both, told_as}
use Rattle.proc_print.proofs.items.write_integer.Goals as goal

pub returns : goal.returns
returns c = told_as (both c.sign.ensures c.number-2.ensures) (search rules)
