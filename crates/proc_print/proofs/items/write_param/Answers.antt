use Rattle.std.proofs.Common.{rules}
use Rattle.proc_print.proofs.Writing.{both, told_as}
use Rattle.proc_print.proofs.items.write_param.Goals as goal

pub returns-in-Some : goal.returns-in-Some
returns-in-Some c =
    told_as (both c.name-in-Some.ensures (both c.sign.ensures c.number.ensures)) (search rules)
