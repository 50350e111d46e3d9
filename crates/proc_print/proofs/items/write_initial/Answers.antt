use Rattle.std.proofs.Common.{rules}
use Rattle.proc_print.proofs.Writing.{both, none, told_as}
use Rattle.proc_print.proofs.items.write_initial.Goals as goal

pub returns-in-None : goal.returns-in-None
returns-in-None c = told_as (none c.args.text.now) (search rules)

pub returns-in-Some : goal.returns-in-Some
returns-in-Some c =
    told_as (both c.sign.ensures c.write_integer.ensures) (search rules)
