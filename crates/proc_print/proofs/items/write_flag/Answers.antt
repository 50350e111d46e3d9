use Rattle.std.proofs.Common.{rules}
use Rattle.proc_print.proofs.Writing.{none, told_as}
use Rattle.proc_print.proofs.items.write_flag.Goals as goal

pub returns-else-holds : goal.returns-else-holds
returns-else-holds c = told_as (none c.args.text.now) (search rules)
