use Rattle.std.proofs.Common.{rules}
use Rattle.proc_print.proofs.Writing.{both, told_as}
use Rattle.proc_print.proofs.items.write_module.Goals as goal

pub returns : goal.returns
returns c =
    told_as (both c.write_header.ensures (both c.write_each.ensures
    (both c.write_each-2.ensures c.write_each-3.ensures))) (search rules)
