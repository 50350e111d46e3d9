use Rattle.std.proofs.Common.{rules}
use Rattle.proc_print.proofs.Writing.{both, told_as}
use Rattle.proc_print.proofs.items.write_body.Goals as goal

pub returns : goal.returns
returns c =
    told_as (both c.sign.ensures (both (both c.write_each.ensures c.write_stmts.ensures)
    c.sign-2.ensures)) (search rules)
