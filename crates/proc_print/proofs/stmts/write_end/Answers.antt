use Rattle.proc_print.proofs.Writing.{both}
use Rattle.proc_print.proofs.stmts.write_end.Goals as goal

pub returns : goal.returns
returns c =
    let written = both (both c.word.ensures c.write_expr.ensures) c.sign.ensures in
    written
