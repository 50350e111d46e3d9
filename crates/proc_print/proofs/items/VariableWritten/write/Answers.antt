use Rattle.std.proofs.Common.{rules}
use Rattle.proc_print.proofs.Writing.{both, told_as}
use Rattle.proc_print.proofs.items.VariableWritten.write.Goals as goal

pub returns : goal.returns
returns c =
    told_as (both (both c.word.ensures (both c.name.ensures
    (both c.write_length.ensures c.write_initial.ensures))) c.sign.ensures) (search rules)
