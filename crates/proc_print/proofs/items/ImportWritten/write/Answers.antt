use Rattle.std.proofs.Common.{rules}
use Rattle.proc_print.proofs.Writing.{both, told_as}
use Rattle.proc_print.proofs.items.ImportWritten.write.Goals as goal

pub returns : goal.returns
returns c =
    told_as (both (both c.word.ensures (both c.name.ensures (both c.sign.ensures
    (both c.name-2.ensures (both c.sign-2.ensures c.number.ensures))))) c.sign-3.ensures) (search rules)
