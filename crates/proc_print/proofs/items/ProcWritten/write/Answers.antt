use Rattle.std.proofs.Common.{rules}
use Rattle.proc_print.proofs.Writing.{both, told_as}
use Rattle.proc_print.proofs.items.ProcWritten.write.Goals as goal

pub returns : goal.returns
returns c =
    told_as (both c.write_flag.ensures (both c.word.ensures (both c.name.ensures
    (both (both c.sign.ensures (both c.write_params.ensures c.sign-2.ensures)) c.write_body.ensures))))
    (search rules)
