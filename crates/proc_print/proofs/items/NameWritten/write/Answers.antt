use Rattle.proc_print.proofs.Writing.{both}
use Rattle.proc_print.proofs.items.NameWritten.write.Goals as goal

pub returns : goal.returns
returns c =
    let written = both (both c.word.ensures c.name.ensures) c.sign.ensures in
    written
