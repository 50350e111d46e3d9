use Rattle.std.proofs.Common.{arith}
use Rattle.text_scan.proofs.Lines.{split_here, one_line}
use Rattle.text_scan.proofs.text.first_line.Goals as goal

pub returns-then-len-text-clause-parts : goal.returns-then-len-text-clause-parts
returns-then-len-text-clause-parts c =
    split_here c.first_len-len.result c.args.text.now c.first_len-len.ensures c.if-len-text.true

pub returns-else-len-text-clause-parts : goal.returns-else-len-text-clause-parts
returns-else-len-text-clause-parts c =
    one_line c.first_len-len.result c.args.text.now c.first_len-len.ensures (omega arith)
