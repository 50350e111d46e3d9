use Rattle.std.proofs.Common.{rules}
use Rattle.proc_print.specs.Printed.{field_pieces}
use Rattle.proc_print.proofs.Writing.{both, told_as}
use Rattle.proc_print.proofs.items.write_field.Goals as goal

pub returns : goal.returns
unfolding field_pieces
returns c =
    told_as (both c.word.ensures c.number.ensures) (search rules)
