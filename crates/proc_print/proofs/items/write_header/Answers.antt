use Rattle.std.proofs.Common.{rules}
use Rattle.proc_print.specs.Printed.{header_pieces, base_pieces, seal_pieces}
use Rattle.proc_print.proofs.Writing.{both, told_as}
use Rattle.proc_print.proofs.items.write_header.Goals as goal

pub returns : goal.returns
unfolding header_pieces base_pieces seal_pieces
returns c =
    told_as (both (both c.word.ensures (both c.name.ensures
    (both (both c.write_field.ensures c.write_field-2.ensures)
    (both (both c.write_field-3.ensures (both c.write_field-4.ensures c.number.ensures))
    (both c.write_field-5.ensures c.write_flag.ensures))))) c.sign.ensures) (search rules)
