use Rattle.std.proofs.Common.{drop, flat_map}
use Rattle.proc_print.specs.declared.pieces.TextWriter.{TextWriter}
use Rattle.proc_print.specs.Writing.{WritesPieces}
use Rattle.proc_print.proofs.items.write_each.Given as goal

abbrev pub invariant-loop-item : goal.invariant-loop-item
invariant-loop-item g l =
    (end : TextWriter) → WritesPieces l.text end (flat_map g.T.Written.pieces_of (drop l.item-index l.items))
    → WritesPieces l.fn.text end (flat_map g.T.Written.pieces_of l.items)
