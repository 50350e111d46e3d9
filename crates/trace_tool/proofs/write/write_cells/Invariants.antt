use Rattle.outside_io.specs.Writes.{AddsPieces}
use Rattle.run_lines.proofs.Offers.{cells_pieces}
use Rattle.trace_tool.proofs.write.write_cells.Given as goal

-- the words of the cells passed are written
abbrev pub invariant-loop-i : goal.invariant-loop-i
invariant-loop-i g l =
    AddsPieces (g.S.Sink.seen l.fn.out) (cells_pieces (g.V.Shown.view l.fn.view) l.fn.from l.i)
    (g.S.Sink.seen l.out)
