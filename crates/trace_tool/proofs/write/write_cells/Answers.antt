use Rattle.outside_io.proofs.Offers.{pieces_none, failed_writes}
use Rattle.run_lines.proofs.Offers.{cell_more, cell_fails}
use Rattle.trace_tool.proofs.write.write_cells.Goals as goal

pub loop-i-init : goal.loop-i-init
loop-i-init g c = pieces_none _

pub returns-in_err-write_cell : goal.returns-in_err-write_cell
returns-in_err-write_cell g c =
    failed_writes _ _ _ c.from_residual.result c.from_residual.ensures.0
    (cell_fails (g.V.Shown.view c.args.view.now)
    c.args.from c.loop-i.i c.args.count _ _ _ c.loop-i-test.true c.loop-i.invariant
    c.in_err-write_cell.ensures)

pub loop-i-preserved : goal.loop-i-preserved
loop-i-preserved g c =
    cell_more (g.V.Shown.view c.args.view.now)
    c.args.from c.loop-i.i _ _ _ c.loop-i.invariant c.in_ok-write_cell.ensures
