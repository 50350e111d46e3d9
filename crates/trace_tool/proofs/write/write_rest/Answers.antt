use Rattle.outside_io.proofs.Offers.{fail_more, failed_writes, writes_behind}
use Rattle.trace_tool.proofs.write.write_rest.Goals as goal

pub returns-in_err-write_cells : goal.returns-in_err-write_cells
returns-in_err-write_cells g c =
    failed_writes _ _ _ c.from_residual.result c.from_residual.ensures.0
    (fail_more _ _ _ _ c.in_err-write_cells.ensures)

pub returns : goal.returns
returns g c = writes_behind _ _ _ _ _ c.write.result c.in_ok-write_cells.ensures c.write.ensures
