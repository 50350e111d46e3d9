use Rattle.outside_io.proofs.Offers.{one_write}
use Rattle.trace_tool.proofs.write.write.Goals as goal

pub returns : goal.returns
returns g c =
    one_write _ _ c.args.piece.now c.write.result c.write.ensures.ok c.write.ensures.err
    c.write.ensures.counted
