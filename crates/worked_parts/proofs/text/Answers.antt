use Rattle.worked_parts.proofs.Taken.{one_more}
use Rattle.worked_parts.proofs.text.Goals as goal

pub loop-piece-preserved : goal.loop-piece-preserved
loop-piece-preserved c =
    one_more _ _ c.args.pieces.now c.loop-piece.piece-index _ c.loop-piece.invariant
    c.in_ok-push_piece.ensures c.loop-piece-test.true
