use Rattle.std.proofs.Common.{◌<◌, ◌≤◌, arith, length, false-eqb, true-eqb}
use Rattle.std.proofs.lemmas.Result.{err_from_is_err_and}
use Rattle.text_scan.proofs.Lines.{next_piece, piece_fails, line_done}
use Rattle.text_scan.proofs.line.push_pieces.Goals as goal

pub returns-in_err-piece : goal.returns-in_err-piece
returns-in_err-piece c =
    let p = err_from_is_err_and c.from_residual.result c.from_residual.ensures.1 in
    let some : 0 < length c.loop-rest.rest.now = omega (arith, false-eqb _ 0 c.loop-rest-test.ensures) in
    rw (p.1, p.2)
    (piece_fails c.args.tokens.now.items c.loop-rest.tokens.items c.loop-rest.at c.loop-rest.rest.now
    c.in_err-piece.field-0.0 _ some c.in_err-piece.ensures.exact c.loop-rest.invariant.so_far)

pub loop-rest-preserved : goal.loop-rest-preserved
loop-rest-preserved c =
    let some : 0 < length c.loop-rest.rest.now = omega (arith, false-eqb _ 0 c.loop-rest-test.ensures) in
    record {
      place = omega (
        arith,
        c.split_at.ensures.back_len,
        c.in_ok-piece.ensures.within.1,
        c.loop-rest.invariant.place,
      );
      so_far = next_piece c.loop-rest.tokens.items _ c.loop-rest.at c.loop-rest.rest.now _
          c.in_ok-piece.piece _ some c.in_ok-piece.ensures.within.0 c.in_ok-piece.ensures.exact
          c.split_at.ensures.back c.in_ok-push_token.ensures c.loop-rest.invariant.so_far;
    }

pub returns : goal.returns
returns c =
    let none : length c.loop-rest.rest.now ≤ 0 = omega (arith, true-eqb _ 0 c.loop-rest-test.ensures) in
    line_done c.loop-rest.tokens.items c.loop-rest.at c.loop-rest.rest.now _ none c.loop-rest.invariant.so_far
