use Rattle.std.proofs.Common.{Some, None, length, sym, ap, ◌∙◌, arith}
use Rattle.call_sequence.specs.Lists.{k4, is_misplaced, row_offset}
use Rattle.flow_check.proofs.Found.{found}
use Rattle.flow_check.proofs.lists.k4.Goals as goal

pub returns-then-is_misplaced : goal.returns-then-is_misplaced
unfolding k4
returns-then-is_misplaced c =
    let C = c.args.c.now in
    ap Some c.row_offset-offset.ensures
    ∙ found (record {
      count = length C.rows;
      broken = λ j. is_misplaced C (row_offset C j);
      place = row_offset C;
    }) (Some c.loop-i.i) (
      omega (arith, c.loop-i-test.true, ap length c.as_slice-i-end.ensures),
      sym (c.is_misplaced.ensures ∙ ap (is_misplaced C) c.row_offset-offset.ensures)
          ∙ c.if-is_misplaced.true,
      c.loop-i.invariant,
    )

pub returns : goal.returns
unfolding k4
returns c =
    let C = c.args.c.now in
    found (record {
      count = length C.rows;
      broken = λ j. is_misplaced C (row_offset C j);
      place = row_offset C;
    }) None
    (λ j lt. c.loop-i.invariant j (omega (arith, c.loop-i-test.false, ap length c.as_slice-i-end.ensures)))
