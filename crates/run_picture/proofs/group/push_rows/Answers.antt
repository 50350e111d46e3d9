use Rattle.run_picture.proofs.Joined.{rows_over}
use Rattle.run_picture.proofs.group.push_rows.Goals as goal

pub returns : goal.returns
returns c =
    rows_over c.args.bytes c.args.x c.loop-y.y c.loop-y.fields c.loop-y.text.items _ c.loop-y-test.false
    c.loop-y.invariant.so_far
