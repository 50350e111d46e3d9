use Rattle.std.proofs.Common.{◌++◌}
use Rattle.run_picture.specs.Groups.{area, acts, arrow, number, told_beside, frame, line_shapes}
use Rattle.run_picture.proofs.Joined.{on_ok, then}
use Rattle.run_picture.proofs.group.push_shapes.Goals as goal

pub returns : goal.returns
unfolding line_shapes
returns c =
    let p = c.args.page.now in
    let n = c.args.n in
    let t = c.args.turn in
    let a = area p n t c.args.top in
    let b = acts p n t in
    let d = arrow p n t in
    let e = number p n in
    let f = told_beside p n c.args.line.now in
    let g = frame p n t c.args.line.now c.args.others.now in
    on_ok c.push_frame.result
    (λ h. then (a ++ b ++ d ++ e ++ f) g _ _ _
    (then (a ++ b ++ d ++ e) f _ _ _
    (then (a ++ b ++ d) e _ _ _
    (then (a ++ b) d _ _ _
    (then a b _ _ _ c.in_ok-push_area.ensures c.in_ok-push_acts.ensures) c.in_ok-push_arrow.ensures)
    c.in_ok-push_line_number.ensures) c.in_ok-push_told.ensures) h)
    c.push_frame.ensures
