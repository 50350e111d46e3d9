use Rattle.std.proofs.Common.{◌++◌}
use Rattle.std.specs.Prelude.{codes}
use Rattle.run_picture.specs.Shapes.{marked}
use Rattle.run_picture.specs.Page.{width, height}
use Rattle.run_picture.specs.Picture.{front}
use Rattle.run_picture.proofs.Joined.{on_ok, piece}
use Rattle.run_picture.proofs.picture.push_front.Goals as goal

pub returns : goal.returns
unfolding front
returns c =
    let p = c.args.page.now in
    let a = marked (codes "<svg xmlns=\"http://www.w3.org/2000/svg\" width=\"") (width p) in
    let b = marked (codes "\" height=\"") (height p) in
    let d = marked (codes "\" viewBox=\"0 0 ") (width p) in
    let e = marked (codes " ") (height p) in
    on_ok c.push.result
    (λ h. piece (a ++ b ++ d ++ e) (codes "\">\n") _ _ _
    (piece (a ++ b ++ d) e _ _ _
    (piece (a ++ b) d _ _ _ (piece a b _ _ _ c.in_ok-push_width.ensures c.in_ok-push_height.ensures)
    c.in_ok-push_width-2.ensures) c.in_ok-push_height-2.ensures) h)
    c.push.ensures
