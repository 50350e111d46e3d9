use Rattle.std.proofs.Common.{◌≡◌, ◌++◌, length}
use Rattle.run_picture.specs.Picture.{marks_text}
use Rattle.run_picture.proofs.picture.push_marks.Given as goal

abbrev pub invariant-loop-cut : goal.invariant-loop-cut
invariant-loop-cut l =
    l.text.items ++ marks_text l.page l.rest ≡ l.fn.text.items ++ marks_text l.page l.page.cuts

abbrev pub decreases-loop-cut : goal.decreases-loop-cut
decreases-loop-cut l = length l.rest
