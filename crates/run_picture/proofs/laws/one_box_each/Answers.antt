use Rattle.run_picture.proofs.Boxes.{one_box_each}
use Rattle.run_picture.proofs.laws.one_box_each.Goals as goal

pub returns : goal.returns
returns c = one_box_each
