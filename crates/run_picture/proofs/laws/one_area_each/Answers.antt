use Rattle.run_picture.proofs.Boxes.{one_area_each}
use Rattle.run_picture.proofs.laws.one_area_each.Goals as goal

pub returns : goal.returns
returns c = one_area_each
