use Rattle.std.proofs.Common.{arith}
use Rattle.image_loader.proofs.PartLaws.{taken_length}
use Rattle.image_loader.proofs.reading.part.Goals as goal

pub part_of-requires : goal.part_of-requires
part_of-requires c = omega (arith, taken_length _ _ _ _ c.in_ok-component.ensures)
