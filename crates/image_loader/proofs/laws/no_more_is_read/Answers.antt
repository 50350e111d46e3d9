use Rattle.image_loader.proofs.ImageLaws.{read_past}
use Rattle.image_loader.proofs.laws.no_more_is_read.Goals as goal

pub returns : goal.returns
returns c = read_past
