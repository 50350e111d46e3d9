use Rattle.image_loader.proofs.ImageLaws.{read_whole}
use Rattle.image_loader.proofs.laws.spelling_is_read.Goals as goal

pub returns : goal.returns
returns c = read_whole
