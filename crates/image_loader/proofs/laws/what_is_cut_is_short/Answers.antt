use Rattle.image_loader.proofs.ImageLaws.{read_cut}
use Rattle.image_loader.proofs.laws.what_is_cut_is_short.Goals as goal

pub returns : goal.returns
returns c = read_cut
