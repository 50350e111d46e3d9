use Rattle.readers.proofs.Offers.{one_text}
use Rattle.image_loader.proofs.ImageLaws.{image_reads}
use Rattle.image_loader.proofs.laws.one_spelling.Goals as goal

pub returns : goal.returns
returns c = one_text image_reads
