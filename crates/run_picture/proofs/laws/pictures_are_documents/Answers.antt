use Rattle.run_picture.proofs.Svg.{pictures_are_documents}
use Rattle.run_picture.proofs.laws.pictures_are_documents.Goals as goal

pub returns : goal.returns
returns c = pictures_are_documents
