use Rattle.run_picture.proofs.Escapes.{escapes_are_read}
use Rattle.run_picture.proofs.Svg.{escapes_are_texts}
use Rattle.run_picture.proofs.laws.escapes_are_read.Goals as goal

pub returns : goal.returns
returns c = record { texts = escapes_are_texts; read = escapes_are_read }
