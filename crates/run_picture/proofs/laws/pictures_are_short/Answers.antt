use Rattle.run_picture.proofs.Short.{pictures_are_short}
use Rattle.run_picture.proofs.Traces.{traces_are_plain}
use Rattle.run_picture.proofs.Weights.{escapes_are_short}
use Rattle.run_picture.proofs.laws.pictures_are_short.Goals as goal

pub returns : goal.returns
returns c = record { escapes = escapes_are_short; traces = traces_are_plain; pictures = pictures_are_short }
