use Rattle.headline.proofs.alike.Alike.{lines_agree}
use Rattle.headline.proofs.laws.linked_lines_agree.Goals as goal

pub returns : goal.returns
returns c = λ g o t linked inv. lines_agree g linked o t inv
