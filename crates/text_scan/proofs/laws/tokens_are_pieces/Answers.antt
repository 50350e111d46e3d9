use Rattle.text_scan.proofs.Places.{text_placed, text_spelled}
use Rattle.text_scan.proofs.laws.tokens_are_pieces.Goals as goal

pub returns-clause-placed : goal.returns-clause-placed
returns-clause-placed c = text_placed

pub returns-clause-spelled : goal.returns-clause-spelled
returns-clause-spelled c = text_spelled
