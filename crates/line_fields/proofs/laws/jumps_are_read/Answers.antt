use Rattle.line_fields.proofs.JumpTexts.{back_is, text_is_back, handed_is, text_is_handed}
use Rattle.line_fields.proofs.laws.jumps_are_read.Goals as goal

pub returns-clause-backs : goal.returns-clause-backs
returns-clause-backs c = λ b text. (back_is b text, text_is_back b text)

pub returns-clause-pairs : goal.returns-clause-pairs
returns-clause-pairs c = λ p text. (handed_is p text, text_is_handed p text)
