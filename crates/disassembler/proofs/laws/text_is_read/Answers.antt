use Rattle.disassembler.proofs.Whole.{assembled_again, text_length}
use Rattle.disassembler.proofs.laws.text_is_read.Goals as goal

pub returns-clause-again : goal.returns-clause-again
returns-clause-again c = assembled_again

pub returns-clause-short : goal.returns-clause-short
returns-clause-short c = text_length
