use Rattle.line_fields.proofs.WordTexts.{word_is, text_is_word}
use Rattle.line_fields.proofs.laws.words_are_read.Goals as goal

pub returns : goal.returns
returns c = λ w text. (word_is w text, text_is_word w text)
