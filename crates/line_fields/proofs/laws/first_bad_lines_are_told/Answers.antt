use Rattle.line_fields.proofs.FirstBad.{told_first, first_told, fed_good, good_fed}
use Rattle.line_fields.proofs.laws.first_bad_lines_are_told.Goals as goal

pub returns-clause-told : goal.returns-clause-told
returns-clause-told c = λ base n text. (told_first base n text, first_told base n text)

pub returns-clause-others : goal.returns-clause-others
returns-clause-others c = λ base text. (fed_good base text, good_fed base text)
