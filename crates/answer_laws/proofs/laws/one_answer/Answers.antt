use Rattle.answer_laws.proofs.OneAnswer.{one_answer}
use Rattle.answer_laws.proofs.laws.one_answer.Goals as goal

pub returns : goal.returns
returns c = one_answer c.reports_are_one.ensures.text
