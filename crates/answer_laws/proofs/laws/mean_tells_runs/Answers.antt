use Rattle.answer_laws.proofs.SourceTexts.{mean_tells}
use Rattle.answer_laws.proofs.laws.mean_tells_runs.Goals as goal

pub returns : goal.returns
returns c = mean_tells
