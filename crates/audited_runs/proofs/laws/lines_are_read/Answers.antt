use Rattle.audited_runs.proofs.Spelled.{fitting_have_texts}
use Rattle.audited_runs.proofs.AllSpelled.{lines_are_read}
use Rattle.audited_runs.proofs.laws.lines_are_read.Goals as goal

pub returns-clause-exact : goal.returns-clause-exact
returns-clause-exact c = lines_are_read

pub returns-clause-fitting : goal.returns-clause-fitting
returns-clause-fitting c = fitting_have_texts
