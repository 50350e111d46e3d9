use Rattle.template_runs.proofs.Shared.{shared_alone}
use Rattle.template_runs.proofs.laws.shared_alone_is_entered.Goals as goal

pub returns : goal.returns
returns c = shared_alone
