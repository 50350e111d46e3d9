use Rattle.linked_starts.proofs.Accepted.{accepted_is}
use Rattle.linked_starts.proofs.laws.first_rule_is_told.Goals as goal

pub returns : goal.returns
returns c = accepted_is
