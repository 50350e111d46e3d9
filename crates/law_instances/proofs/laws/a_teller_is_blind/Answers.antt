use Rattle.law_instances.proofs.BlindRun.{blind_there}
use Rattle.law_instances.proofs.laws.a_teller_is_blind.Goals as goal

pub returns : goal.returns
returns c = blind_there c.reports_bound_influence.ensures.influence
