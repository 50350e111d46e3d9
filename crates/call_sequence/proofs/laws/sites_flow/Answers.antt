use Rattle.call_sequence.proofs.LocalFacts.{site_flows}
use Rattle.call_sequence.proofs.laws.sites_flow.Goals as goal

pub returns : goal.returns
returns c = site_flows
