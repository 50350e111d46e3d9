use Rattle.call_sequence.proofs.LocalFacts.{entry_flows}
use Rattle.call_sequence.proofs.laws.entries_flow.Goals as goal

pub returns : goal.returns
returns c = entry_flows
