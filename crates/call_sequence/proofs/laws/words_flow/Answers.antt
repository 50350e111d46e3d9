use Rattle.call_sequence.proofs.LocalFacts.{word_flows}
use Rattle.call_sequence.proofs.laws.words_flow.Goals as goal

pub returns : goal.returns
returns c = word_flows
