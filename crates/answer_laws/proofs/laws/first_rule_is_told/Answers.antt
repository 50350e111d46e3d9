use Rattle.link_tool.proofs.Offers.{linked_is}
use Rattle.answer_laws.proofs.laws.first_rule_is_told.Goals as goal

pub returns : goal.returns
returns c = linked_is
