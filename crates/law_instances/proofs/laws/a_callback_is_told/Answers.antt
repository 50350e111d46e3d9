use Rattle.law_instances.proofs.Callback.{callback_told}
use Rattle.law_instances.proofs.laws.a_callback_is_told.Goals as goal

pub returns : goal.returns
returns c = callback_told c.sources_show_nothing_else.ensures c.passers_are_called_back.ensures
