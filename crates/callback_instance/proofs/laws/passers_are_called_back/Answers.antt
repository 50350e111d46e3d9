use Rattle.callback_instance.proofs.Round.{passers_call_back as answer}
use Rattle.callback_instance.proofs.laws.passers_are_called_back.Goals as goal

pub returns : goal.returns
returns c = answer c.same_meanings_are_not_told_apart.ensures
