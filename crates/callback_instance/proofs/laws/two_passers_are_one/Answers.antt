use Rattle.callback_instance.proofs.Apart.{two_passers as answer}
use Rattle.callback_instance.proofs.laws.two_passers_are_one.Goals as goal

pub returns : goal.returns
returns c = answer c.same_meanings_are_not_told_apart.ensures c.same_meanings_end_alike.ensures
