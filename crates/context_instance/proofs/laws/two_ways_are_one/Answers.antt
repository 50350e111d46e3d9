use Rattle.context_instance.proofs.Apart.{two_ways as answer}
use Rattle.context_instance.proofs.laws.two_ways_are_one.Goals as goal

pub returns : goal.returns
returns c = answer c.same_meanings_are_not_told_apart.ensures c.same_meanings_end_alike.ensures
