use Rattle.callback_instance.proofs.CallersFirst.{callers_go as answer}
use Rattle.callback_instance.proofs.laws.callers_let_go.Goals as goal

pub returns : goal.returns
returns c = answer c.same_meanings_are_not_told_apart.ensures
