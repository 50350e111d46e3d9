use Rattle.command_words.specs.Handed.{called}
use Rattle.stk.proofs.status.Goals as goal

pub returns-in-Ok : goal.returns-in-Ok
returns-in-Ok g c = called c.in-Ok.words.items c.in-Ok.ensures.words c.answered.ensures
