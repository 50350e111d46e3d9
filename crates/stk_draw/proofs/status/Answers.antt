use Rattle.command_words.specs.Handed.{called}
use Rattle.stk_draw.proofs.status.Goals as goal

pub returns-in-Ok : goal.returns-in-Ok
returns-in-Ok g c =
    called c.in-Ok.words.items c.in-Ok.ensures.words (rw c.deref.ensures.value at c.answered.ensures)
