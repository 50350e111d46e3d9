use Rattle.std.proofs.Common.{refl}
use Rattle.command_words.specs.Answers.{unput}
use Rattle.draw_call.proofs.top.give.Goals as goal

pub returns-in-Err : goal.returns-in-Err
returns-in-Err g c = unput _ refl (rw c.as_str.ensures.same at c.in-Err.ensures.err) refl refl refl
