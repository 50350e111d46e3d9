use Rattle.std.proofs.Common.{refl}
use Rattle.std.specs.Prelude.{Ok, Err}
use Rattle.command_words.specs.Answers.{answer}
use Rattle.draw_call.proofs.top.answer.Goals as goal

pub returns-in-Ok : goal.returns-in-Ok
returns-in-Ok g c =
    answer (Ok c.in-Ok.svg) _ (g.F.Files.seen c.picture_of.new.files) c.in-Ok.ensures refl c.give.ensures

pub returns-in-Err-Refused : goal.returns-in-Err-Refused
returns-in-Err-Refused g c =
    let seen = g.F.Files.seen c.picture_of.new.files in
    answer (Err c.in-Err-Refused.why) _ seen (rw c.in-Err-Refused.field-0-is at c.in-Err-Refused.ensures) refl
    (c.refuse.ensures c.args.call.now.out seen)
