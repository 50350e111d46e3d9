use Rattle.std.proofs.Common.{subst}
use Rattle.run_picture.specs.Picture.{drawn}
use Rattle.command_words.specs.Plans.{Meets}
use Rattle.command_words.proofs.Offers.{read_meets}
use Rattle.draw_call.specs.Answers.{picture_plan}
use Rattle.draw_call.proofs.drawing.picture_of.Goals as goal

pub returns-in-Ok : goal.returns-in-Ok
returns-in-Ok g c =
    read_meets c.args.call.now.feed 0 (λ text. picture_plan (drawn text)) _ _ c.in-Ok.text.items
    c.picture.result (rw c.as_str.ensures.same at c.in-Ok.ensures.ok)
    (subst (λ text. Meets (picture_plan (drawn text)) c.picture.result) c.deref.ensures.value
    c.picture.ensures)
