use Rattle.std.proofs.Common.{◌∙◌, [], refl, sym, subst}
use Rattle.std.specs.Prelude.{Err}
use Rattle.command_words.specs.Answers.{answer}
use Rattle.draw_call.specs.declared.refusal.DrawRefusal.TheVariants.{Usage}
use Rattle.draw_call.specs.Answers.{DrawAnswers, seen_by}
use Rattle.draw_call.proofs.top.draw_main.Goals as goal

pub returns-in-Ok-Some : goal.returns-in-Ok-Some
returns-in-Ok-Some g c =
    let before = seen_by (g.F.Files.seen c.args.files.now) (g.S.Sink.seen c.args.out.now) in
    subst (λ asked. DrawAnswers asked before c.answer.result
    (seen_by (g.F.Files.seen c.answer.new.files) (g.S.Sink.seen c.answer.new.out)))
    (sym c.in-Ok-Some.field-0-is ∙ c.in-Ok-Some.ensures) c.answer.ensures

pub returns-in-Ok-None : goal.returns-in-Ok-None
returns-in-Ok-None g c =
    let files = g.F.Files.seen c.args.files.now in
    subst (λ asked. DrawAnswers asked (seen_by files (g.S.Sink.seen c.args.out.now)) c.refuse.result
    (seen_by files (g.S.Sink.seen c.refuse.new.out)))
    (sym c.in-Ok-None.field-0-is ∙ c.in-Ok-None.ensures)
    (answer (Err Usage) _ files (refl, refl) refl (c.refuse.ensures [] files))
