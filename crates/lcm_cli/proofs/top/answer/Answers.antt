use Rattle.std.proofs.Common.{refl}
use Rattle.std.specs.Prelude.{Err}
use Rattle.command_words.specs.Answers.{answer}
use Rattle.lcm_cli.proofs.Given.{they_are_ready, answered}
use Rattle.lcm_cli.proofs.top.answer.Goals as goal

pub give-requires : goal.give-requires
give-requires g c = they_are_ready _ _ _ c.in-Ok.ready c.in-Ok.ensures

pub returns-in-Ok : goal.returns-in-Ok
returns-in-Ok g c = answered _ _ c.in-Ok.ready _ _ _ c.in-Ok.ensures c.give.ensures

pub returns-in-Err-Refused : goal.returns-in-Err-Refused
returns-in-Err-Refused g c = answer (Err c.in-Err-Refused.why) _ _
    (rw c.in-Err-Refused.field-0-is at c.in-Err-Refused.ensures) refl
    (rw c.in-Err-Refused.field-0-is at
    (c.refuse.ensures (g.F.Files.seen c.ready_in.new.files) c.args.kept.now))
