use Rattle.std.proofs.Common.{sym, subst, ◌≡◌}
use Rattle.std.specs.Prelude.{Ok, Err}
use Rattle.file_plans.specs.declared.refusal.Refusal.TheVariants.{Rule}
use Rattle.linked_starts.specs.LinkedStarts.{IsStartOf}
use Rattle.link_tool.specs.Parts.{linked}
use Rattle.linked_starts.proofs.Offers.{keeps_all}
use Rattle.linked_starts.specs.Standing.{placed}
use Rattle.file_plans.proofs.Offers.{unless_made, unless_ended}
use Rattle.link_tool.proofs.FirstOf.{linked_none, linked_broken}
use Rattle.link_tool.proofs.starts.start_of.Goals as goal

pub returns-in-Ok-clause-rules : goal.returns-in-Ok-clause-rules
returns-in-Ok-clause-rules c =
    unless_made Rule (linked c.args.parts.now c.args.size) tt
    (sym (subst (λ ps. linked ps c.args.size ≡ Ok tt) c.as_slice.ensures
    (linked_none c.as_slice.result.now c.args.size
    (keeps_all (placed c.as_slice.result.now c.args.size) c.args.size c.in-Ok.ensures.room
    c.in-Ok.ensures.rules))))

pub returns-in-Err-Rule-clause-rules : goal.returns-in-Err-Rule-clause-rules
returns-in-Err-Rule-clause-rules c =
    unless_ended Rule (linked c.args.parts.now c.args.size) c.in-Err-Rule.broken
    (sym (subst (λ ps. linked ps c.args.size ≡ Err c.in-Err-Rule.broken) c.as_slice.ensures
    (linked_broken c.as_slice.result.now c.args.size _ c.in-Err-Rule.broken c.in-Err-Rule.field-0-is
    c.in-Err-Rule.ensures)))

pub returns-in-Ok-clause-linked : goal.returns-in-Ok-clause-linked
returns-in-Ok-clause-linked c =
    subst (λ ps. IsStartOf ps c.args.size c.in-Ok.start) c.as_slice.ensures
    (record {
      accepted = c.in-Ok.ensures.accepted;
      room = c.in-Ok.ensures.room;
      rules = c.in-Ok.ensures.rules;
      starts = c.in-Ok.ensures.starts;
    })
