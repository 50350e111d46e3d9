use Rattle.std.proofs.Common.{ap, ◌∙◌}
use Rattle.overlay_machine.specs.Events.{event_after}
use Rattle.overlay_machine.specs.Machine.{overlay_of}
use Rattle.overlay_machine.proofs.StepLemmas.{went-answer}
use Rattle.overlay_machine.proofs.overlay.Overlay.advance.Goals as goal

pub returns-in-Went-clause-answer : goal.returns-in-Went-clause-answer
returns-in-Went-clause-answer c =
    let i = c.self.inside in
    let told =
    c.event.ensures ∙ ap (λ n. event_after i.layout n (overlay_of c.step.new.self)) c.note-note.ensures in
    let a = went-answer i.layout i.machine c.step.new.self i.weight c.step.result c.next_case-case.result
    c.event.result c.next_case-case.ensures.is c.step.ensures.ends c.in-Went.is told in
    rw (← c.self.view_is) (rw c.in_default.is a)
