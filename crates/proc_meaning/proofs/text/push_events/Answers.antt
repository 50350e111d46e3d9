use Rattle.std.proofs.Common.{◌++◌, ap, ◌∙◌}
use Rattle.std.proofs.lemmas.List.{take_all}
use Rattle.proc_meaning.specs.Text.{event_text, events_text}
use Rattle.proc_meaning.proofs.Lines.{text_more}
use Rattle.proc_meaning.proofs.text.push_events.Goals as goal

pub loop-event-preserved : goal.loop-event-preserved
loop-event-preserved c =
    text_more event_text c.args.events.now c.loop-event.event-index c.event-item.result c.args.text.now.items
    _ _ c.loop-event-test.true c.loop-event.invariant
    (c.in_ok-push_event.ensures ∙ ap (λ e. c.loop-event.text.items ++ event_text e) c.event-item.is)

pub returns : goal.returns
returns c =
    c.loop-event.invariant
    ∙ ap (λ es. c.args.text.now.items ++ events_text es)
    (take_all _ c.args.events.now c.loop-event-test.false)
