use Rattle.std.proofs.Common.{◌≡◌, ◌++◌, take}
use Rattle.proc_meaning.specs.Text.{events_text}
use Rattle.proc_meaning.proofs.text.push_events.Given as goal

abbrev pub invariant-loop-event : goal.invariant-loop-event
invariant-loop-event l = l.text.items ≡ l.fn.text.items ++ events_text (take l.event-index l.events)
