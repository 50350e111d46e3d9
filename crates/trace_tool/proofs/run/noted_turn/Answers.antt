use Rattle.std.proofs.Common.{rules, ◌≡◌, ◌∙◌, ℕ, Bool, List, Option, ap, subst}
use Rattle.outside_io.specs.Writes.{AddsPieces, FailsAtPiece}
use Rattle.lcm_machine.specs.declared.Step.TheVariants.{Went}
use Rattle.lcm_machine.specs.Run.{Run, next_state, answer}
use Rattle.linked_starts.specs.Started.{StartSeen}
use Rattle.trusted_border.specs.declared.events.Event.{Event}
use Rattle.run_lines.specs.Layout.{layout}
use Rattle.run_lines.specs.Views.{view_of}
use Rattle.run_lines.specs.Events.{noted, event_after}
use Rattle.run_lines.specs.Lines.{lines_for}
use Rattle.run_lines.specs.Texts.{lines_pieces}
use Rattle.run_lines.specs.Runs.{watching, line_next}
use Rattle.run_lines.proofs.Offers.{event_lines}
use Rattle.trace_tool.proofs.run.noted_turn.Goals as goal

-- what is said of the lines that are shown is said of those of the instruction
told : (start : StartSeen) (inward : Bool) (s shown : Run) (event : Option Event)
    (Says : List (List ℕ) → Type 0)
    → s ≡ next_state start.state → answer s ≡ Went
    → event ≡ event_after (layout start) (noted (layout start) start.state.maps) inward (view_of s.maps)
    → shown ≡ s
    → Says (lines_pieces (lines_for (layout start) (view_of shown.maps) event))
    → Says (lines_pieces (line_next (layout start) (watching start inward)))
told start inward s shown event Says same went e is says =
    subst (λ lines. Says (lines_pieces lines))
    (event_lines (layout start) (watching start inward) s event same went e)
    (subst (λ (r : Run). Says (lines_pieces (lines_for (layout start) (view_of r.maps) event))) is says)

pub returns-in-Ok-clause-line : goal.returns-in-Ok-clause-line
returns-in-Ok-clause-line g c =
    told c.args.start.now c.args.inward.now c.step-step.new.self c.state.result.now c.event_after-event.result
    (λ t. AddsPieces (g.S.Sink.seen c.args.out.now) t (g.S.Sink.seen c.tell.new.out))
    (c.step-step.ensures.after ∙ ap next_state c.state_mut.ensures.value) (search rules) (search rules)
    c.state.ensures c.in-Ok.ensures

pub returns-in-Err-clause-line : goal.returns-in-Err-clause-line
returns-in-Err-clause-line g c =
    told c.args.start.now c.args.inward.now c.step-step.new.self c.state.result.now c.event_after-event.result
    (λ t. FailsAtPiece (g.S.Sink.seen c.args.out.now) t (g.S.Sink.seen c.tell.new.out))
    (c.step-step.ensures.after ∙ ap next_state c.state_mut.ensures.value) (search rules) (search rules)
    c.state.ensures c.in-Err.ensures
