-- What a step answers that went, and one of a machine that has ended.
use Rattle.std.proofs.Common.{◌≡◌, ℕ, sym, ap, subst, ◌∙◌, Option, Some, None}
use Rattle.std.specs.Prelude.{IfSome}
use Rattle.trusted_border.specs.declared.layout.Layout.{Layout}
use Rattle.trusted_border.specs.declared.events.Event.{Event}
use Rattle.overlay_machine.specs.declared.cases.Case.{Case}
use Rattle.overlay_machine.specs.declared.machine.Machine.{Machine}
use Rattle.overlay_machine.specs.declared.machine.Outcome.{Outcome}
use Rattle.overlay_machine.specs.declared.machine.Outcome.TheVariants.{Went, Halted, Failed}
use Rattle.overlay_machine.specs.declared.overlay.OEnd.{OEnd}
use Rattle.overlay_machine.specs.declared.overlay.OStep.{OStep}
use Rattle.overlay_machine.specs.declared.overlay.OStep.TheVariants.{Went as StepWent}
use Rattle.overlay_machine.specs.Step.{Ending, goes, halts, fails, case_of, step_by, overlay_step}
use Rattle.overlay_machine.specs.Events.{note_by, event_after, step_event}
use Rattle.overlay_machine.specs.Machine.{overlay_of, Ends}
use Rattle.overlay_machine.specs.Seen.{OverlaySeen, ending_answer, end_answer, answer_by, answer_of, next_by}
use Rattle.overlay_machine.specs.Seen.{next_overlay}

abbrev seen : Layout → Machine → ℕ → OverlaySeen
seen l m w = record { layout = l; state = overlay_of m; weight = w; end = None }

ended-answer : (l : Layout) (m new : Machine) (w : ℕ) (r : Outcome) (x : Ending) → Ends x r m new → r ≡ Went
    → ending_answer (seen l m w) x ≡ StepWent (step_event l (overlay_of m) (overlay_of new))
ended-answer l m new w r (goes q) h e = ap (λ y. StepWent (step_event l (overlay_of m) y)) (sym h.1)
ended-answer l m new w r halts h e = absurd (let k : Went ≡ Halted = sym e ∙ h.0 in cc)
ended-answer l m new w r fails h e = absurd (let k : Went ≡ Failed = sym e ∙ h.0 in cc)

pub went-answer : (l : Layout) (m new : Machine) (w : ℕ) (r : Outcome) (k : Case) (e : Option Event)
    → k ≡ case_of l m.maps → Ends (step_by l k (overlay_of m)) r m new → r ≡ Went
    → e ≡ event_after l (note_by l (overlay_of m) k) (overlay_of new) → StepWent e ≡ answer_of (seen l m w)
unfolding answer_of overlay_step step_event
went-answer l m new w r k e is ends went told =
    ap StepWent (told ∙ ap (λ c. event_after l (note_by l (overlay_of m) c) (overlay_of new)) is)
    ∙ sym (ended-answer l m new w r (step_by l (case_of l m.maps) (overlay_of m))
    (subst (λ c. Ends (step_by l c (overlay_of m)) r m new) is ends) went)

-- a machine that has ended answers that end again, and stays as it is
pub stays_ended : (o new : OverlaySeen) (r : OStep) → new ≡ next_overlay o → r ≡ answer_of o
    → IfSome o.end (λ e. (r ≡ end_answer e) × (new ≡ o))
unfolding next_overlay answer_of
stays_ended o new r after answer = by_end o.end after answer
  where
    by_end : (end : Option OEnd) → new ≡ next_by end o → r ≡ answer_by end o
        → IfSome end (λ e. (r ≡ end_answer e) × (new ≡ o))
    by_end None after answer = tt
    by_end (Some e) after answer = (answer, after)
