-- The last line of a trace is one line, and a feed's reader passes it over.
use Rattle.std.proofs.Common.{ℕ, zero, suc, ◌+◌, Bool, true, false}
use Rattle.std.specs.Prelude.{nat_lt, if◌then◌else◌}
use Rattle.overlay_machine.specs.declared.overlay.OStep.{OStep}
use Rattle.overlay_machine.specs.declared.overlay.OStep.TheVariants.{Went, Halted, Failed}
use Rattle.overlay_machine.specs.Seen.{OverlaySeen, next_overlay, answer_of}
use Rattle.run_lines.specs.Views.{overlay_view}
use Rattle.run_lines.specs.Traces.{Traced, weight_with, stopped, traced_by, traced, trace_of}
use Rattle.audited_runs.proofs.EndLinesSeen.{IsPassedOver, halted_is, running_is, failed_is}

abbrev Ends : Traced → Type 0
Ends t = IsPassedOver t.last

stopped_ends : (o : OverlaySeen) → Ends (stopped o)
stopped_ends o = (_, running_is (overlay_view o) o.weight)

step_ends : (e : OStep) (o : OverlaySeen) (more : OverlaySeen → Traced) → ((p : OverlaySeen) → Ends (more p))
    → Ends (traced_by e o more)
step_ends (Went event) o more h = h (next_overlay o)
step_ends Halted o more h = (_, halted_is (overlay_view (next_overlay o)) (weight_with o))
step_ends Failed o more h = (_, failed_is (overlay_view (next_overlay o)) o.weight)

either_ends : (b : Bool) (t u : Traced) → Ends t → Ends u → Ends (if b then t else u)
either_ends true t u h k = h
either_ends false t u h k = k

traced_ends : (limit n : ℕ) (o : OverlaySeen) → Ends (traced limit n o)
traced_ends limit zero o = stopped_ends o
traced_ends limit (suc n) o =
    either_ends (nat_lt limit (weight_with o)) (stopped o) (traced_by (answer_of o) o (traced limit n))
    (stopped_ends o) (step_ends (answer_of o) o (traced limit n) (λ p. traced_ends limit n p))

pub trace_ends : (limit : ℕ) (o : OverlaySeen) → Ends (trace_of limit o)
trace_ends limit o = traced_ends limit (limit + 1) o
