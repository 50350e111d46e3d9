-- A trace and a plain run of as many instructions write the same lines.
use Rattle.std.proofs.Common.{◌≡◌, ◌⊎◌, inl, inr, ℕ, ◌+◌, ◌<◌, ◌≤◌, None, sym}
use Rattle.cap_words.specs.declared.Word.{Word}
use Rattle.lcm_machine.specs.Maps.{State}
use Rattle.lcm_machine.specs.Run.{fresh}
use Rattle.overlay_machine.specs.Step.{weight_of}
use Rattle.overlay_machine.specs.Seen.{OverlaySeen}
use Rattle.run_lines.specs.Told.{Told, EndsOverlay}
use Rattle.run_lines.specs.Runs.{begun, lines_of}
use Rattle.run_lines.specs.Traces.{trace_of}
use Rattle.headline.specs.Alike.{LinesAgree}
use Rattle.run_lines.proofs.Offers.{trace_stands}

pub traces_alike : (o : OverlaySeen) (t : State Word) → LinesAgree o.layout o.state t → o.end ≡ None
    → o.weight ≡ 0 → (limit : ℕ) → (trace_of limit o).lines ≡ lines_of o.layout (begun (fresh t)) limit
traces_alike o t agree none unmoved limit =
    let s = trace_stands o none unmoved limit in
    by (s.0) (s.1) (s.2.0) (s.2.1)
  where
    by : (j : ℕ) → Told o.layout o.state j (trace_of limit o).lines (trace_of limit o).overlay.state
        → j ≤ limit
        → (limit < j + weight_of o.layout (trace_of limit o).overlay.state)
        ⊎ EndsOverlay o.layout (trace_of limit o).overlay.state
        → (trace_of limit o).lines ≡ lines_of o.layout (begun (fresh t)) limit
    by j told within (inl past) =
        sym (agree.between j limit (trace_of limit o).lines (trace_of limit o).overlay.state told within past)
    by j told within (inr ends) =
        sym (agree.ended j limit (trace_of limit o).lines (trace_of limit o).overlay.state told within ends)
