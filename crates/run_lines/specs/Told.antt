-- The lines of the overlay's steps up to a matched point, and that a trace writes those up to its limit.
use Rattle.std.specs.Prelude.{◌≡◌, ◌⊎◌, ℕ, ◌+◌, ◌≤◌, ◌<◌, ◌++◌, List, [], None}
use Rattle.trusted_border.specs.declared.layout.Layout.{Layout}
use Rattle.overlay_machine.specs.State.{OState}
use Rattle.overlay_machine.specs.Step.{goes, halts, fails, overlay_step, weight_of}
use Rattle.overlay_machine.specs.Events.{step_event}
use Rattle.overlay_machine.specs.Seen.{OverlaySeen}
use Rattle.run_lines.specs.Views.{flat_view}
use Rattle.run_lines.specs.Lines.{Line, lines_for}
use Rattle.run_lines.specs.Traces.{trace_of}

-- the lines of one step, their words read from the overlay after it
abbrev pub step_lines : Layout → OState → OState → List Line
step_lines l o q = lines_for l (flat_view l q) (step_event l o q)

-- from one overlay, at a sum of weights of steps that went, another, with the lines of these steps
pub data Told (l : Layout) (o : OState) : ℕ → List Line → OState → Type 0 where
  none_yet : Told l o 0 [] o
  and_then : {j : ℕ} {ls : List Line} {p q : OState} → Told l o j ls p → overlay_step l p ≡ goes q
      → Told l o (j + weight_of l p) (ls ++ step_lines l p q) q

-- the next step ends the overlay
abbrev pub EndsOverlay : Layout → OState → Type 0
EndsOverlay l p = (overlay_step l p ≡ halts) ⊎ (overlay_step l p ≡ fails)

-- a point is within a limit, and the next step would pass the limit or ends the overlay
abbrev pub StopsAt : Layout → ℕ → ℕ → OState → Type 0
StopsAt l limit j p = (j ≤ limit) × ((limit < j + weight_of l p) ⊎ EndsOverlay l p)

-- the lines of a trace are those of the steps up to the greatest matched point that is at most its limit
abbrev pub TracesSteps : OverlaySeen → Type 0
TracesSteps o =
    o.end ≡ None → o.weight ≡ 0 → (limit : ℕ)
    → (j : ℕ) × Told o.layout o.state j (trace_of limit o).lines (trace_of limit o).overlay.state
    × StopsAt o.layout limit j (trace_of limit o).overlay.state
