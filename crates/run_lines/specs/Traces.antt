-- The lines and the text of an overlay's run.
use Rattle.std.specs.Prelude.{◌≡◌, ◌⊎◌, ◌≤◌, ℕ, zero, suc, ◌+◌, ◌++◌, nat_lt, List, [], ◌∷◌, Option}
use Rattle.std.specs.Prelude.{if◌then◌else◌, None}
use Rattle.outside_io.specs.SinkSeen.{SinkSeen, Adds, FailsToWrite}
use Rattle.outside_io.specs.Writes.{AddsPieces}
use Rattle.trusted_border.specs.declared.events.Event.{Event}
use Rattle.overlay_machine.specs.declared.overlay.OStep.{OStep}
use Rattle.overlay_machine.specs.declared.overlay.OStep.TheVariants.{Went, Halted, Failed}
use Rattle.overlay_machine.specs.Step.{weight_of}
use Rattle.overlay_machine.specs.Seen.{OverlaySeen, next_overlay, answer_of}
use Rattle.run_lines.specs.declared.run.RunEnd.{RunEnd}
use Rattle.run_lines.specs.declared.run.RunEnd.TheVariants.{Halted as RunHalted, Failed as RunFailed}
use Rattle.run_lines.specs.declared.run.RunEnd.TheVariants.{Running, WriteFault}
use Rattle.run_lines.specs.Runs.{FailsAfterPieces}
use Rattle.run_lines.specs.Views.{overlay_view}
use Rattle.run_lines.specs.Lines.{Line, lines_for}
use Rattle.run_lines.specs.Texts.{lines_text, lines_pieces}
use Rattle.run_lines.specs.EndLines.{halted_text, failed_text, running_text}

-- ---- a run

-- the weight of the steps that went, with that of the next one
abbrev pub weight_with : OverlaySeen → ℕ
weight_with o = o.weight + weight_of o.layout o.state

-- the lines of a step, by its event, their words read from the overlay after it
abbrev pub lines_after : OverlaySeen → Option Event → List Line
lines_after o event = lines_for o.layout (overlay_view o) event

-- how a run goes on: its lines, and then how it ends, at which weight of steps that went, with the overlay
-- and the last line
pub record Traced : Type 0 where
  pub lines : List Line
  pub end : RunEnd
  pub at : ℕ
  pub overlay : OverlaySeen
  pub last : List ℕ

abbrev pub ended : RunEnd → ℕ → OverlaySeen → List ℕ → Traced
ended end at o last = record { lines = []; end = end; at = at; overlay = o; last = last }

abbrev pub behind : List Line → Traced → Traced
behind lines t = record t { lines = lines ++ t.lines }

-- before a step that would take the weight past the limit
abbrev pub stopped : OverlaySeen → Traced
stopped o = ended Running o.weight o (running_text (overlay_view o) o.weight)

-- A run of n steps at most: each has some weight, so limit + 1 are enough. A halt counts its step, a failure
-- doesn't.
abbrev pub traced_by : OStep → OverlaySeen → (OverlaySeen → Traced) → Traced
traced_by (Went event) o more = behind (lines_after (next_overlay o) event) (more (next_overlay o))
traced_by Halted o more =
    ended RunHalted o.weight (next_overlay o) (halted_text (overlay_view (next_overlay o)) (weight_with o))
traced_by Failed o more =
    ended RunFailed o.weight (next_overlay o) (failed_text (overlay_view (next_overlay o)) o.weight)

abbrev pub traced : ℕ → ℕ → OverlaySeen → Traced
traced limit zero o = stopped o
traced limit (suc n) o =
    if nat_lt limit (weight_with o) then stopped o else traced_by (answer_of o) o (traced limit n)

abbrev pub trace_of : ℕ → OverlaySeen → Traced
trace_of limit o = traced limit (limit + 1) o

abbrev pub text_of : Traced → List ℕ
text_of t = lines_text t.lines ++ t.last

-- its text: its lines, and the last one
abbrev pub trace_text : ℕ → OverlaySeen → List ℕ
trace_text limit o = text_of (trace_of limit o)

-- and the pieces in which it is written
abbrev pub pieces_of : Traced → List (List ℕ)
pieces_of t = lines_pieces t.lines ++ t.last ∷ []

abbrev pub trace_pieces : ℕ → OverlaySeen → List (List ℕ)
trace_pieces limit o = pieces_of (trace_of limit o)

-- after n steps, and the lines of these
abbrev pub steps_on : ℕ → OverlaySeen → OverlaySeen
steps_on zero o = o
steps_on (suc n) o = next_overlay (steps_on n o)

abbrev pub event_in : OStep → Option Event
event_in (Went event) = event
event_in Halted = None
event_in Failed = None

abbrev pub next_lines : OverlaySeen → List Line
next_lines o = lines_after (next_overlay o) (event_in (answer_of o))

abbrev pub steps_lines : ℕ → OverlaySeen → List Line
steps_lines zero o = []
steps_lines (suc n) o = steps_lines n o ++ next_lines (steps_on n o)

-- ---- what `run_overlay` does

-- the run was made, and the whole text is written, piece by piece
pub record TracesTo (limit : ℕ) (old : OverlaySeen) (sink : SinkSeen) (new : OverlaySeen) (after : SinkSeen)
    (result : RunEnd) : Type 0 where
  pub is : result ≡ (trace_of limit old).end
  pub overlay : new ≡ (trace_of limit old).overlay
  pub text : Adds sink (trace_text limit old) after
  pub pieces : AddsPieces sink (trace_pieces limit old) after

-- after n steps: those before the last one have their lines, and the write of its own failed; or the run was
-- made, all lines stand, and the write of the last one failed
abbrev pub TraceFaultAt : ℕ → OverlaySeen → SinkSeen → ℕ → SinkSeen → Type 0
TraceFaultAt limit o sink n after =
    ((k : ℕ) × (n ≡ suc k)
    × FailsAfterPieces sink (lines_pieces (steps_lines k o)) (lines_pieces (next_lines (steps_on k o))) after)
    ⊎ ((steps_on n o ≡ (trace_of limit o).overlay)
    × FailsAfterPieces sink (lines_pieces (trace_of limit o).lines) ((trace_of limit o).last ∷ []) after)

-- a write failed: the run stopped there, after some steps within the limit, and a front of the text stands
pub record TraceFaults (limit : ℕ) (old : OverlaySeen) (sink : SinkSeen) (new : OverlaySeen)
    (after : SinkSeen)
    : Type 0 where
  pub made : (n : ℕ) × (n ≤ limit) × (new ≡ steps_on n old)
  pub within : new.weight ≤ limit
  pub at : TraceFaultAt limit old sink made.0 after
  pub text : FailsToWrite sink (trace_text limit old) after

abbrev pub Traces : ℕ → OverlaySeen → SinkSeen → OverlaySeen → SinkSeen → RunEnd → Type 0
Traces limit old sink new after WriteFault = TraceFaults limit old sink new after
Traces limit old sink new after result = TracesTo limit old sink new after result
