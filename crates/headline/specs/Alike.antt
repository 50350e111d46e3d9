-- The event lines of a plain run, and those of the overlay's steps beside it.
use Rattle.std.specs.Prelude.{◌≡◌, ℕ, ◌+◌, ◌≤◌, ◌<◌, List}
use Rattle.cap_words.specs.declared.Word.{Word}
use Rattle.lcm_machine.specs.Maps.{State}
use Rattle.lcm_machine.specs.Run.{fresh}
use Rattle.linked_starts.specs.Parts.{PartSeen}
use Rattle.linked_starts.specs.Started.{StartSeen}
use Rattle.linked_starts.specs.LinkedStarts.{IsLinkedStart}
use Rattle.trusted_border.specs.declared.layout.Layout.{Layout}
use Rattle.overlay_machine.specs.State.{OState}
use Rattle.overlay_machine.specs.Step.{weight_of}
use Rattle.overlay_machine.specs.Link.{Link}
use Rattle.overlay_machine.specs.Linked.{IsLink}
use Rattle.overlay_machine.specs.Invariant.{Invariant}
use Rattle.overlay_machine.specs.Starting.{overlay_at}
use Rattle.run_lines.specs.Layout.{layout}
use Rattle.run_lines.specs.Lines.{Line}
use Rattle.run_lines.specs.Runs.{begun, lines_of}
use Rattle.run_lines.specs.Traces.{trace_of}
use Rattle.run_lines.specs.Told.{Told, EndsOverlay}

-- The plain run of a state writes the lines of the overlay's steps. At a matched point it has written those
-- of the steps up to there. After it, it writes none until the weight of the next step is full, and none at
-- all where that step ends the overlay.
pub record LinesAgree (l : Layout) (o : OState) (t : State Word) : Type 0 where
  pub matched : (j : ℕ) (ls : List Line) (p : OState) → Told l o j ls p → lines_of l (begun (fresh t)) j ≡ ls
  pub between : (j n : ℕ) (ls : List Line) (p : OState) → Told l o j ls p → j ≤ n → n < j + weight_of l p
      → lines_of l (begun (fresh t)) n ≡ ls
  pub ended : (j n : ℕ) (ls : List Line) (p : OState) → Told l o j ls p → j ≤ n → EndsOverlay l p
      → lines_of l (begun (fresh t)) n ≡ ls

-- ---- of linked parts

-- so it is where the invariant holds
abbrev pub LinkedLinesAgree : Type 0
LinkedLinesAgree =
    (g : Link) (o : OState) (t : State Word) → IsLink g → Invariant g o t → LinesAgree g.layout o t

-- and so it is from every linked start
abbrev pub StartLinesAgree : Type 0
StartLinesAgree =
    (parts : List PartSeen) (size : ℕ) (s : StartSeen) → IsLinkedStart parts size s
    → LinesAgree (layout s) (overlay_at s).state s.state.maps

-- a trace of the overlay up to a limit writes the lines of the plain run of so many instructions
abbrev pub TracesAlike : Type 0
TracesAlike =
    (parts : List PartSeen) (size : ℕ) (s : StartSeen) → IsLinkedStart parts size s → (limit : ℕ)
    → (trace_of limit (overlay_at s)).lines ≡ lines_of (layout s) (begun s.state) limit
