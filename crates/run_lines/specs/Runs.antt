-- The lines and the text of a plain run.
use Rattle.std.specs.Prelude.{◌≡◌, ◌⊎◌, ◌≤◌, ℕ, zero, suc, ◌++◌, Bool, false, List, [], ◌∷◌, Option, None}
use Rattle.outside_io.specs.SinkSeen.{SinkSeen, Adds, FailsToWrite}
use Rattle.outside_io.specs.Writes.{AddsPieces, FailsAtPiece}
use Rattle.lcm_machine.specs.declared.Step.{Step}
use Rattle.lcm_machine.specs.declared.Step.TheVariants.{Went, Halted, Failed}
use Rattle.lcm_machine.specs.Run.{Run, next_state, plain, answer}
use Rattle.linked_starts.specs.Started.{StartSeen}
use Rattle.trusted_border.specs.declared.layout.Layout.{Layout}
use Rattle.trusted_border.specs.declared.events.Event.{Event}
use Rattle.run_lines.specs.declared.run.RunEnd.{RunEnd}
use Rattle.run_lines.specs.declared.run.RunEnd.TheVariants.{Halted as RunHalted, Failed as RunFailed}
use Rattle.run_lines.specs.declared.run.RunEnd.TheVariants.{Running, WriteFault}
use Rattle.run_lines.specs.Layout.{layout}
use Rattle.run_lines.specs.Views.{view_of}
use Rattle.run_lines.specs.Events.{noted, inward_after, event_after}
use Rattle.run_lines.specs.Lines.{Line, lines_for}
use Rattle.run_lines.specs.Texts.{lines_text, lines_pieces}
use Rattle.run_lines.specs.EndLines.{end_line}

-- ---- lines

-- a run, and whether the last `xjmp` that went stood in trusted code
pub record Watched : Type 0 where
  pub run : Run
  pub inward : Bool

abbrev pub begun : Run → Watched
begun r = record { run = r; inward = false }

abbrev pub watching : StartSeen → Bool → Watched
watching start inward = record { run = start.state; inward = inward }

-- by what a step answered: it went, or the machine has ended
abbrev pub if_went : {A : Type 0} → Step → A → A → A
if_went Went went other = went
if_went Halted went other = other
if_went (Failed cause at) went other = other

abbrev pub watched_next : Layout → Watched → Watched
watched_next l w = record {
  run = next_state w.run;
  inward = if_went (answer (next_state w.run)) (inward_after (noted l w.run.maps) w.inward) w.inward;
}

abbrev pub event_next : Layout → Watched → Option Event
event_next l w =
    if_went (answer (next_state w.run))
    (event_after l (noted l w.run.maps) w.inward (view_of (next_state w.run).maps)) None

-- the lines of the next instruction
unfoldable pub line_next : Layout → Watched → List Line
line_next l w = lines_for l (view_of (next_state w.run).maps) (event_next l w)

-- after n instructions, or at the end if it comes before
abbrev pub watched : Layout → Watched → ℕ → Watched
watched l w zero = w
watched l w (suc n) = watched_next l (watched l w n)

-- and the lines up to there
abbrev pub lines_of : Layout → Watched → ℕ → List Line
lines_of l w zero = []
lines_of l w (suc n) = lines_of l w n ++ line_next l (watched l w n)

-- the event lines that are written of so many instructions of a start
abbrev pub written : StartSeen → ℕ → List Line
written s n = lines_of (layout s) (begun s.state) n

-- the text of a run: its lines, and the end line
unfoldable pub run_text : Layout → Run → ℕ → List ℕ
run_text l r n = lines_text (lines_of l (begun r) n) ++ end_line (plain n r)

-- and the pieces in which it is written: those of its lines, and the end line
unfoldable pub run_pieces : Layout → Run → ℕ → List (List ℕ)
run_pieces l r n = lines_pieces (lines_of l (begun r) n) ++ end_line (plain n r) ∷ []

-- ---- what `run_plain` does

abbrev pub end_of : Step → RunEnd
end_of Went = Running
end_of Halted = RunHalted
end_of (Failed cause at) = RunFailed

-- all instructions were made, or all up to the end, and the whole text is written, piece by piece
pub record RunsTo (old : StartSeen) (steps : ℕ) (sink : SinkSeen) (new : StartSeen) (after : SinkSeen)
    (result : RunEnd) : Type 0 where
  pub is : result ≡ end_of (answer (plain steps old.state))
  pub state : new ≡ record old { state = plain steps old.state }
  pub text : Adds sink (run_text (layout old) old.state steps) after
  pub pieces : AddsPieces sink (run_pieces (layout old) old.state steps) after

-- some pieces were written, and then, after them, one of others failed
abbrev pub FailsAfterPieces : SinkSeen → List (List ℕ) → List (List ℕ) → SinkSeen → Type 0
FailsAfterPieces old pieces more new = (mid : SinkSeen) × AddsPieces old pieces mid
    × FailsAtPiece mid more new

-- after n instructions: those before the last one have their lines, and the write of its own failed; or all
-- lines stand, there are no more instructions to make, and the write of the end line failed
abbrev pub FaultAt : Layout → Run → ℕ → SinkSeen → ℕ → SinkSeen → Type 0
FaultAt l r steps sink n after =
    ((k : ℕ) × (n ≡ suc k)
    × FailsAfterPieces sink (lines_pieces (lines_of l (begun r) k))
    (lines_pieces (line_next l (watched l (begun r) k))) after)
    ⊎ ((plain n r ≡ plain steps r)
    × FailsAfterPieces sink (lines_pieces (lines_of l (begun r) steps)) (end_line (plain steps r) ∷ []) after)

-- a write failed: the run stopped there, after some of the instructions, and a front of the text stands
pub record RunFaults (old : StartSeen) (steps : ℕ) (sink : SinkSeen) (new : StartSeen) (after : SinkSeen)
    : Type 0 where
  pub made : (n : ℕ) × (n ≤ steps) × (new ≡ record old { state = plain n old.state })
  pub at : FaultAt (layout old) old.state steps sink made.0 after
  pub text : FailsToWrite sink (run_text (layout old) old.state steps) after

abbrev pub Runs : StartSeen → ℕ → SinkSeen → StartSeen → SinkSeen → RunEnd → Type 0
Runs old steps sink new after WriteFault = RunFaults old steps sink new after
Runs old steps sink new after result = RunsTo old steps sink new after result

-- a last line was written in one piece, with this end, or its write failed
abbrev pub EndsBy : SinkSeen → List ℕ → RunEnd → SinkSeen → RunEnd → Type 0
EndsBy old line end new result =
    ((result ≡ end) × AddsPieces old (line ∷ []) new)
    ⊎ ((result ≡ WriteFault) × FailsAtPiece old (line ∷ []) new)
