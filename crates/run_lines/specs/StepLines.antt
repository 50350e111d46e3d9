-- What lines one step has, and that the lines of runs are those of steps.
use Rattle.std.specs.Prelude.{ℕ, List, [], ◌∷◌, ◌++◌, Option}
use Rattle.cap_words.specs.declared.Word.{Word}
use Rattle.trusted_border.specs.declared.layout.Layout.{Layout}
use Rattle.trusted_border.specs.declared.events.Event.{Event}
use Rattle.overlay_machine.specs.State.{OState}
use Rattle.source_events.specs.declared.FeedBack.{FeedBack}
use Rattle.source_events.specs.declared.FeedPair.{FeedPair}
use Rattle.run_lines.specs.Views.{View}
use Rattle.run_lines.specs.Lines.{Args, Line, enter, pass, lines_for}
use Rattle.run_lines.specs.Runs.{Watched, lines_of}
use Rattle.run_lines.specs.Told.{Told}

abbrev pub IsNoPass : Line → Type 0
IsNoPass (pass p0 p1 p2) = ⊥
IsNoPass _ = Unit {0}

-- none, one that is no pass line, or an enter line with a pass line right after it
pub data AreOfStep : List Line → Type 0 where
  none_told : AreOfStep []
  one_told : {x : Line} → IsNoPass x → AreOfStep (x ∷ [])
  pass_told : {part export : List ℕ} {stk : Word} {args : Args} {back : FeedBack} {p0 p1 p2 : FeedPair}
      → AreOfStep (enter part export stk args back ∷ pass p0 p1 p2 ∷ [])

-- those of steps, one after the other
pub data AreOfSteps : List Line → Type 0 where
  no_step : AreOfSteps []
  and_step : {ls more : List Line} → AreOfSteps ls → AreOfStep more → AreOfSteps (ls ++ more)

-- ---- laws

abbrev pub StepsTellSo : Type 0
StepsTellSo = (l : Layout) (v : View) (e : Option Event) → AreOfStep (lines_for l v e)

-- of the plain run
abbrev pub RunsAreOfSteps : Type 0
RunsAreOfSteps = (l : Layout) (w : Watched) (n : ℕ) → AreOfSteps (lines_of l w n)

-- and of the overlay's
abbrev pub ToldAreOfSteps : Type 0
ToldAreOfSteps = (l : Layout) (o p : OState) (j : ℕ) (ls : List Line) → Told l o j ls p → AreOfSteps ls
