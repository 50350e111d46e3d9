-- What lines one step has, by its event, and that the lines of runs are those of steps.
use Rattle.std.proofs.Common.{ℕ, zero, suc, Bool, true, false, List, [], ◌∷◌, Some, None}
use Rattle.std.specs.Prelude.{if◌then◌else◌}
use Rattle.cap_words.specs.declared.Word.{Word}
use Rattle.trusted_border.specs.declared.layout.Layout.{Layout}
use Rattle.trusted_border.specs.declared.events.Event.TheVariants.{Called, Returned, Entered, Left}
use Rattle.overlay_machine.specs.Events.{step_event}
use Rattle.lcm_machine.specs.Run.{next_state}
use Rattle.overlay_machine.specs.State.{OState}
use Rattle.overlay_machine.specs.Runs.{Reached, begins, goes_on}
use Rattle.source_events.specs.declared.FeedBack.{FeedBack}
use Rattle.source_events.specs.declared.FeedPair.{FeedPair}
use Rattle.run_lines.specs.Views.{view_of, flat_view}
use Rattle.run_lines.specs.Pairs.{pairs_of, none_paired}
use Rattle.run_lines.specs.Lines.{Args, Line, enter, pass, feed_pair}
use Rattle.run_lines.specs.Runs.{Watched, watched, event_next, line_next}
use Rattle.run_lines.specs.Told.{Told, none_yet, and_then}
use Rattle.run_lines.specs.StepLines.{AreOfStep, none_told, one_told, pass_told, no_step, and_step}
use Rattle.run_lines.specs.StepLines.{StepsTellSo, RunsAreOfSteps, ToldAreOfSteps}

with_pass : (part export : List ℕ) (stk : Word) (args : Args) (back : FeedBack) (b : Bool) (x y z : FeedPair)
    → AreOfStep (enter part export stk args back ∷ (if b then [] else pass x y z ∷ []))
with_pass part export stk args back true x y z = one_told tt
with_pass part export stk args back false x y z = pass_told

pub steps_tell_so : StepsTellSo
steps_tell_so l v None = none_told
steps_tell_so l v (Some (Called inward i base last)) = one_told tt
steps_tell_so l v (Some (Returned inward i base last)) = one_told tt
steps_tell_so l v (Some (Entered part k back)) =
    let p = pairs_of l v in
    with_pass _ _ _ _ _ (none_paired p) (feed_pair l p.p0) (feed_pair l p.p1) (feed_pair l p.p2)
steps_tell_so l v (Some (Left part)) = one_told tt

next_tells : (l : Layout) (w : Watched) → AreOfStep (line_next l w)
unfolding line_next
next_tells l w = steps_tell_so l (view_of (next_state w.run).maps) (event_next l w)

pub runs_are_of_steps : RunsAreOfSteps
runs_are_of_steps l w zero = no_step
runs_are_of_steps l w (suc n) = and_step (runs_are_of_steps l w n) (next_tells l (watched l w n))

pub told_are_of_steps : ToldAreOfSteps
told_are_of_steps l o _ _ _ none_yet = no_step
told_are_of_steps l o q _ _ (and_then {j = j} {ls = ls} {p = p} r e) =
    and_step (told_are_of_steps l o p j ls r) (steps_tell_so l (flat_view l q) (step_event l p q))

-- a run that is told is reached
pub reached_by : (l : Layout) (o : OState) (j : ℕ) (ls : List Line) (p : OState) → Told l o j ls p
    → Reached l o j p
reached_by l o _ _ _ none_yet = begins
reached_by l o _ _ _ (and_then {j = j} {ls = ls} {p = p} t e) = goes_on (reached_by l o j ls p t) e
