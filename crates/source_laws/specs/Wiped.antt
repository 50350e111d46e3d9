-- Which cells of the stack linked sources have wiped where they let go of control: those from the one on that
-- the refined meaning tells of.
use Rattle.std.specs.Prelude.{◌≡◌, ℕ, ◌≤◌, Bool, true, false, List, [], ◌++◌, length, map, slice_get, Option}
use Rattle.std.specs.Prelude.{Some}
use Rattle.linked_starts.specs.Started.{StartSeen}
use Rattle.trusted_border.specs.declared.layout.Layout.{Layout}
use Rattle.overlay_machine.specs.declared.words.OWord.{OWord}
use Rattle.overlay_machine.specs.State.{OState}
use Rattle.overlay_machine.specs.Step.{goes, overlay_step}
use Rattle.overlay_machine.specs.Events.{step_event}
use Rattle.overlay_machine.specs.Starting.{overlay_at}
use Rattle.overlay_machine.specs.Link.{Link}
use Rattle.run_lines.specs.Layout.{layout}
use Rattle.source_events.specs.declared.Item.{Item}
use Rattle.template_runs.specs.Runs.{is_inside}
use Rattle.template_runs.specs.Border.{Wiped}
use Rattle.proc_semantics.specs.Values.{World}
use Rattle.proc_semantics.specs.Marked.{Thing, Event, Calls, Leaves, Whence, refined}
use Rattle.source_laws.specs.Seen.{Back, Shown, event_outs, event_items}

-- the lowest wiped cell that an event tells of
abbrev pub low_of : {T E : Type 0} → Event T E → Option ℕ
low_of (Calls part site base low x y xs) = low
low_of (Leaves part v low e) = low

-- the state in which code outside ran last, after a step: the one before the step, if code outside ran
-- there, and else the one in which it ran last before
abbrev pub last_outside : Bool → OState → OState → OState
last_outside true b p = b
last_outside false b p = p

-- As `Tells`, and with it the state in which code outside ran last before the one that is come to; that is
-- the first one, if it hasn't run.
pub data TellsSince (l : Layout) (o : OState) : List Shown → List (Thing OWord Back) → OState → OState
    → Type 0 where
  none_yet : TellsSince l o [] [] o o
  and_then : {es : List Shown} {is : List (Thing OWord Back)} {b p q : OState} → TellsSince l o es is b p
      → overlay_step l p ≡ goes q
      → TellsSince l o (es ++ event_outs l q (step_event l p q)) (is ++ event_items l q (step_event l p q))
      (last_outside (is_inside l p) b p) q

-- Under every large enough fuel the event of this number tells of the lowest wiped cell, and from there on
-- the cells are wiped that have changed since the first of two states.
pub record WipedTold (g : Link) (world : World) (stack : ℕ) (feed : List Item) (n : ℕ) (b q : OState) : Type
    0 where
  pub low : Option ℕ
  pub enough : ℕ
  pub told : (f : ℕ) → enough ≤ f → (e : Event Whence ℕ)
      × (slice_get (refined world stack feed f).events n ≡ Some e) × (low_of e ≡ low)
  pub wiped : Wiped g low b q

-- wherever trusted code lets go of control, after a run that has shown so much and got so much
abbrev pub WipedAlways : Link → World → ℕ → StartSeen → Type 0
WipedAlways g world stack s =
    (es : List Shown) (is : List (Thing OWord Back)) (b p q : OState)
    → TellsSince (layout s) (overlay_at s).state es is b p → is_inside (layout s) p ≡ true
    → overlay_step (layout s) p ≡ goes q → is_inside (layout s) q ≡ false
    → WipedTold g world stack (map (λ x. x.item) is) (length es) b q
