-- Code outside learns nothing from a source but what its refined meaning tells: at each point of a run at
-- which trusted code lets go of control.
use Rattle.std.specs.Prelude.{◌≡◌, ℕ, ◌<◌, ◌≤◌, true, false, length, Option, Some}
use Rattle.trusted_border.specs.declared.events.Event.TheVariants.{Left}
use Rattle.overlay_machine.specs.Events.{step_event}
use Rattle.linked_starts.specs.Started.{StartSeen}
use Rattle.trusted_border.specs.declared.layout.Layout.{Layout}
use Rattle.overlay_machine.specs.State.{OState}
use Rattle.overlay_machine.specs.Step.{goes, overlay_step}
use Rattle.overlay_machine.specs.Starting.{overlay_at}
use Rattle.overlay_machine.specs.Link.{Link}
use Rattle.run_lines.specs.Layout.{layout}
use Rattle.run_lines.specs.Cuts.{Matched}
use Rattle.template_runs.specs.Runs.{is_inside}
use Rattle.template_runs.specs.Border.{Shows, IsTidied, Wiped, GivesBack}

-- trusted code has control since this state: it is that of the start, or code outside came to it with a step
-- from a matched point
pub data HasCome (s : StartSeen) (o : OState) : Type 0 where
  begins : o ≡ (overlay_at s).state → HasCome s o
  comes : (at : ℕ) (p : OState) → Matched s at p → is_inside (layout s) p ≡ false
      → overlay_step (layout s) p ≡ goes o → HasCome s o

-- and has it until that one: each of the steps between began in trusted code
pub data Until (l : Layout) (o : OState) : OState → Type 0 where
  still_there : is_inside l o ≡ true → Until l o o
  one_more : {p q : OState} → Until l o p → overlay_step l p ≡ goes q → is_inside l q ≡ true → Until l o q

-- with the next step it lets go
pub record LetsGo (s : StartSeen) (o p q : OState) : Type 0 where
  pub came : HasCome s o
  pub until : Until (layout s) o p
  pub steps : overlay_step (layout s) p ≡ goes q
  pub gone : is_inside (layout s) q ≡ false

-- wherever trusted code lets go there is a state since which it had control
abbrev pub EachLetsGo : Type 0
EachLetsGo =
    (s : StartSeen) (j : ℕ) (p q : OState) → Matched s j p → is_inside (layout s) p ≡ true
    → overlay_step (layout s) p ≡ goes q → is_inside (layout s) q ≡ false → (o : OState) × LetsGo s o p q

-- Then the step writes a line, which tells all that isn't told here of the registers; and the cells that code
-- outside could reach are as it left them, or are stack cells that hold 0.
pub record ShowsNoMore (g : Link) (o p q : OState) : Type 0 where
  pub registers : Shows g.layout p q
  pub cells : IsTidied g o q

-- ---- what it gives back

-- code outside entered a procedure in this state: it made a step to it, by which no call was closed
pub record HasEntered (s : StartSeen) (a : OState) : Type 0 where
  pub at : ℕ
  pub from : OState
  pub matched : Matched s at from
  pub outside : is_inside (layout s) from ≡ false
  pub steps : overlay_step (layout s) from ≡ goes a
  pub inside : is_inside (layout s) a ≡ true
  pub no_return : a.frames ≡ from.frames

-- From there to another state that procedure, or the one that it hops to, has not ended: as many calls are
-- open as where it was entered, and more where code outside runs.
pub data Goes (l : Layout) (a : OState) : OState → Type 0 where
  at_entry : Goes l a a
  and_then : {p q : OState} → Goes l a p → overlay_step l p ≡ goes q → length a.frames ≤ length q.frames
      → (is_inside l q ≡ false → length a.frames < length q.frames) → Goes l a q

-- and with the next step it leaves
pub record LeavesAt (s : StartSeen) (a p q : OState) : Type 0 where
  pub entered : HasEntered s a
  pub until : Goes (layout s) a p
  pub inside : is_inside (layout s) p ≡ true
  pub steps : overlay_step (layout s) p ≡ goes q
  pub gone : is_inside (layout s) q ≡ false
  pub part : ℕ
  pub leaves : step_event (layout s) p q ≡ Some (Left part)
  pub as_many : length q.frames ≡ length a.frames

-- code outside came in with a step from a matched point to this state
pub record ComesFrom (s : StartSeen) (b o : OState) : Type 0 where
  pub at : ℕ
  pub matched : Matched s at b
  pub outside : is_inside (layout s) b ≡ false
  pub steps : overlay_step (layout s) b ≡ goes o

-- The state in which code outside ran last before trusted code was come to in another: a step led from that
-- to this. It is this one, where the run begins in trusted code.
pub data RanLast (s : StartSeen) (o : OState) : OState → Type 0 where
  at_start : o ≡ (overlay_at s).state → RanLast s o o
  outside : {b : OState} → ComesFrom s b o → RanLast s o b

-- What is shown where control is let go is told. The cells are tidied since the state in which code outside
-- ran last, so that none that came back with a frame since keeps its word: those that were wiped are the last
-- ones of the stack that is given away, from one on, and all others are as they were. And a procedure that
-- leaves gives back the pair and the stack that it was entered with.
pub record LeavesNothing (g : Link) (s : StartSeen) : Type 0 where
  pub shows : (o p q : OState) → LetsGo s o p q → ShowsNoMore g o p q
  pub tidied : (b o p q : OState) → ComesFrom s b o → LetsGo s o p q → IsTidied g b q
  pub wiped : (b o p q : OState) → RanLast s o b → LetsGo s o p q → (low : Option ℕ) × Wiped g low b q
  pub gives_back : (a p q : OState) → LeavesAt s a p q → GivesBack g.layout a q
