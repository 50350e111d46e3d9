-- Runs of two links, of whose trusted parts outside code observes the same: it runs in lockstep.
use Rattle.std.specs.Prelude.{◌≡◌, ℕ, suc, ◌↔◌, ◌<◌, true, false, List, [], ◌∷◌, Some, is_some}
use Rattle.std.specs.List.{Contains}
use Rattle.cap_words.specs.declared.Word.{Word}
use Rattle.lcm_isa.specs.declared.Reg.TheVariants.{A0, A1, A2, A3}
use Rattle.lcm_machine.specs.Maps.{State}
use Rattle.lcm_machine.specs.Places.{reg}
use Rattle.lcm_machine.specs.Cells.{cell}
use Rattle.trusted_border.specs.declared.layout.Layout.{Layout}
use Rattle.trusted_border.specs.declared.events.Event.TheVariants.{Called}
use Rattle.overlay_machine.specs.State.{OpenFrame, OState}
use Rattle.overlay_machine.specs.Step.{goes, overlay_step}
use Rattle.overlay_machine.specs.Events.{step_event}
use Rattle.overlay_machine.specs.Link.{Link}
use Rattle.overlay_machine.specs.Linked.{IsLink}
use Rattle.overlay_machine.specs.Runs.{Reached}
use Rattle.overlay_machine.specs.Invariant.{Invariant}
use Rattle.template_runs.specs.Runs.{is_inside}
use Rattle.template_runs.specs.Public.{IsFreeAt}
use Rattle.template_runs.specs.Border.{zero, Opened, ShowsCall, ShowsLeave, IsTidied}
use Rattle.source_laws.specs.Secrets.{Until}
use Rattle.lockstep.specs.Related.{SameNames, Calls, AreCalls, SameWord, Newest, Alike, ComesAlike}
use Rattle.lockstep.specs.Related.{StepsAlike}

-- ---- one run

-- Trusted code has control for a while: code outside comes in with a step from the state before, with another
-- one trusted code lets go.
pub record Round : Type 0 where
  pub before : OState
  pub entered : OState
  pub last : OState
  pub after : OState

pub record IsRound (l : Layout) (r : Round) : Type 0 where
  pub outside : is_inside l r.before ≡ false
  pub comes : overlay_step l r.before ≡ goes r.entered
  pub until : Until l r.entered r.last
  pub lets : overlay_step l r.last ≡ goes r.after
  pub gone : is_inside l r.after ≡ false

-- from a state outside to another, with so many steps of code outside and these rounds
pub data Path (l : Layout) : ℕ → OState → List Round → OState → Type 0 where
  ends : {q : OState} → Path l 0 q [] q
  outside : {n : ℕ} {rs : List Round} {p q z : OState} → is_inside l p ≡ false → overlay_step l p ≡ goes q
      → is_inside l q ≡ false → Path l n q rs z → Path l (suc n) p rs z
  inside : {n : ℕ} {rs : List Round} {z : OState} (r : Round) → IsRound l r → Path l n r.after rs z
      → Path l (suc n) r.before (r ∷ rs) z

-- ---- what is observed of a round

-- of both rounds: a call by one pair, with the same arguments, from the same base, of sites that stand for
-- each other; or an end by one pair, with the same value and stack, after which the same call is the newest
-- one. The calls that stand for each other from then on.
pub data SameCrossing (g h : Link) (names : SameNames g h) (cs : Calls) (a b : Round) : Calls → Type 0 where
  by_call : (d : Opened) (f e : OpenFrame) → ShowsCall g.layout d f a.after → ShowsCall h.layout d e b.after
      → step_event g.layout a.last a.after ≡ Some (Called false f.site f.base f.end)
      → step_event h.layout b.last b.after ≡ Some (Called false e.site e.base e.end)
      → f.base ≡ e.base → Contains names.sites (f.site, e.site)
      → SameWord g h names cs (reg a.after.maps.regs A0) (reg b.after.maps.regs A0)
      → SameWord g h names cs (reg a.after.maps.regs A1) (reg b.after.maps.regs A1)
      → SameWord g h names cs (reg a.after.maps.regs A2) (reg b.after.maps.regs A2)
      → SameWord g h names cs (reg a.after.maps.regs A3) (reg b.after.maps.regs A3)
      → SameCrossing g h names cs a b ((f.call, e.call) ∷ cs)
  by_leave : (d : Opened) (top : ℕ) → ShowsLeave g.layout d top a.after → ShowsLeave h.layout d top b.after
      → SameWord g h names cs (reg a.after.maps.regs A0) (reg b.after.maps.regs A0)
      → Newest g h names cs a.after.frames b.after.frames
      → SameCrossing g h names cs a b cs

-- of the cells that both have after them, they wipe the same ones
abbrev pub SameWiped : Link → Round → Round → Type 0
SameWiped g a b =
    (x : ℕ) → IsFreeAt g x → is_some (cell a.after.maps.cells x) ≡ true
    → is_some (cell b.after.maps.cells x) ≡ true
    → (cell a.after.maps.cells x ≡ Some zero) ↔ (cell b.after.maps.cells x ≡ Some zero)

-- what holds of sources: each round leaves the cells tidied
abbrev pub Tidies : Link → OState → Type 0
Tidies g o =
    (i : ℕ) (r : Round) → Reached g.layout o i r.before → IsRound g.layout r → IsTidied g r.before r.after

-- as far as both go, the same is observed of their rounds
abbrev pub SameObserved : (g h : Link) → SameNames g h → Calls → List Round → List Round → Type 0
SameObserved g h names cs [] bs = Unit {0}
SameObserved g h names cs (a ∷ as_) [] = Unit {0}
SameObserved g h names cs (a ∷ as_) (b ∷ bs) =
    (ds : Calls) × SameCrossing g h names cs a b ds × SameWiped g a b × SameObserved g h names ds as_ bs

-- ---- lockstep

-- as many rounds in both, code outside comes in alike in each of them, and at the end it is in states that
-- are alike to it
pub data InStep (g h : Link) (names : SameNames g h) : Calls → List Round → List Round → OState → OState
    → Type 0
  where
    at_end : {cs : Calls} {q r : OState} → Alike g h names cs q r → StepsAlike g h names cs q r
        → InStep g h names cs [] [] q r
    round : {cs ds : Calls} {as_ bs : List Round} {q r : OState} (a b : Round)
        → ComesAlike g h names cs a.before a.entered b.before b.entered
        → SameCrossing g h names cs a b ds → InStep g h names ds as_ bs q r
        → InStep g h names cs (a ∷ as_) (b ∷ bs) q r

-- the states of a run are those of linked parts
abbrev pub HoldsAlong : Link → OState → Type 0
HoldsAlong g o = (j : ℕ) (p : OState) → Reached g.layout o j p → (u : State Word) × Invariant g p u

-- calls that stand for each other came before, and are told apart
pub record AreBelow (cs : Calls) (q r : OState) : Type 0 where
  pub first : (k m : ℕ) → AreCalls cs k m → k < q.calls
  pub second : (k m : ℕ) → AreCalls cs k m → m < r.calls
  pub one : (k m i j : ℕ) → AreCalls cs k m → AreCalls cs i j → (k ≡ i) ↔ (m ≡ j)

-- Two runs, from matched points that are alike to code outside: as long as the same is observed of their
-- rounds, code outside makes the same steps in both.
abbrev pub OutsideInStep : (g h : Link) → SameNames g h → OState → OState → Type 0
OutsideInStep g h names o o' =
    (n i j : ℕ) (cs : Calls) (p q p' q' : OState) (as_ bs : List Round) → Reached g.layout o i p
    → Reached h.layout o' j p' → is_inside g.layout p ≡ false → is_inside h.layout p' ≡ false
    → Alike g h names cs p p' → AreBelow cs p p'
    → Path g.layout n p as_ q → Path h.layout n p' bs q' → SameObserved g h names cs as_ bs
    → InStep g h names cs as_ bs q q'

-- so it is of linked parts that tidy
abbrev pub RunInStep : Type 0
RunInStep =
    (g h : Link) (names : SameNames g h) → IsLink g → IsLink h → (o o' : OState) → HoldsAlong g o
    → HoldsAlong h o'
    → Tidies g o → Tidies h o' → OutsideInStep g h names o o'
