-- A part runs within what is reported of it, until it jumps under another part's seal.
use Rattle.std.specs.Prelude.{◌≡◌, ℕ, ◌<◌, Bool, true, false, Some}
use Rattle.cap_words.specs.declared.Word.{Word}
use Rattle.lcm_isa.specs.declared.Reg.{Reg}
use Rattle.lcm_machine.specs.Maps.{State}
use Rattle.lcm_machine.specs.Places.{reg}
use Rattle.lcm_machine.specs.Cells.{cell}
use Rattle.lcm_machine.specs.Row.{Outcome, went}
use Rattle.lcm_machine.specs.Runs.{run_of}
use Rattle.lcm_machine.specs.Acts.{GoesTo, Fetches, Loads, Stores, EmptiesCell, SealsBy, JumpsUnder}
use Rattle.authority_report.specs.Within.{Authority, IsWithin}

-- what a step of the plain machine does, an authority allows: the cells that it fetches, loads from, stores
-- to and empties, and the seal by which it seals
pub record ActsWithin (g : Authority) (t : State Word) : Type 0 where
  pub fetches : (a : ℕ) → Fetches (λ w. w) t a → g.run a ≡ true
  pub loads : (a : ℕ) → Loads (λ w. w) t a → g.read a ≡ true
  pub stores : (a : ℕ) → Stores (λ w. w) t a → g.write a ≡ true
  pub empties : (a : ℕ) → EmptiesCell (λ w. w) (λ w. w) t a → g.write a ≡ true
  pub seals : (n : ℕ) → SealsBy (λ w. w) (λ w. w) t n → g.seal n ≡ true

-- each cell that may not be written is as it was
abbrev pub KeepsUnwritten : Authority → State Word → State Word → Type 0
KeepsUnwritten g s t = (a : ℕ) → g.write a ≡ false → cell t.cells a ≡ cell s.cells a

-- ---- runs

abbrev pub plain_run : ℕ → State Word → Outcome Word
plain_run n s = run_of (λ w. w) (λ w. w) n s

-- no step of the first n jumps under a seal that isn't an own one
abbrev pub StaysIn : (ℕ → Bool) → ℕ → State Word → Type 0
StaysIn own n s =
    (k : ℕ) (u : State Word) (seal : ℕ) → k < n → plain_run k s ≡ went u
    → JumpsUnder (λ w. w) (λ w. w) u seal → own seal ≡ true

-- of a run from s that has come to t: its next step does no more than is allowed, and what may not be written
-- is as at the start, now and after that step
pub record StepWithin (g : Authority) (s t : State Word) : Type 0 where
  pub does : ActsWithin g t
  pub keeps : KeepsUnwritten g s t
  pub keeps_next : (u : State Word) → GoesTo (λ w. w) (λ w. w) t u → KeepsUnwritten g s u

-- each step of a run is so, up to and with the first that jumps under a seal that isn't an own one
abbrev pub RunsWithin : Authority → State Word → Type 0
RunsWithin g s = (n : ℕ) (t : State Word) → plain_run n s ≡ went t → StaysIn g.own n s → StepWithin g s t

-- no word of a register, or of a cell that may be read, gives more than an authority
pub record IsBounded (g : Authority) (s : State Word) : Type 0 where
  pub regs : (r : Reg) → IsWithin g (reg s.regs r)
  pub cells : (a : ℕ) (w : Word) → g.read a ≡ true → cell s.cells a ≡ Some w → IsWithin g w

-- a run stays within an authority that the words of its first state don't exceed
abbrev pub WordsBoundRuns : Type 0
WordsBoundRuns = (g : Authority) (s : State Word) → IsBounded g s → RunsWithin g s
