-- Runs of both machines: where the overlay stands at matched points, and how the plain run agrees with it.
use Rattle.std.specs.Prelude.{◌≡◌, ℕ, ◌+◌, ◌<◌, ◌≤◌, ℤ}
use Rattle.cap_words.specs.declared.Word.{Word}
use Rattle.lcm_machine.specs.declared.FailCause.{FailCause}
use Rattle.lcm_machine.specs.Maps.{State}
use Rattle.lcm_machine.specs.Row.{Outcome, went, halted, failed, step_of}
use Rattle.lcm_machine.specs.Runs.{run_of}
use Rattle.trusted_border.specs.declared.layout.Layout.{Layout}
use Rattle.overlay_machine.specs.State.{OState}
use Rattle.overlay_machine.specs.Step.{goes, halts, fails, overlay_step, weight_of}
use Rattle.overlay_machine.specs.Flat.{IsFlat}

-- a matched point: from an overlay, at the sum of the weights of steps that went, the overlay after them
pub data Reached (l : Layout) (o : OState) : ℕ → OState → Type 0 where
  begins : Reached l o 0 o
  goes_on : {j : ℕ} {p q : OState} → Reached l o j p → overlay_step l p ≡ goes q
      → Reached l o (j + weight_of l p) q

-- so many plain instructions, or up to the end
abbrev pub plain_run : ℕ → State Word → Outcome Word
plain_run n t = run_of (λ w. w) (λ w. w) n t

-- n plain instructions go, and the next one halts, or fails
abbrev pub HaltsBehind : ℕ → State Word → Type 0
HaltsBehind n t = (u : State Word) × (plain_run n t ≡ went u) × (step_of (λ w. w) (λ w. w) u ≡ halted)

abbrev pub FailsBehind : ℕ → State Word → Type 0
FailsBehind n t =
    (u : State Word) × (cause : FailCause) × (at : ℤ)
    × (plain_run n t ≡ went u) × (step_of (λ w. w) (λ w. w) u ≡ failed cause at)

-- the plain run of one state agrees with the run of an overlay
pub record RunsAgree (l : Layout) (o : OState) (t : State Word) : Type 0 where
  -- at each matched point the plain state is the overlay flattened
  pub matched : (j : ℕ) (p : OState) → Reached l o j p
      → (u : State Word) × (plain_run j t ≡ went u) × IsFlat l p u
  -- the one halts exactly where the other does
  pub overlay_halts : (j : ℕ) (p : OState) → Reached l o j p → overlay_step l p ≡ halts → HaltsBehind j t
  pub plain_halts : (j : ℕ) → HaltsBehind j t
      → (p : OState) × Reached l o j p × (overlay_step l p ≡ halts)
  -- where the one fails the other does, the plain run within the weight of the overlay's step
  pub overlay_fails : (j : ℕ) (p : OState) → Reached l o j p → overlay_step l p ≡ fails
      → (n : ℕ) × (j ≤ n) × (n < j + weight_of l p) × FailsBehind n t
  pub plain_fails : (n : ℕ) → FailsBehind n t
      → (j : ℕ) × (p : OState) × Reached l o j p × (j ≤ n) × (n < j + weight_of l p)
      × (overlay_step l p ≡ fails)
  -- a plain run that goes stands at a matched point, or less than the next weight after it
  pub plain_goes : (n : ℕ) (u : State Word) → plain_run n t ≡ went u
      → (j : ℕ) × (p : OState) × Reached l o j p × (j ≤ n) × (n < j + weight_of l p)

-- ---- from one step to runs
