-- The cut point of a run: the greatest matched point that is at most so many instructions, where the
-- overlay's run up to as many stops.
use Rattle.std.specs.Prelude.{◌≡◌, ℕ, zero, suc, ◌+◌, nat_lt, Bool, true, false, if◌then◌else◌}
use Rattle.lcm_isa.specs.declared.Reg.TheVariants.{Pc}
use Rattle.lcm_machine.specs.Row.{faces}
use Rattle.linked_starts.specs.Started.{StartSeen}
use Rattle.trusted_border.specs.declared.layout.Layout.{Layout}
use Rattle.overlay_machine.specs.declared.overlay.OStep.{OStep}
use Rattle.overlay_machine.specs.declared.overlay.OStep.TheVariants.{Went, Halted, Failed}
use Rattle.overlay_machine.specs.Words.{look}
use Rattle.overlay_machine.specs.State.{OState}
use Rattle.overlay_machine.specs.Step.{goes, overlay_step, weight_of}
use Rattle.overlay_machine.specs.Seen.{OverlaySeen, next_overlay, answer_of}
use Rattle.overlay_machine.specs.Runs.{Reached}
use Rattle.overlay_machine.specs.Starting.{overlay_at}
use Rattle.run_lines.specs.Layout.{layout, is_trusted}
use Rattle.run_lines.specs.Told.{StopsAt}
use Rattle.run_lines.specs.Traces.{weight_with, Traced, trace_of}

-- a matched point is the sum of the weights of the first steps that go from the overlay of the start, and
-- there stands the overlay after them
abbrev pub Matched : StartSeen → ℕ → OState → Type 0
Matched s j p = Reached (layout s) (overlay_at s).state j p

-- the overlay's run up to so many instructions: `at` is the cut point
abbrev pub cut : StartSeen → ℕ → Traced
cut s n = trace_of n (overlay_at s)

-- where the overlay stands there
abbrev pub cut_overlay : StartSeen → ℕ → OState
cut_overlay s n = (cut s n).overlay.state

-- ---- what of the weight up to there is trusted code's

-- whether trusted code runs
abbrev pub is_inside : Layout → OState → Bool
is_inside l o = is_trusted l (faces look o.maps Pc)

abbrev pub weighed : Bool → ℕ → ℕ
weighed true n = n
weighed false n = 0

-- of a step, and the steps after it
abbrev pub trusted_by : OStep → OverlaySeen → ℕ → ℕ
trusted_by (Went event) o more = weighed (is_inside o.layout o.state) (weight_of o.layout o.state) + more
trusted_by Halted o more = 0
trusted_by Failed o more = 0

-- of n steps at most, within a limit
abbrev pub trusted_in : ℕ → ℕ → OverlaySeen → ℕ
trusted_in limit zero o = 0
trusted_in limit (suc n) o =
    if nat_lt limit (weight_with o) then 0
    else trusted_by (answer_of o) o (trusted_in limit n (next_overlay o))

-- the weight of the steps up to the cut point that began in trusted code
abbrev pub trusted_weight : StartSeen → ℕ → ℕ
trusted_weight s n = trusted_in n (n + 1) (overlay_at s)

-- ---- laws

-- steps that go lead from one overlay to another: their weight, and what of it is trusted code's
pub data Leads (l : Layout) (o : OState) : ℕ → ℕ → OState → Type 0 where
  no_step : Leads l o 0 0 o
  and_step : {j t : ℕ} {p q : OState} → Leads l o j t p → overlay_step l p ≡ goes q
      → Leads l o (j + weight_of l p) (t + weighed (is_inside l p) (weight_of l p)) q

-- where steps lead that stop at the limit, there is the cut point
abbrev pub CutsAreGreatest : Type 0
CutsAreGreatest =
    (s : StartSeen) (n j t : ℕ) (p : OState) → Leads (layout s) (overlay_at s).state j t p
    → StopsAt (layout s) n j p → ((cut s n).at ≡ j) × (cut_overlay s n ≡ p) × (trusted_weight s n ≡ t)

-- so it is at each matched point that stops at the limit
abbrev pub StopsAreCuts : Type 0
StopsAreCuts =
    (s : StartSeen) (n j : ℕ) (p : OState) → Reached (layout s) (overlay_at s).state j p
    → StopsAt (layout s) n j p → ((cut s n).at ≡ j) × (cut_overlay s n ≡ p)
