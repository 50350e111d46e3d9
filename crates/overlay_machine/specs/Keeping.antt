-- What a step of the overlay of linked parts keeps, beside the plain machine.
use Rattle.std.specs.Prelude.{◌≡◌, ℕ, List, None}
use Rattle.cap_words.specs.declared.Word.{Word}
use Rattle.lcm_isa.specs.declared.Reg.TheVariants.{A0}
use Rattle.lcm_machine.specs.Maps.{State}
use Rattle.lcm_machine.specs.Places.{reg}
use Rattle.lcm_machine.specs.Row.{Outcome, went, halted, failed}
use Rattle.lcm_machine.specs.Runs.{run_of}
use Rattle.linked_starts.specs.Parts.{PartSeen}
use Rattle.overlay_machine.specs.declared.overlay.OStep.{OStep}
use Rattle.overlay_machine.specs.declared.overlay.OStep.TheVariants.{Went, Halted, Failed}
use Rattle.overlay_machine.specs.Step.{weight_of}
use Rattle.overlay_machine.specs.Flat.{flat}
use Rattle.overlay_machine.specs.Seen.{OverlaySeen}
use Rattle.overlay_machine.specs.Link.{Link}
use Rattle.overlay_machine.specs.Linked.{IsLink}
use Rattle.overlay_machine.specs.Invariant.{Invariant}

-- these parts, linked with this size of stack, and the layout of an overlay
abbrev pub link_of : List PartSeen → ℕ → OverlaySeen → Link
link_of parts size o = record { parts = parts; size = size; layout = o.layout }

-- The overlay's layout is that of these accepted parts, and the invariant holds of the overlay and of the
-- plain state that it stands for.
pub record HoldsFor (parts : List PartSeen) (size : ℕ) (o : OverlaySeen) (t : State Word) : Type 0 where
  pub linked : IsLink (link_of parts size o)
  pub holds : Invariant (link_of parts size o) o.state t

-- the plain state has in a0 what the overlay's a0 stands for
abbrev pub SameA0 : OverlaySeen → State Word → Type 0
SameA0 o t = reg t.regs A0 ≡ flat o.layout o.state.frames (reg o.state.maps.regs A0)

-- After the instructions for which the step stands the plain machine has gone on to a state of which the
-- invariant holds with the new overlay, or it halts with the first of them and the same a0, or it has failed.
abbrev pub KeepsBy : List PartSeen → ℕ → OverlaySeen → State Word → OStep → OverlaySeen → Outcome Word
    → Type 0
KeepsBy parts size old t (Went event) new (went u) = HoldsFor parts size new u
KeepsBy parts size old t Halted new halted = (weight_of old.layout old.state ≡ 1) × SameA0 old t
KeepsBy parts size old t Failed new (failed cause at) = Unit {0}
KeepsBy parts size old t _ new _ = ⊥

-- a step of an overlay that hasn't ended, with its answer and the new overlay
abbrev pub StepKeeps : OverlaySeen → OStep → OverlaySeen → Type 0
StepKeeps old answer new =
    (parts : List PartSeen) (size : ℕ) (t : State Word) → old.end ≡ None → HoldsFor parts size old t
    → KeepsBy parts size old t answer new (run_of (λ w. w) (λ w. w) (weight_of old.layout old.state) t)
