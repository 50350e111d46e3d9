-- The overlay as contracts see it, and one step of it.
use Rattle.std.specs.Prelude.{◌≡◌, ◌≤◌, ℕ, ◌+◌, [], Option, Some, None, option_map, if◌then◌else◌}
use Rattle.cap_words.specs.declared.Word.{Word}
use Rattle.lcm_isa.specs.declared.Reg.{Reg}
use Rattle.lcm_machine.specs.Maps.{State}
use Rattle.lcm_machine.specs.Places.{reg}
use Rattle.lcm_machine.specs.Cells.{cell}
use Rattle.lcm_machine.specs.Spans.{in_spans}
use Rattle.linked_starts.specs.Started.{StartSeen}
use Rattle.trusted_border.specs.declared.layout.Layout.{Layout}
use Rattle.overlay_machine.specs.declared.words.OWord.{OWord}
use Rattle.overlay_machine.specs.declared.words.OWord.TheVariants.{Plain}
use Rattle.overlay_machine.specs.declared.machine.Machine.{Machine}
use Rattle.overlay_machine.specs.declared.overlay.OStep.{OStep}
use Rattle.overlay_machine.specs.declared.overlay.OStep.TheVariants.{Went, Halted, Failed}
use Rattle.overlay_machine.specs.declared.overlay.OEnd.{OEnd}
use Rattle.overlay_machine.specs.declared.overlay.OEnd.TheVariants.{Halted as AtHalt, Failed as AtFailure}
use Rattle.overlay_machine.specs.State.{OState}
use Rattle.overlay_machine.specs.Step.{Ending, goes, halts, fails, overlay_step, weight_of}
use Rattle.overlay_machine.specs.Events.{step_event}
use Rattle.overlay_machine.specs.Machine.{FitsRegion}

-- `weight` is the sum of the weights of the steps that went; `end` says how the overlay ended, once it has
pub record OverlaySeen : Type 0 where
  pub layout : Layout
  pub state : OState
  pub weight : ℕ
  pub end : Option OEnd

-- ---- one step

-- an end leaves the state and the weight
abbrev pub moved : Ending → OverlaySeen → OverlaySeen
moved (goes q) o = record o { state = q; weight = o.weight + weight_of o.layout o.state }
moved halts o = record o { end = Some AtHalt }
moved fails o = record o { end = Some AtFailure }

-- an ended overlay stays as it is
abbrev pub next_by : Option OEnd → OverlaySeen → OverlaySeen
next_by None o = moved (overlay_step o.layout o.state) o
next_by (Some e) o = o

unfoldable pub next_overlay : OverlaySeen → OverlaySeen
next_overlay o = next_by o.end o

-- what the step answers: the event where it goes, or the end
abbrev pub ending_answer : OverlaySeen → Ending → OStep
ending_answer o (goes q) = Went (step_event o.layout o.state q)
ending_answer o halts = Halted
ending_answer o fails = Failed

abbrev pub end_answer : OEnd → OStep
end_answer AtHalt = Halted
end_answer AtFailure = Failed

abbrev pub answer_by : Option OEnd → OverlaySeen → OStep
answer_by None o = ending_answer o (overlay_step o.layout o.state)
answer_by (Some e) o = end_answer e

unfoldable pub answer_of : OverlaySeen → OStep
answer_of o = answer_by o.end o

-- ---- the overlay of a start

-- the start's word at an address of its spans
abbrev pub start_word : State Word → ℕ → Option OWord
start_word s a = if in_spans a s.spans then option_map Plain (cell s.cells a) else None

-- the registers, cells and spans of the start, and no frames; no call and no step was made, and it hasn't
-- ended
pub record IsOverlayOf (s : StartSeen) (o : OverlaySeen) : Type 0 where
  pub sites : o.layout.sites ≡ s.sites
  pub owners : o.layout.owners ≡ s.owners
  pub stack : o.layout.stack ≡ s.stack
  pub regs : (r : Reg) → reg o.state.maps.regs r ≡ Plain (reg s.state.maps.regs r)
  pub cells : (a : ℕ) → cell o.state.maps.cells a ≡ start_word s.state.maps a
  pub spans : o.state.maps.spans ≡ s.state.maps.spans
  pub frames : o.state.frames ≡ []
  pub calls : o.state.calls ≡ 0
  pub weight : o.weight ≡ 0
  pub end : o.end ≡ None

-- ---- what the type keeps

-- the room, and that calls are no more than the weight
pub record TypeKeeps (l : Layout) (m : Machine) (weight : ℕ) : Type 0 where
  pub fits : FitsRegion l m
  pub calls : m.calls ≤ weight
