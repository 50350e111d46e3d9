-- The plain machine over a run: its registers and cells, how many steps it has made, and how it has ended, if
-- it has.
use Rattle.std.specs.Prelude.{◌≡◌, ℕ, zero, suc, ◌+◌, Option, Some, None}
use Rattle.cap_words.specs.declared.Word.{Word}
use Rattle.lcm_isa.specs.declared.Reg.{Reg}
use Rattle.lcm_machine.specs.declared.Step.{Step}
use Rattle.lcm_machine.specs.declared.Step.TheVariants.{Went}
use Rattle.lcm_machine.specs.declared.End.{End}
use Rattle.lcm_machine.specs.declared.End.TheVariants.{Halted, Failed}
use Rattle.lcm_machine.specs.Ends.{end_answer}
use Rattle.lcm_machine.specs.Maps.{State}
use Rattle.lcm_machine.specs.Row.{Outcome, went, halted, failed, jump_at, step_of}

-- `end` says how the machine ended, once it has
pub record Run : Type 0 where
  pub maps : State Word
  pub count : ℕ
  pub end : Option End

-- a step counts one, also one that ends the machine; an end leaves registers and cells
abbrev pub moved : Outcome Word → Run → Run
moved (went t) s = record { maps = t; count = s.count + 1; end = None }
moved halted s = record { maps = s.maps; count = s.count + 1; end = Some Halted }
moved (failed cause at) s = record { maps = s.maps; count = s.count + 1; end = Some (Failed cause at) }

-- an ended machine stays as it is
abbrev pub next_by : Option End → Run → Run
next_by None s = moved (step_of (λ w. w) (λ w. w) s.maps) s
next_by (Some e) s = s

-- after one step
unfoldable pub next_state : Run → Run
next_state s = next_by s.end s

-- the register whose word the next step opens as code, where it makes an `xjmp`: an ended machine makes none
abbrev pub jump_by : Option End → Run → Option Reg
jump_by None s = jump_at (λ w. w) s.maps
jump_by (Some e) s = None

unfoldable pub next_jump : Run → Option Reg
next_jump s = jump_by s.end s

-- what the step answers that led to this state: that it went, or the end
abbrev pub answer_by : Option End → Step
answer_by None = Went
answer_by (Some e) = end_answer e

abbrev pub answer : Run → Step
answer s = answer_by s.end

-- after n steps, or at the end if it comes before
abbrev pub plain : ℕ → Run → Run
plain zero s = s
plain (suc n) s = next_state (plain n s)

-- a machine that has made no step
abbrev pub fresh : State Word → Run
fresh s = record { maps = s; count = 0; end = None }

-- a machine that has made n steps is where an outcome leads, or has ended as it says
abbrev pub EndsAs : ℕ → Outcome Word → Run → Type 0
EndsAs n (went t) r = r ≡ record { maps = t; count = n; end = None }
EndsAs n halted r = r.end ≡ Some Halted
EndsAs n (failed cause at) r = r.end ≡ Some (Failed cause at)
