-- States whose words are words of a machine: integers and addresses of 64 bits, ranges in order, and seals
-- that there are.
use Rattle.std.specs.Prelude.{◌≡◌, ℕ, Some}
use Rattle.cap_words.specs.declared.Word.{Word}
use Rattle.cap_words.specs.WordBytes.{WordFits}
use Rattle.lcm_isa.specs.declared.Reg.{Reg}
use Rattle.lcm_machine.specs.Maps.{State}
use Rattle.lcm_machine.specs.Places.{reg}
use Rattle.lcm_machine.specs.Cells.{cell}
use Rattle.lcm_machine.specs.Row.{step_of}
use Rattle.lcm_machine.specs.Ends.{After}
use Rattle.lcm_machine.specs.Run.{Run, plain}

-- all words of registers and cells fit
abbrev pub MapsFit : State Word → Type 0
MapsFit s =
    ((r : Reg) → WordFits (reg s.regs r)) × ((a : ℕ) (w : Word) → cell s.cells a ≡ Some w → WordFits w)

-- a step leads from such a state to such a state
abbrev pub StepsKeepFitting : Type 0
StepsKeepFitting = (s : State Word) → MapsFit s → After MapsFit (step_of (λ w. w) (λ w. w) s)

-- so do any number of steps
abbrev pub RunsKeepFitting : Type 0
RunsKeepFitting = (n : ℕ) (r : Run) → MapsFit r.maps → MapsFit (plain n r).maps
