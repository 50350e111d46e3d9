-- Runs of several instructions, for words of any kind, and code that stands in memory.
use Rattle.std.specs.Prelude.{◌≡◌, ℕ, zero, suc, ◌+◌, pos, List, [], ◌∷◌, Some}
use Rattle.std.specs.Ordering.{nat_cmp}
use Rattle.std.specs.FinMap.{FinMap}
use Rattle.cap_words.specs.declared.Word.{Word}
use Rattle.cap_words.specs.declared.Face.TheVariants.{Number}
use Rattle.cap_words.specs.declared.Perm.TheVariants.{Rx}
use Rattle.cap_words.specs.declared.Lin.TheVariants.{Normal}
use Rattle.cap_words.specs.declared.CapFields.{CapFields}
use Rattle.lcm_isa.specs.declared.Instr.{Instr}
use Rattle.lcm_isa.specs.Numbers.{number_of}
use Rattle.lcm_machine.specs.Maps.{State}
use Rattle.lcm_machine.specs.Cells.{cell}
use Rattle.lcm_machine.specs.Row.{Outcome, went, halted, failed, step_of, look_face}

-- a run goes on from the state that was reached, unless it has ended
abbrev pub and_then : {W : Type 0} → Outcome W → (State W → Outcome W) → Outcome W
and_then (went s) f = f s
and_then halted f = halted
and_then (failed cause at) f = failed cause at

-- n instructions, or up to the end
unfoldable pub run_of : {W : Type 0} → (W → Word) → (Word → W) → ℕ → State W → Outcome W
run_of look plain zero s = went s
run_of look plain (suc n) s = and_then (step_of look plain s) (run_of look plain n)

-- these instructions stand at this address and those after it
abbrev pub Stands : {W : Type 0} → (W → Word) → FinMap nat_cmp W → ℕ → List Instr → Type 0
Stands look m at [] = Unit {0}
Stands look m at (i ∷ is) =
    (look_face look (cell m at) ≡ Some (Number (pos (number_of i)))) × Stands look m (at + 1) is

-- a pc over code from base to last, which stands at an address
abbrev pub code_cap : ℕ → ℕ → ℕ → CapFields
code_cap base last at = record { perm = Rx; lin = Normal; base = base; end = last; addr = pos at }
