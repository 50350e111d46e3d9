-- One step of code that stands in memory is a row, and one step of a run is a step.
use Rattle.std.proofs.Common.{◌≡◌, ℕ, ◌+◌, ◌≤◌, pos, Some, refl}
use Rattle.cap_words.specs.declared.Word.{Word}
use Rattle.cap_words.specs.declared.Word.TheVariants.{Mem}
use Rattle.cap_words.specs.declared.Face.TheVariants.{Number}
use Rattle.lcm_isa.specs.declared.Instr.{Instr}
use Rattle.lcm_isa.specs.Numbers.{number_of, IsInstr}
use Rattle.lcm_machine.specs.Maps.{State}
use Rattle.lcm_machine.specs.Cells.{cell}
use Rattle.lcm_machine.specs.Row.{look_face, row, step_of, Outcome, went, halted, failed}
use Rattle.lcm_machine.specs.Runs.{and_then, run_of, code_cap}
use Rattle.lcm_machine.proofs.RowLemmas.{step_at}
use Rattle.lcm_machine.proofs.Goes.{fetch_at}

module _ {W : Type 0} (look : W → Word) (plain : Word → W) where
  -- the step at an instruction is its row
  pub step_row : (s : State W) (base last at : ℕ) (i : Instr) → look s.regs.pc ≡ Mem (code_cap base last at)
      → base ≤ at → at ≤ last → look_face look (cell s.cells at) ≡ Some (Number (pos (number_of i)))
      → IsInstr i
      → step_of look plain s ≡ row look plain i (Mem (code_cap base last (at + 1))) s
  step_row s base last at i e low high h ok =
      step_at look plain s i (Mem (code_cap base last (at + 1)))
      (fetch_at look plain s base last at i e low high h ok)

  then_ran : (r : Outcome W) → and_then r went ≡ r
  then_ran (went s) = refl
  then_ran halted = refl
  then_ran (failed cause at) = refl

  pub run_one : (s : State W) → run_of look plain 1 s ≡ step_of look plain s
  unfolding run_of
  run_one s = then_ran (step_of look plain s)
