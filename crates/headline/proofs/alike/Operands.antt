-- Numbers that sequences reckon with.
use Rattle.std.proofs.Common.{◌≡◌, inl, inr, ℕ, ◌+◌, ◌≤◌, List, length, refl, sym, ◌∙◌, arith}
use Rattle.std.specs.Ordering.{nat_cmp}
use Rattle.std.specs.FinMap.{FinMap}
use Rattle.cap_words.specs.declared.Word.{Word}
use Rattle.lcm_isa.specs.declared.Instr.{Instr}
use Rattle.lcm_machine.specs.Maps.{State}
use Rattle.lcm_machine.specs.Cells.{set_cell}
use Rattle.lcm_machine.specs.Row.{step_of, went}
use Rattle.lcm_machine.specs.Runs.{Stands, run_of}
use Rattle.lcm_machine.proofs.Offers.{Stands-set, Stands-set_below, run_then, run_one}
use Rattle.call_sequence.specs.SequenceRuns.{IsOutsideRange}
use Rattle.headline.proofs.alike.Calm.{id}

-- code within a range stands as before where a cell outside is set
pub stands_outside : (m : FinMap nat_cmp Word) (a : ℕ) (w : Word) (base last at : ℕ) (is : List Instr)
    → IsOutsideRange a base last → base ≤ at → at + length is ≤ last + 1 → Stands id m at is
    → Stands id (set_cell m a w) at is
stands_outside m a w base last at is (inl below) low high h =
    Stands-set_below id m a w at is (omega (arith, below, low)) h
stands_outside m a w base last at is (inr above) low high h =
    Stands-set id m a w at is (omega (arith, above, high)) h

-- the last step of a run
pub last_step : (n : ℕ) (t s u : State Word) → run_of id id n t ≡ went s → run_of id id (n + 1) t ≡ went u
    → step_of id id s ≡ went u
last_step n t s u e f = sym (run_one id id s) ∙ sym (run_then id id n 1 t s _ e refl) ∙ f
