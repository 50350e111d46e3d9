-- A return that joins from the stack's base touches its range in two instructions alone: the load and the
-- store.
use Rattle.std.proofs.Common.{◌≡◌, inl, inr, ℕ, ◌+◌, ◌<◌, ◌≤◌, ℤ, false, Some, refl}
use Rattle.cap_words.specs.declared.TheConstants.{LAST_PLACE}
use Rattle.cap_words.specs.declared.Word.{Word}
use Rattle.cap_words.specs.declared.Word.TheVariants.{Mem}
use Rattle.cap_words.specs.Linear.{is_linear}
use Rattle.lcm_machine.specs.Maps.{State}
use Rattle.lcm_machine.specs.Cells.{cell}
use Rattle.lcm_machine.specs.Row.{went}
use Rattle.lcm_machine.specs.Runs.{run_of, code_cap}
use Rattle.lcm_machine.specs.Touched.{Touches}
use Rattle.call_sequence.specs.declared.TheConstants.{RETURN_WORDS}
use Rattle.call_sequence.specs.Sequences.{load_word}
use Rattle.call_sequence.specs.SequenceRuns.{stack_cap, IsOutsideRange, HasReturn}
use Rattle.call_sequence.specs.SequenceWords.{LoadsOrWipes}
use Rattle.call_sequence.proofs.Offers.{at_load, joint_return_words, load_touches, runs_to_load}
use Rattle.headline.proofs.alike.Calm.{id}
use Rattle.headline.proofs.privacy.SequencesSpare.{not_inside}

-- an address, an instruction of a return, and the state before it
abbrev pub IsFirstUsed : ℕ → ℕ → ℕ → ℕ → ℕ → ℕ → State Word → Type 0
IsFirstUsed base last at b a i v =
    (a ≡ b) × LoadsOrWipes i × (v.regs.pc ≡ Mem (code_cap base last (at + i)))

module _ (s : State Word) (base last at sb : ℕ) (h : HasReturn id s.cells base last at sb)
    (low b end : ℕ) (to : ℤ) (w : Word) (hpc : s.regs.pc ≡ Mem (code_cap base last at))
    (hstk : s.regs.stk ≡ Mem (record (stack_cap sb low 0) { addr = to }))
    (hdat : s.regs.dat ≡ Mem (stack_cap b end b))
    (joint : low + 1 ≡ b) (sl : sb ≤ b) (le : b ≤ end) (small : end ≤ LAST_PLACE)
    (b_out : IsOutsideRange b base last) (there : cell s.cells b ≡ Some w) (lin : is_linear w ≡ false) where
  -- the load touches the first address of the range
  pub loads : (v : State Word) × (run_of id id load_word s ≡ went v) × Touches id v b
  loads = (
    at_load id id (λ x. refl) s base last at sb low b end to w h hpc hstk hdat joint sl le small b_out there
        lin,
    runs_to_load id id (λ x. refl) s base last at sb low b end to w h hpc hstk hdat joint sl le small b_out
        there lin,
    load_touches id id (λ x. refl) s base last at sb low b end to w h hpc hstk hdat joint sl le small b_out
        there lin,
  )

  pub own_only : (a : ℕ) → IsOutsideRange a base last → (v : State Word) → Touches id v a → (i : ℕ)
      → run_of id id i s ≡ went v → i < RETURN_WORDS → IsFirstUsed base last at b a i v
  own_only a out v x i ran few =
      elim ((joint_return_words id id (λ y. refl) s base last at sb low b end to w h hpc hstk hdat joint sl le
      small b_out there lin i v few ran).touches a x) as (λ _. IsFirstUsed base last at b a i v)
      [ inl y ↦ absurd (not_inside a base last out y) | inr y ↦ (y.1.0, y.1.1, y.0) ]
