-- What the words of the sequences do one by one, whatever comes of them, for words of any kind: where pc
-- stands, which word may be an `xjmp`, and which addresses are touched.
use Rattle.std.specs.Prelude.{◌≡◌, ◌⊎◌, ℕ, ◌+◌, ◌-◌, ◌<◌, ◌≤◌, ℤ, false, Some, None}
use Rattle.cap_words.specs.declared.TheConstants.{LAST_PLACE}
use Rattle.cap_words.specs.declared.Word.{Word}
use Rattle.cap_words.specs.declared.Word.TheVariants.{Mem}
use Rattle.cap_words.specs.declared.CapFields.{CapFields}
use Rattle.cap_words.specs.Linear.{is_linear}
use Rattle.lcm_machine.specs.Maps.{State}
use Rattle.lcm_machine.specs.Cells.{cell}
use Rattle.lcm_machine.specs.Row.{jump_at, step_of, went}
use Rattle.lcm_machine.specs.Runs.{run_of, code_cap}
use Rattle.lcm_machine.specs.Touched.{Touches}
use Rattle.call_sequence.specs.declared.TheConstants.{CALL_WORDS, RETURN_WORDS, ENTRY_WORDS}
use Rattle.call_sequence.specs.Sequences.{load_word, wipe_word}
use Rattle.call_sequence.specs.SequenceRuns.{stack_cap, IsOutsideRange, HasCall, HasReturn, HasEntry}

-- an address of a range
abbrev pub IsInRange : ℕ → ℕ → ℕ → Type 0
IsInRange a base last = (base ≤ a) × (a ≤ last)

-- Before a step at a word of a sequence, in the code of a part from base to last. The step touches the code,
-- and with pc at the word also such addresses as are named. Where it goes pc is at the word; and up to an
-- address no word is an `xjmp`.
pub record AtWord {W : Type 0} (look : W → Word) (plain : Word → W) (base last at upto : ℕ)
    (Also : ℕ → Type 0) (s : State W) : Type 0 where
  pub touches : (a : ℕ) → Touches look s a
      → IsInRange a base last ⊎ ((look s.regs.pc ≡ Mem (code_cap base last at)) × Also a)
  pub at_pc : (t : State W) → step_of look plain s ≡ went t → look s.regs.pc ≡ Mem (code_cap base last at)
  pub no_jump : (t : State W) → step_of look plain s ≡ went t → at < upto → jump_at look s ≡ None

-- the words of a call, wherever stk stands in its range: this too may be touched, and but for the last they
-- are no `xjmp`
abbrev pub CallWords : {W : Type 0} → (W → Word) → (Word → W) → Type 0
CallWords {W} look plain = (s : State W) (base last at seal : ℕ) (c : CapFields)
    → HasCall look s.cells base last at seal
    → look s.regs.pc ≡ Mem (code_cap base last at) → look s.regs.stk ≡ Mem c
    → ((a : ℕ) → IsInRange a c.base c.end → IsOutsideRange a base last)
    → (k : ℕ) (t : State W) → k < CALL_WORDS → run_of look plain k s ≡ went t
    → AtWord look plain base last (at + k) (at + (CALL_WORDS - 1)) (λ a. IsInRange a c.base c.end) t

-- the words of an entry, whatever stk is
abbrev pub EntryWords : {W : Type 0} → (W → Word) → (Word → W) → Type 0
EntryWords {W} look plain = (s : State W) (base last at stack_base : ℕ)
    → HasEntry look s.cells base last at stack_base
    → look s.regs.pc ≡ Mem (code_cap base last at) → stack_base ≤ LAST_PLACE
    → (k : ℕ) (t : State W) → k < ENTRY_WORDS → run_of look plain k s ≡ went t
    → AtWord look plain base last (at + k) (at + ENTRY_WORDS) (λ a. ⊥) t

abbrev pub LoadsOrWipes : ℕ → Type 0
LoadsOrWipes k = (k ≡ load_word) ⊎ (k ≡ wipe_word)

-- the words of a return but its last, whatever stk and data are
abbrev pub ReturnWords : {W : Type 0} → (W → Word) → (Word → W) → Type 0
ReturnWords {W} look plain = (s : State W) (base last at stack_base : ℕ)
    → HasReturn look s.cells base last at stack_base
    → look s.regs.pc ≡ Mem (code_cap base last at) → stack_base ≤ LAST_PLACE
    → (k : ℕ) (t : State W) → k < RETURN_WORDS - 1 → run_of look plain k s ≡ went t
    → AtWord look plain base last (at + k) (at + RETURN_WORDS) (λ a. LoadsOrWipes k) t

-- all of them, where stk and data are joined: only the first cell of data's stretch may also be touched
abbrev pub JointReturnWords : {W : Type 0} → (W → Word) → (Word → W) → Type 0
JointReturnWords {W} look plain = (s : State W) (base last at stack_base low b end : ℕ) (to : ℤ) (w : W)
    → HasReturn look s.cells base last at stack_base
    → look s.regs.pc ≡ Mem (code_cap base last at)
    → look s.regs.stk ≡ Mem (record (stack_cap stack_base low 0) { addr = to })
    → look s.regs.dat ≡ Mem (stack_cap b end b)
    → low + 1 ≡ b → stack_base ≤ b → b ≤ end → end ≤ LAST_PLACE
    → IsOutsideRange b base last → cell s.cells b ≡ Some w → is_linear (look w) ≡ false
    → (k : ℕ) (t : State W) → k < RETURN_WORDS → run_of look plain k s ≡ went t
    → AtWord look plain base last (at + k) (at + RETURN_WORDS) (λ a. (a ≡ b) × LoadsOrWipes k) t
