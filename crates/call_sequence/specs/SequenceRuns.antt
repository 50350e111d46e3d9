-- What the sequences do where they stand in the code of a part, for words of any kind.
use Rattle.std.specs.Prelude.{◌≡◌, ◌≢◌, ◌⊎◌, ℕ, ◌+◌, ◌-◌, ◌<◌, ◌≤◌, ◌==◌, Bool, true, false, ℤ, pos}
use Rattle.std.specs.Prelude.{[], ◌∷◌, Some}
use Rattle.std.specs.Ordering.{nat_cmp}
use Rattle.std.specs.FinMap.{FinMap}
use Rattle.cap_words.specs.declared.TheConstants.{LAST_PLACE}
use Rattle.cap_words.specs.declared.Word.{Word}
use Rattle.cap_words.specs.declared.Word.TheVariants.{Mem, Seal, Sealed}
use Rattle.cap_words.specs.declared.Sealable.TheVariants.{Mem as MemIn}
use Rattle.cap_words.specs.declared.CapFields.{CapFields}
use Rattle.cap_words.specs.declared.SealFields.{SealFields}
use Rattle.cap_words.specs.declared.Lin.TheVariants.{Linear}
use Rattle.cap_words.specs.declared.Perm.TheVariants.{Rw}
use Rattle.cap_words.specs.declared.Face.{Face}
use Rattle.cap_words.specs.declared.Face.TheVariants.{Memory}
use Rattle.cap_words.specs.Face.{face_of, FaceInOrder}
use Rattle.cap_words.specs.Faces.{covers, perm_number, same_kind}
use Rattle.cap_words.specs.Linear.{is_linear, lin_is, zero_word}
use Rattle.cap_words.specs.Stacks.{is_stack_from}
use Rattle.lcm_isa.specs.declared.Reg.TheVariants.{C1, C2}
use Rattle.lcm_isa.specs.declared.Instr.TheVariants.{Fail, Xjmp}
use Rattle.lcm_machine.specs.declared.FailCause.TheVariants.{F4}
use Rattle.lcm_machine.specs.Maps.{State}
use Rattle.lcm_machine.specs.Cells.{cell, set_cell}
use Rattle.lcm_machine.specs.Row.{row, went, failed}
use Rattle.lcm_machine.specs.Runs.{run_of, Stands, code_cap}
use Rattle.lcm_machine.specs.Refusals.{HasFailed, CannotJoin}
use Rattle.call_sequence.specs.declared.TheConstants.{CALL_WORDS, RETURN_WORDS, ENTRY_WORDS}
use Rattle.call_sequence.specs.Sequences.{call_code, return_code, entry_code, split_word, load_word}

-- a linear rw capability over stack cells
abbrev pub stack_cap : ℕ → ℕ → ℕ → CapFields
stack_cap base end at = record { perm = Rw; lin = Linear; base = base; end = end; addr = pos at }

-- an address outside a range
abbrev pub IsOutsideRange : ℕ → ℕ → ℕ → Type 0
IsOutsideRange a base last = (a < base) ⊎ (last < a)

-- ---- sequences in memory, in the code of a part from base to last

-- At an address stands a call. Its literal is the capability over the seals of the part, at the first, and
-- the call's number leads to this seal.
pub record HasCall {W : Type 0} (look : W → Word) (m : FinMap nat_cmp W)
    (base last at seal : ℕ) : Type 0 where
  pub offset : ℕ
  pub literal : ℕ
  pub number : ℕ
  pub at_is : at ≡ base + offset
  pub code : Stands look m at (call_code literal offset number)
  pub ends : at + CALL_WORDS ≤ last
  pub small : last ≤ LAST_PLACE
  pub literal_in : base + literal ≤ last
  pub word : W
  pub word_is : cell m (base + literal) ≡ Some word
  pub seals : SealFields
  pub shows : look word ≡ Seal seals
  pub first : seals.cur ≡ pos seals.base
  pub seal_is : seals.base + number ≡ seal
  pub seal_in : seal ≤ seals.end
  pub small_seal : seal ≤ LAST_PLACE

-- the instruction `fail` stands at an offset
abbrev pub FailsAt : {W : Type 0} → (W → Word) → FinMap nat_cmp W → ℕ → ℕ → ℕ → Type 0
FailsAt look m base last fail = Stands look m (base + fail) (Fail ∷ []) × (base + fail ≤ last)

-- at an address stands a return, which leads to a `fail` where the stack doesn't begin at its base
pub record HasReturn {W : Type 0} (look : W → Word) (m : FinMap nat_cmp W) (base last at stack_base : ℕ)
    : Type 0 where
  pub offset : ℕ
  pub fail : ℕ
  pub at_is : at ≡ base + offset
  pub code : Stands look m at (return_code fail offset stack_base)
  pub ends : at + RETURN_WORDS ≤ last + 1
  pub small : last ≤ LAST_PLACE
  pub fails : FailsAt look m base last fail

-- at an address stands an entry, which leads to a `fail` where stk isn't the stack
pub record HasEntry {W : Type 0} (look : W → Word) (m : FinMap nat_cmp W) (base last at stack_base : ℕ)
    : Type 0 where
  pub offset : ℕ
  pub fail : ℕ
  pub at_is : at ≡ base + offset
  pub code : Stands look m at (entry_code fail offset stack_base)
  pub ends : at + ENTRY_WORDS ≤ last + 1
  pub small : last ≤ LAST_PLACE
  pub fails : FailsAt look m base last fail

-- ---- a call

-- The state at a call's `xjmp`: what data held was stored at b + 1, and the stack is split after b. rcode
-- and rdata are sealed, the code after the call's words and the stack from b + 1 on.
abbrev pub at_xjmp : {W : Type 0} → (Word → W) → State W → ℕ → ℕ → ℕ → ℕ → ℕ → ℕ → ℕ → State W
at_xjmp plain s base last at seal stack_base end b = record s {
  regs = record s.regs {
    pc = plain (Mem (code_cap base last (at + (CALL_WORDS - 1))));
    rcode = plain (Sealed seal (MemIn (code_cap base last (at + CALL_WORDS))));
    rdata = plain (Sealed seal (MemIn (stack_cap (b + 1) end (b + 1))));
    stk = plain (Mem (stack_cap stack_base b b));
    t1 = zero_word plain;
    t2 = zero_word plain;
  };
  cells = set_cell s.cells (b + 1) s.regs.dat;
}

-- a call with stk above its base, up to its `xjmp`
abbrev pub CallRuns : {W : Type 0} → (W → Word) → (Word → W) → Type 0
CallRuns {W} look plain = (s : State W) (base last at seal stack_base end b : ℕ) (w : W)
    → HasCall look s.cells base last at seal
    → look s.regs.pc ≡ Mem (code_cap base last at) → look s.regs.stk ≡ Mem (stack_cap stack_base end (b + 1))
    → is_linear (look s.regs.dat) ≡ false → stack_base ≤ b → b + 1 ≤ end → end ≤ LAST_PLACE
    → IsOutsideRange (b + 1) base last → cell s.cells (b + 1) ≡ Some w
    → run_of look plain (CALL_WORDS - 1) s ≡ went (at_xjmp plain s base last at seal stack_base end b)

-- and with it: that is an `xjmp` of c1 and c2
abbrev pub CallJumps : {W : Type 0} → (W → Word) → (Word → W) → Type 0
CallJumps {W} look plain = (s : State W) (base last at seal stack_base end b : ℕ) (w : W)
    → HasCall look s.cells base last at seal
    → look s.regs.pc ≡ Mem (code_cap base last at) → look s.regs.stk ≡ Mem (stack_cap stack_base end (b + 1))
    → is_linear (look s.regs.dat) ≡ false → stack_base ≤ b → b + 1 ≤ end → end ≤ LAST_PLACE
    → IsOutsideRange (b + 1) base last → cell s.cells (b + 1) ≡ Some w
    → run_of look plain CALL_WORDS s
    ≡ row look plain (Xjmp C1 C2) (Mem (code_cap base last (at + CALL_WORDS)))
    (at_xjmp plain s base last at seal stack_base end b)

-- with stk at its base it fails where it should split the stack, or before
abbrev pub CallAtBaseFails : {W : Type 0} → (W → Word) → (Word → W) → Type 0
CallAtBaseFails {W} look plain = (s : State W) (base last at seal stack_base end : ℕ) (w : W)
    → HasCall look s.cells base last at seal
    → look s.regs.pc ≡ Mem (code_cap base last at)
    → look s.regs.stk ≡ Mem (stack_cap stack_base end stack_base)
    → is_linear (look s.regs.dat) ≡ false → stack_base ≤ end → end ≤ LAST_PLACE
    → IsOutsideRange stack_base base last → cell s.cells stack_base ≡ Some w
    → HasFailed (run_of look plain (split_word + 1) s)

-- with stk outside its range it fails at its first word, a `store`
abbrev pub CallOutsideFails : {W : Type 0} → (W → Word) → (Word → W) → Type 0
CallOutsideFails {W} look plain = (s : State W) (base last at seal : ℕ) (c : CapFields)
    → HasCall look s.cells base last at seal
    → look s.regs.pc ≡ Mem (code_cap base last at) → look s.regs.stk ≡ Mem c → covers c c.addr ≡ false
    → HasFailed (run_of look plain 1 s)

-- ---- a return

-- stk and data, the stretch right after it, are joined; data is what the first of its cells held, which is
-- now 0
abbrev pub ReturnRuns : {W : Type 0} → (W → Word) → (Word → W) → Type 0
ReturnRuns {W} look plain = (s : State W) (base last at stack_base low b end : ℕ) (to : ℤ) (w : W)
    → HasReturn look s.cells base last at stack_base
    → look s.regs.pc ≡ Mem (code_cap base last at)
    → look s.regs.stk ≡ Mem (record (stack_cap stack_base low 0) { addr = to })
    → look s.regs.dat ≡ Mem (stack_cap b end b)
    → low + 1 ≡ b → stack_base ≤ b → b ≤ end → end ≤ LAST_PLACE
    → IsOutsideRange b base last → cell s.cells b ≡ Some w → is_linear (look w) ≡ false
    → run_of look plain RETURN_WORDS s ≡ went (record s {
      regs = record s.regs {
        pc = plain (Mem (code_cap base last (at + RETURN_WORDS)));
        stk = plain (Mem (stack_cap stack_base end b));
        dat = w;
        t1 = zero_word plain;
        t2 = zero_word plain;
      };
      cells = set_cell s.cells b (zero_word plain);
    })

-- where they can't be joined it fails at `splice`
abbrev pub ReturnApartFails : {W : Type 0} → (W → Word) → (Word → W) → Type 0
ReturnApartFails {W} look plain = (s : State W) (base last at stack_base : ℕ)
    → HasReturn look s.cells base last at stack_base
    → look s.regs.pc ≡ Mem (code_cap base last at)
    → CannotJoin (face_of (look s.regs.stk)) (face_of (look s.regs.dat))
    → HasFailed (run_of look plain 1 s)

-- and where what is joined doesn't begin at the stack's base, at the `fail`, in place of the load
abbrev pub ReturnOffBaseFails : {W : Type 0} → (W → Word) → (Word → W) → Type 0
ReturnOffBaseFails {W} look plain = (s : State W) (base last at stack_base : ℕ) (low high : CapFields)
    → (code : HasReturn look s.cells base last at stack_base)
    → look s.regs.pc ≡ Mem (code_cap base last at) → look s.regs.stk ≡ Mem low → look s.regs.dat ≡ Mem high
    → lin_is low.lin ≡ true → lin_is high.lin ≡ true → same_kind low high ≡ true → low.end + 1 ≡ high.base
    → low.base ≤ LAST_PLACE → stack_base ≤ LAST_PLACE → low.base ≢ stack_base
    → run_of look plain (load_word + 1) s ≡ failed F4 (pos (base + code.fail))

-- ---- an entry

-- stk, a linear rw capability that begins at the stack's base, is set to its end
abbrev pub EntryRuns : {W : Type 0} → (W → Word) → (Word → W) → Type 0
EntryRuns {W} look plain = (s : State W) (base last at stack_base : ℕ) (c : CapFields)
    → HasEntry look s.cells base last at stack_base
    → look s.regs.pc ≡ Mem (code_cap base last at) → look s.regs.stk ≡ Mem c
    → lin_is c.lin ≡ true → (perm_number c.perm == 2) ≡ true → c.base ≡ stack_base
    → stack_base ≤ c.end → c.end ≤ LAST_PLACE
    → run_of look plain ENTRY_WORDS s ≡ went (record s {
      regs = record s.regs {
        pc = plain (Mem (code_cap base last (at + ENTRY_WORDS)));
        stk = plain (Mem (record c { addr = pos c.end }));
        t1 = zero_word plain;
        t2 = zero_word plain;
      };
    })

-- what an entry asks of stk
abbrev pub is_stack_at : ℕ → Face → Bool
is_stack_at stack_base (Memory c) = is_stack_from stack_base c
is_stack_at stack_base _ = false

-- with any other stk, of whatever kind, it fails at the `fail`
abbrev pub EntryFails : {W : Type 0} → (W → Word) → (Word → W) → Type 0
EntryFails {W} look plain = (s : State W) (base last at stack_base : ℕ)
    → (code : HasEntry look s.cells base last at stack_base)
    → look s.regs.pc ≡ Mem (code_cap base last at) → FaceInOrder (face_of (look s.regs.stk))
    → is_stack_at stack_base (face_of (look s.regs.stk)) ≡ false → stack_base ≤ LAST_PLACE
    → run_of look plain ENTRY_WORDS s ≡ failed F4 (pos (base + code.fail))
