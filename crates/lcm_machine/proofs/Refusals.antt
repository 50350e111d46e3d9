-- A run that failed stays failed, and where `store`, `split` and `splice` fail.
use Rattle.std.proofs.Common.{◌≡◌, ℕ, ◌+◌, ◌≤◌, ℤ, true, false, Some, [], ◌∷◌, refl}
use Rattle.std.specs.Prelude.{Bool}
use Rattle.cap_words.specs.declared.Word.{Word}
use Rattle.cap_words.specs.declared.Word.TheVariants.{Mem}
use Rattle.cap_words.specs.declared.CapFields.{CapFields}
use Rattle.cap_words.specs.declared.Face.{Face}
use Rattle.cap_words.specs.declared.Face.TheVariants.{Number, Memory, Seals, Sealed}
use Rattle.cap_words.specs.Faces.{covers, may_write, can_split}
use Rattle.lcm_isa.specs.declared.Reg.{Reg}
use Rattle.lcm_isa.specs.declared.Operand.{Operand}
use Rattle.lcm_isa.specs.declared.Instr.{Instr}
use Rattle.lcm_isa.specs.declared.Instr.TheVariants.{Store, Split, Splice}
use Rattle.lcm_isa.specs.Numbers.{IsInstr}
use Rattle.lcm_machine.specs.Maps.{State}
use Rattle.lcm_machine.specs.Places.{reg}
use Rattle.lcm_machine.specs.Table.{is_pc, ask, need, operand}
use Rattle.lcm_machine.specs.Row.{Outcome, went, halted, failed, row, plan_in, faces}
use Rattle.lcm_machine.specs.Runs.{and_then, run_of, Stands, code_cap}
use Rattle.lcm_machine.specs.Refusals.{HasFailed, CannotJoin}
use Rattle.lcm_machine.proofs.Goes.{shows, run_of-add, run_then}
use Rattle.lcm_machine.proofs.StepRows.{step_row, run_one}

module _ {W : Type 0} (look : W → Word) (plain : Word → W) where
  -- a run that failed stays failed
  pub failed_more : (n m : ℕ) (s : State W) → HasFailed (run_of look plain n s)
      → HasFailed (run_of look plain (n + m) s)
  failed_more n m s h = rw (run_of-add look plain n m s) (still (run_of look plain n s) h)
    where
      still : (r : Outcome W) → HasFailed r → HasFailed (and_then r (run_of look plain m))
      still (went t) h = absurd h
      still halted h = absurd h
      still (failed cause at) h = tt

  -- what goes on and then fails
  pub then_failed : (n m : ℕ) (s t : State W) → run_of look plain n s ≡ went t
      → HasFailed (run_of look plain m t) → HasFailed (run_of look plain (n + m) s)
  then_failed n m s t e h = rw (run_then look plain n m s t _ e refl) h

  store_fails_by : (a b : Reg) (next : Word) (s : State W) (c : CapFields) (p : Bool) → may_write c.perm ≡ p
      → look (reg s.regs a) ≡ Mem c → covers c c.addr ≡ false → HasFailed (row look plain (Store a b) next s)
  unfolding row plan_in ask need
  store_fails_by a b next s c true hp hc out = rw (shows look plain s a (Mem c) hc, hp, out) tt
  store_fails_by a b next s c false hp hc out = rw (shows look plain s a (Mem c) hc, hp) tt

  pub store_fails : (a b : Reg) (next : Word) (s : State W) (c : CapFields) → look (reg s.regs a) ≡ Mem c
      → covers c c.addr ≡ false → HasFailed (row look plain (Store a b) next s)
  store_fails a b next s c hc out = store_fails_by a b next s c (may_write c.perm) refl hc out

  pub split_fails : (a b d : Reg) (n : Operand) (next : Word) (s : State W) (c : CapFields) (z : ℤ)
      → is_pc a ≡ false → is_pc b ≡ false → look (reg s.regs d) ≡ Mem c → operand (faces look s) n ≡ Some z
      → can_split c z ≡ false
      → HasFailed (row look plain (Split a b d n) next s)
  unfolding row plan_in ask need
  split_fails a b d n next s c z ha hb hc hz out = rw (ha, hb, shows look plain s d (Mem c) hc, hz, out) tt

  pub splice_fails : (a b d : Reg) (next : Word) (s : State W) (x y : Face) → is_pc a ≡ false
      → faces look s b ≡ x → faces look s d ≡ y → CannotJoin x y
      → HasFailed (row look plain (Splice a b d) next s)
  unfolding row plan_in ask need
  splice_fails a b d next s (Memory low) (Memory high) hp hx hy h = rw (hp, hx, hy, h) tt
  splice_fails a b d next s (Memory low) (Number z) hp hx hy h = rw (hp, hx, hy) tt
  splice_fails a b d next s (Memory low) (Seals z) hp hx hy h = rw (hp, hx, hy) tt
  splice_fails a b d next s (Memory low) (Sealed z) hp hx hy h = rw (hp, hx, hy) tt
  splice_fails a b d next s (Number z) y hp hx hy h = rw (hp, hx) tt
  splice_fails a b d next s (Seals z) y hp hx hy h = rw (hp, hx) tt
  splice_fails a b d next s (Sealed z) y hp hx hy h = rw (hp, hx) tt

  -- the run of code that stands in memory fails where its row does
  pub stops : (s : State W) (base last at : ℕ) (i : Instr) → look s.regs.pc ≡ Mem (code_cap base last at)
      → base ≤ at → at ≤ last → Stands look s.cells at (i ∷ []) → IsInstr i
      → HasFailed (row look plain i (Mem (code_cap base last (at + 1))) s) → HasFailed (run_of look plain 1 s)
  stops s base last at i hpc low high code ok h =
      rw (run_one look plain s, step_row look plain s base last at i hpc low high code.0 ok) h
