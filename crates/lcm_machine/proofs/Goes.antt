-- What an instruction does where its conditions hold, and one step of a run, for words of any kind.
use Rattle.std.specs.Prelude.{unwrap_or, if◌then◌else◌, int_lt}
use Rattle.std.specs.Ordering.{nat_cmp}
use Rattle.std.specs.FinMap.{FinMap}
use Rattle.std.proofs.Common.{sym, ◌∙◌, ◌≡◌, ◌≢◌, ℕ, zero, suc, List, [], ◌∷◌, length, arith, zero-add}
use Rattle.std.proofs.Common.{suc-add, ◌+◌, ◌<◌, ◌≤◌, ℤ, pos, ◌+ℤ◌, ◌-ℤ◌, true, false, Some, refl, ap, le-leb}
use Rattle.std.proofs.Common.{lt-ltb, eq-eqb}
use Rattle.cap_words.specs.declared.Word.{Word}
use Rattle.cap_words.specs.declared.Word.TheVariants.{Int, Mem, Seal, Sealed}
use Rattle.cap_words.specs.declared.Sealable.TheVariants.{Mem as MemIn, Seal as SealIn}
use Rattle.cap_words.specs.declared.Perm.{Perm}
use Rattle.cap_words.specs.declared.Content.{Content}
use Rattle.cap_words.specs.declared.Content.TheVariants.{Mem as MemC}
use Rattle.cap_words.specs.declared.Opened.{Opened}
use Rattle.cap_words.specs.declared.CapFields.{CapFields}
use Rattle.cap_words.specs.declared.SealFields.{SealFields}
use Rattle.cap_words.specs.declared.Face.TheVariants.{Number}
use Rattle.cap_words.specs.Linear.{is_linear, zero_word, left_of, lin_is}
use Rattle.cap_words.specs.Face.{face_of, opened_of}
use Rattle.cap_words.specs.Faces.{may_run, may_write, may_read, face_linear, face_number, face_address}
use Rattle.cap_words.specs.Faces.{face_base, face_end, face_perm, perm_at, is_below, same_kind}
use Rattle.lcm_isa.specs.declared.Reg.{Reg}
use Rattle.lcm_isa.specs.declared.Reg.TheVariants.{Pc, Dat}
use Rattle.lcm_isa.specs.declared.Operand.{Operand}
use Rattle.lcm_isa.specs.declared.Operand.TheVariants.{R as InReg, Imm}
use Rattle.lcm_isa.specs.declared.Instr.{Instr}
use Rattle.lcm_isa.specs.declared.Instr.TheVariants.{Fail, Halt, Jmp, Jnz, Gettype, Geta, Getb, Gete, Getp}
use Rattle.lcm_isa.specs.declared.Instr.TheVariants.{Getlin, Move, Store, Load, Cca, Restrict, Lt, Plus}
use Rattle.lcm_isa.specs.declared.Instr.TheVariants.{Minus, Seta2b, Xjmp, Cseal, Split, Splice}
use Rattle.lcm_isa.specs.Numbers.{number_of, IsInstr}
use Rattle.lcm_isa.proofs.Offers.{decode_of-number_of}
use Rattle.lcm_machine.specs.declared.FailCause.{FailCause}
use Rattle.lcm_machine.specs.declared.FailCause.TheVariants.{F4}
use Rattle.lcm_machine.specs.declared.Place.{Place}
use Rattle.lcm_machine.specs.declared.Place.TheVariants.{R, Cell}
use Rattle.lcm_machine.specs.Maps.{State}
use Rattle.lcm_machine.specs.Places.{reg}
use Rattle.lcm_machine.specs.Cells.{cell, set_cell}
use Rattle.lcm_machine.specs.Table.{runs_in, unsealed, ask, need, by_cap, is_pc, is_zero, bit, operand}
use Rattle.lcm_machine.specs.Table.{fits_64}
use Rattle.lcm_machine.specs.Row.{word_in, put, clear, perform, opens, faces, cell_faces, look_face, plan_in}
use Rattle.lcm_machine.specs.Row.{row, fetch, some, step_of, Outcome, went, halted, failed, pc_of, pc_at}
use Rattle.lcm_machine.specs.Runs.{and_then, run_of, Stands, code_cap}
use Rattle.lcm_machine.proofs.RegLemmas.{set_reg-reg}
use Rattle.lcm_machine.proofs.CellLemmas.{cell-set_other}

module _ {W : Type 0} (look : W → Word) (plain : Word → W) where
  -- a taking leaves a word that isn't linear, and 0 in place of one that is
  pub stays : (s : State W) (p : Place) → is_linear (look (word_in plain s p)) ≡ false
      → clear look plain s p ≡ s
  unfolding clear
  stays s p h = rw h

  pub leaves : (s : State W) (p : Place) → is_linear (look (word_in plain s p)) ≡ true
      → clear look plain s p ≡ put s p (zero_word plain)
  unfolding clear
  leaves s p h = rw h

  pub shows : (s : State W) (r : Reg) (x : Word) → look (reg s.regs r) ≡ x → faces look s r ≡ face_of x
  unfolding faces
  shows s r x h = ap face_of h

  cell_shows : (s : State W) (a : ℕ) (w : W) → cell s.cells a ≡ Some w
      → cell_faces look s a ≡ Some (face_of (look w))
  unfolding cell_faces
  cell_shows s a w h = ap (look_face look) h

  pub number_in : (s : State W) (r : Reg) (z : ℤ) → look (reg s.regs r) ≡ Int z
      → operand (faces look s) (InReg r) ≡ Some z
  unfolding faces
  number_in s r z h = rw h

  pub fail_fails : (next : Word) (s : State W) → row look plain Fail next s ≡ failed F4 (pc_at look s)
  unfolding row plan_in
  fail_fails next s = refl

  pub halt_halts : (next : Word) (s : State W) → row look plain Halt next s ≡ halted
  unfolding row plan_in
  halt_halts next s = refl

  pub jmp_goes : (a : Reg) (next : Word) (s s' : State W) → clear look plain s (R a) ≡ s'
      → row look plain (Jmp a) next s ≡ went (put s' (R Pc) (reg s.regs a))
  unfolding row plan_in perform
  jmp_goes a next s s' e = rw e

  -- on 0 pc goes on, else it jumps
  pub jnz_goes : (a b : Reg) (next : Word) (s : State W) (z : ℤ) → look (reg s.regs b) ≡ Int z
      → is_zero z ≡ true
      → row look plain (Jnz a b) next s ≡ went (put s (R Pc) (plain next))
  unfolding row plan_in perform need
  jnz_goes a b next s z hz h = rw (shows s b (Int z) hz, h)

  pub jnz_jumps : (a b : Reg) (next : Word) (s s' : State W) (z : ℤ) → look (reg s.regs b) ≡ Int z
      → is_zero z ≡ false → clear look plain s (R a) ≡ s'
      → row look plain (Jnz a b) next s ≡ went (put s' (R Pc) (reg s.regs a))
  unfolding row plan_in perform need
  jnz_jumps a b next s s' z hz h e = rw (shows s b (Int z) hz, h, e)

  pub move_goes : (a b : Reg) (next : Word) (s s' : State W) → is_pc a ≡ false → clear look plain s (R b) ≡ s'
      → row look plain (Move a (InReg b))
      next s ≡ went (put (put s' (R a) (reg s.regs b)) (R Pc) (plain next))
  unfolding row plan_in perform ask need
  move_goes a b next s s' ha e = rw (ha, e)

  pub set_goes : (a : Reg) (z : ℤ) (next : Word) (s : State W) → is_pc a ≡ false
      → row look plain (Move a (Imm z)) next s ≡ went (put (put s (R a) (plain (Int z))) (R Pc) (plain next))
  unfolding row plan_in perform ask need
  set_goes a z next s ha = rw ha

  pub store_goes : (a b : Reg) (next : Word) (s s' : State W) (c : CapFields) (at : ℕ) (w : W)
      → look (reg s.regs a) ≡ Mem c → may_write c.perm ≡ true → c.addr ≡ pos at → c.base ≤ at → at ≤ c.end
      → cell s.cells at ≡ Some w → clear look plain s (R b) ≡ s'
      → row look plain (Store a b) next s ≡ went (put (put s' (Cell at) (reg s.regs b)) (R Pc) (plain next))
  unfolding row plan_in perform ask need
  store_goes a b next s s' c at w hc hp ha low high h e =
      rw (shows s a (Mem c) hc, hp, ha, le-leb c.base at low, le-leb at c.end high, cell_shows s at w h, e)

  stays_cell : (s : State W) (a : ℕ) (w : W) (x : Word) → cell s.cells a ≡ Some w → look w ≡ x
      → is_linear x ≡ false → clear look plain s (Cell a) ≡ s
  stays_cell s a w x h e l =
      stays s (Cell a) (ap (λ o. is_linear (look (unwrap_or o (zero_word plain)))) h ∙ ap is_linear e ∙ l)

  leaves_cell : (s : State W) (a : ℕ) (w : W) (x : Word) → cell s.cells a ≡ Some w → look w ≡ x
      → is_linear x ≡ true → clear look plain s (Cell a) ≡ put s (Cell a) (zero_word plain)
  leaves_cell s a w x h e l =
      leaves s (Cell a) (ap (λ o. is_linear (look (unwrap_or o (zero_word plain)))) h ∙ ap is_linear e ∙ l)

  -- of a word that isn't linear
  pub load_goes : (a b : Reg) (next : Word) (s : State W) (c : CapFields) (at : ℕ) (w : W) (x : Word)
      → is_pc a ≡ false → look (reg s.regs b) ≡ Mem c → may_read c.perm ≡ true → c.addr ≡ pos at → c.base ≤ at
      → at ≤ c.end → cell s.cells at ≡ Some w
      → look w ≡ x → is_linear x ≡ false → face_linear (face_of x) ≡ false
      → row look plain (Load a b) next s ≡ went (put (put s (R a) w) (R Pc) (plain next))
  unfolding row plan_in perform ask need
  load_goes a b next s c at w x hp hc hr ha low high h e l fl =
      rw (
        hp,
        shows s b (Mem c)
            hc,
        hr,
        ha,
        le-leb c.base at low,
        le-leb at c.end high,
        cell_shows s at w h,
        e,
        fl,
        stays_cell s at w x
            h e l,
        h,
      )

  -- a linear word's cell is left with 0
  pub load_linear_goes : (a b : Reg) (next : Word) (s : State W) (c : CapFields) (at : ℕ) (w : W) (x : Word)
      → is_pc a ≡ false → look (reg s.regs b) ≡ Mem c → may_read c.perm ≡ true → may_write c.perm ≡ true
      → c.addr ≡ pos at → c.base ≤ at → at ≤ c.end → cell s.cells at ≡ Some w
      → look w ≡ x → is_linear x ≡ true → face_linear (face_of x) ≡ true
      → row look plain (Load a b)
      next s ≡ went (put (put (put s (Cell at) (zero_word plain)) (R a) w) (R Pc) (plain next))
  unfolding row plan_in perform ask need
  load_linear_goes a b next s c at w x hp hc hr hw ha low high h e l fl =
      rw (
        hp,
        shows s b (Mem c)
            hc,
        hr,
        ha,
        le-leb c.base at low,
        le-leb at c.end high,
        cell_shows s at w h,
        e,
        fl,
        hw,
        leaves_cell s at
            w x h e l,
        h,
      )

  pub cca_goes : (a : Reg) (n : Operand) (next : Word) (s : State W) (c : CapFields) (z to : ℤ)
      → is_pc a ≡ false → look (reg s.regs a) ≡ Mem c → operand (faces look s) n ≡ Some z → c.addr +ℤ z ≡ to
      → fits_64 to ≡ true
      → row look plain (Cca a n)
      next s ≡ went (put (put s (R a) (plain (Mem (record c { addr = to })))) (R Pc) (plain next))
  unfolding row plan_in perform ask need by_cap
  cca_goes a n next s c z to hp hc hz e hf = rw (hp, shows s a (Mem c) hc, hz, e, hf)

  pub cca_seal_goes : (a : Reg) (n : Operand) (next : Word) (s : State W) (c : SealFields) (z to : ℤ)
      → is_pc a ≡ false → look (reg s.regs a) ≡ Seal c → operand (faces look s) n ≡ Some z → c.cur +ℤ z ≡ to
      → fits_64 to ≡ true
      → row look plain (Cca a n)
      next s ≡ went (put (put s (R a) (plain (Seal (record c { cur = to })))) (R Pc) (plain next))
  unfolding row plan_in perform ask need by_cap
  cca_seal_goes a n next s c z to hp hc hz e hf = rw (hp, shows s a (Seal c) hc, hz, e, hf)

  pub gettype_goes : (a b : Reg) (next : Word) (s : State W) (x : Word) → is_pc a ≡ false
      → look (reg s.regs b) ≡ x
      → row look plain (Gettype a b)
      next s ≡ went (put (put s (R a) (plain (Int (face_number (face_of x))))) (R Pc) (plain next))
  unfolding row plan_in perform ask need
  gettype_goes a b next s x hp hx = rw (hp, shows s b x hx)

  pub geta_goes : (a b : Reg) (next : Word) (s : State W) (x : Word) → is_pc a ≡ false
      → look (reg s.regs b) ≡ x
      → row look plain (Geta a b)
      next s ≡ went (put (put s (R a) (plain (Int (face_address (face_of x))))) (R Pc) (plain next))
  unfolding row plan_in perform ask need
  geta_goes a b next s x hp hx = rw (hp, shows s b x hx)

  pub getb_goes : (a b : Reg) (next : Word) (s : State W) (x : Word) → is_pc a ≡ false
      → look (reg s.regs b) ≡ x
      → row look plain (Getb a b)
      next s ≡ went (put (put s (R a) (plain (Int (face_base (face_of x))))) (R Pc) (plain next))
  unfolding row plan_in perform ask need
  getb_goes a b next s x hp hx = rw (hp, shows s b x hx)

  pub gete_goes : (a b : Reg) (next : Word) (s : State W) (x : Word) → is_pc a ≡ false
      → look (reg s.regs b) ≡ x
      → row look plain (Gete a b)
      next s ≡ went (put (put s (R a) (plain (Int (face_end (face_of x))))) (R Pc) (plain next))
  unfolding row plan_in perform ask need
  gete_goes a b next s x hp hx = rw (hp, shows s b x hx)

  pub getp_goes : (a b : Reg) (next : Word) (s : State W) (x : Word) → is_pc a ≡ false
      → look (reg s.regs b) ≡ x
      → row look plain (Getp a b)
      next s ≡ went (put (put s (R a) (plain (Int (face_perm (face_of x))))) (R Pc) (plain next))
  unfolding row plan_in perform ask need
  getp_goes a b next s x hp hx = rw (hp, shows s b x hx)

  pub getlin_goes : (a b : Reg) (next : Word) (s : State W) (x : Word) → is_pc a ≡ false
      → look (reg s.regs b) ≡ x
      → row look plain (Getlin a b)
      next s ≡ went (put (put s (R a) (plain (Int (bit (face_linear (face_of x)))))) (R Pc) (plain next))
  unfolding row plan_in perform ask need
  getlin_goes a b next s x hp hx = rw (hp, shows s b x hx)

  pub restrict_goes : (a : Reg) (n : Operand) (next : Word) (s : State W) (c : CapFields) (z : ℤ) (p : Perm)
      → is_pc a ≡ false → look (reg s.regs a) ≡ Mem c → operand (faces look s) n ≡ Some z → perm_at z ≡ Some p
      → is_below p c.perm ≡ true
      → row look plain (Restrict a n)
      next s ≡ went (put (put s (R a) (plain (Mem (record c { perm = p })))) (R Pc) (plain next))
  unfolding row plan_in perform ask need
  restrict_goes a n next s c z p hp hc hz e hb = rw (hp, shows s a (Mem c) hc, hz, e, hb)

  pub lt_goes : (a b : Reg) (n : Operand) (next : Word) (s : State W) (x y : ℤ) → is_pc a ≡ false
      → look (reg s.regs b) ≡ Int x → operand (faces look s) n ≡ Some y
      → row look plain (Lt a b n)
      next s ≡ went (put (put s (R a) (plain (Int (bit (int_lt x y))))) (R Pc) (plain next))
  unfolding row plan_in perform ask need
  lt_goes a b n next s x y hp hx hy = rw (hp, shows s b (Int x) hx, hy)

  pub plus_goes : (a b : Reg) (n : Operand) (next : Word) (s : State W) (x y z : ℤ) → is_pc a ≡ false
      → look (reg s.regs b) ≡ Int x → operand (faces look s) n ≡ Some y → x +ℤ y ≡ z → fits_64 z ≡ true
      → row look plain (Plus a b n) next s ≡ went (put (put s (R a) (plain (Int z))) (R Pc) (plain next))
  unfolding row plan_in perform ask need
  plus_goes a b n next s x y z hp hx hy e hf = rw (hp, shows s b (Int x) hx, hy, e, hf)

  pub minus_goes : (a b : Reg) (n : Operand) (next : Word) (s : State W) (x y z : ℤ) → is_pc a ≡ false
      → look (reg s.regs b) ≡ Int x → operand (faces look s) n ≡ Some y → x -ℤ y ≡ z → fits_64 z ≡ true
      → row look plain (Minus a b n) next s ≡ went (put (put s (R a) (plain (Int z))) (R Pc) (plain next))
  unfolding row plan_in perform ask need
  minus_goes a b n next s x y z hp hx hy e hf = rw (hp, shows s b (Int x) hx, hy, e, hf)

  pub seta2b_goes : (a : Reg) (next : Word) (s : State W) (c : CapFields) → is_pc a ≡ false
      → look (reg s.regs a) ≡ Mem c
      → row look plain (Seta2b a)
      next s ≡ went (put (put s (R a) (plain (Mem (record c { addr = pos c.base })))) (R Pc) (plain next))
  unfolding row plan_in perform ask by_cap
  seta2b_goes a next s c hp hc = rw (hp, shows s a (Mem c) hc)

  pub seta2b_seal_goes : (a : Reg) (next : Word) (s : State W) (c : SealFields) → is_pc a ≡ false
      → look (reg s.regs a) ≡ Seal c
      → row look plain (Seta2b a)
      next s ≡ went (put (put s (R a) (plain (Seal (record c { cur = pos c.base })))) (R Pc) (plain next))
  unfolding row plan_in perform ask by_cap
  seta2b_seal_goes a next s c hp hc = rw (hp, shows s a (Seal c) hc)

  pub split_goes : (a b d : Reg) (n : Operand) (next : Word) (s s' : State W) (c : CapFields) (z : ℕ)
      → is_pc a ≡ false → is_pc b ≡ false → look (reg s.regs d) ≡ Mem c
      → operand (faces look s) n ≡ Some (pos z) → c.base ≤ z → z < c.end → clear look plain s (R d) ≡ s'
      → row look plain (Split a b d n)
      next s ≡ went
      (put (put (put s' (R a) (plain (Mem (record c { end = z })))) (R b)
      (plain (Mem (record c { base = z + 1 })))) (R Pc) (plain next))
  unfolding row plan_in perform ask need
  split_goes a b d n next s s' c z ha hb hc hz low high e =
      rw (ha, hb, shows s d (Mem c) hc, hz, le-leb c.base z low, lt-ltb z c.end high, e)

  pub cseal_goes : (a b : Reg) (next : Word) (s : State W) (c : CapFields) (q : SealFields) (seal : ℕ)
      → is_pc a ≡ false → look (reg s.regs a) ≡ Mem c → look (reg s.regs b) ≡ Seal q → q.cur ≡ pos seal
      → q.base ≤ seal → seal ≤ q.end
      → row look plain (Cseal a b)
      next s ≡ went (put (put s (R a) (plain (Sealed seal (MemIn c)))) (R Pc) (plain next))
  unfolding row plan_in perform ask need by_cap
  cseal_goes a b next s c q seal hp hc hq e low high =
      rw (hp, shows s a (Mem c) hc, shows s b (Seal q) hq, e, le-leb q.base seal low, le-leb seal q.end high)

  pub cseal_seal_goes : (a b : Reg) (next : Word) (s : State W) (c q : SealFields) (seal : ℕ)
      → is_pc a ≡ false → look (reg s.regs a) ≡ Seal c → look (reg s.regs b) ≡ Seal q → q.cur ≡ pos seal
      → q.base ≤ seal → seal ≤ q.end
      → row look plain (Cseal a b)
      next s ≡ went (put (put s (R a) (plain (Sealed seal (SealIn c)))) (R Pc) (plain next))
  unfolding row plan_in perform ask need by_cap
  cseal_seal_goes a b next s c q seal hp hc hq e low high =
      rw (hp, shows s a (Seal c) hc, shows s b (Seal q) hq, e, le-leb q.base seal low, le-leb seal q.end high)

  pub splice_goes : (a b d : Reg) (next : Word) (s s' s'' : State W) (l h : CapFields) → is_pc a ≡ false
      → look (reg s.regs b) ≡ Mem l → look (reg s.regs d) ≡ Mem h → same_kind l h ≡ true → l.end + 1 ≡ h.base
      → clear look plain s (R b) ≡ s' → clear look plain s' (R d) ≡ s''
      → row look plain (Splice a b d)
      next s ≡ went (put (put s'' (R a) (plain (Mem (record h { base = l.base })))) (R Pc) (plain next))
  unfolding row plan_in perform ask need
  splice_goes a b d next s s' s'' l h hp hl hh same joint e e' =
      rw (hp, shows s b (Mem l) hl, shows s d (Mem h) hh, same, eq-eqb (l.end + 1) h.base joint, e, e')

  opens_is : (s : State W) (r : Reg) (o : Opened) → opened_of (look (reg s.regs r)) ≡ Some o
      → opens look s r ≡ Some o
  unfolding opens
  opens_is s r o h = h

  pub xjmp_goes : (a b : Reg) (next : Word) (s s' : State W) (seal : ℕ) (c : CapFields) (x : Content)
      → opened_of (look (reg s.regs a)) ≡ Some (record { seal = seal; content = MemC c })
      → opened_of (look (reg s.regs b)) ≡ Some (record { seal = seal; content = x })
      → lin_is c.lin ≡ false → may_run c.perm ≡ true → runs_in x ≡ false → clear look plain s (R b) ≡ s'
      → row look plain (Xjmp a b)
      next s ≡ went (put (put s' (R Pc) (plain (Mem c))) (R Dat) (plain (unsealed x)))
  unfolding row plan_in perform ask need
  xjmp_goes a b next s s' seal c x ha hb hl hr hx e =
      rw (opens_is s a _ ha, opens_is s b _ hb, eq-eqb seal seal refl, hl, hr, hx, e)

  -- a taking from a register, linear or not
  pub left : (s : State W) (r : Reg)
      → clear look plain s (R r) ≡ put s (R r) (left_of look plain (reg s.regs r))
  unfolding clear
  left s r =
      elim (is_linear (look (reg s.regs r)))
      as (λ b. (if b then put s (R r) (zero_word plain) else s) ≡ put s (R r)
      (if b then zero_word plain else reg s.regs r))
      [ true ↦ refl | false ↦ ap (λ rs. record s { regs = rs }) (sym (set_reg-reg s.regs r)) ]

  -- the instruction at pc
  pub fetch_at : (s : State W) (base last at : ℕ) (i : Instr) → look s.regs.pc ≡ Mem (code_cap base last at)
      → base ≤ at → at ≤ last → look_face look (cell s.cells at) ≡ Some (Number (pos (number_of i)))
      → IsInstr i
      → fetch (faces look s Pc) (cell_faces look s) ≡ some i (Mem (code_cap base last (at + 1)))
  unfolding cell_faces
  fetch_at s base last at i e low high h ok =
      rw (
        shows s Pc (Mem (code_cap base last at))
            e,
        le-leb base at low,
        le-leb at last high,
        h,
        decode_of-number_of i ok,
      )

  -- one step of a run
  pub go : (n : ℕ) (s s' : State W) (base last at : ℕ) (i : Instr)
      → look s.regs.pc ≡ Mem (code_cap base last at) → base ≤ at → at ≤ last
      → look_face look (cell s.cells at) ≡ Some (Number (pos (number_of i))) → IsInstr i
      → row look plain i (Mem (code_cap base last (at + 1))) s ≡ went s'
      → run_of look plain (suc n) s ≡ run_of look plain n s'
  unfolding run_of step_of
  go n s s' base last at i e low high h ok does = rw (fetch_at s base last at i e low high h ok, does)

  -- the step that fails
  pub stop : (n : ℕ) (s : State W) (base last at : ℕ) (i : Instr) (cause : FailCause)
      → look s.regs.pc ≡ Mem (code_cap base last at) → base ≤ at → at ≤ last
      → look_face look (cell s.cells at) ≡ Some (Number (pos (number_of i))) → IsInstr i
      → row look plain i (Mem (code_cap base last (at + 1))) s ≡ failed cause (pc_at look s)
      → run_of look plain (suc n) s ≡ failed cause (pos at)
  unfolding run_of step_of pc_at
  stop n s base last at i cause e low high h ok does =
      rw (fetch_at s base last at i e low high h ok, does)
      (ap (λ x. failed cause (pc_of x)) (shows s Pc (Mem (code_cap base last at)) e))

  -- the step that halts
  pub halt : (n : ℕ) (s : State W) (base last at : ℕ) (i : Instr)
      → look s.regs.pc ≡ Mem (code_cap base last at) → base ≤ at → at ≤ last
      → look_face look (cell s.cells at) ≡ Some (Number (pos (number_of i))) → IsInstr i
      → row look plain i (Mem (code_cap base last (at + 1))) s ≡ halted → run_of look plain (suc n) s ≡ halted
  unfolding run_of step_of
  halt n s base last at i e low high h ok does = rw (fetch_at s base last at i e low high h ok, does)

  pub ran : (s : State W) → run_of look plain 0 s ≡ went s
  unfolding run_of
  ran s = refl

  and_then-and_then : (r : Outcome W) (f g : State W → Outcome W)
      → and_then (and_then r f) g ≡ and_then r (λ s. and_then (f s) g)
  and_then-and_then (went s) f g = refl
  and_then-and_then halted f g = refl
  and_then-and_then (failed cause at) f g = refl

  pub run_of-add : (n m : ℕ) (s : State W)
      → run_of look plain (n + m) s ≡ and_then (run_of look plain n s) (run_of look plain m)
  unfolding run_of
  run_of-add zero m s = rw zero-add
  run_of-add (suc n) m s =
      rw suc-add
      (ap (and_then (step_of look plain s)) (λ i t. run_of-add n m t i)
      ∙ sym (and_then-and_then (step_of look plain s) (run_of look plain n) (run_of look plain m)))

  -- a run that goes on, and then another
  pub run_then : (n m : ℕ) (s t : State W) (r : Outcome W) → run_of look plain n s ≡ went t
      → run_of look plain m t ≡ r → run_of look plain (n + m) s ≡ r
  run_then n m s t r first second = run_of-add n m s ∙ ap (λ q. and_then q (run_of look plain m)) first
      ∙ second

-- code stands as before where a cell after it, or before it, is set
pub Stands-set : {W : Type 0} (look : W → Word) (m : FinMap nat_cmp W) (a : ℕ) (w : W) (at : ℕ)
    (is : List Instr) → at + length is ≤ a → Stands look m at is → Stands look (set_cell m a w) at is
Stands-set look m a w at [] out h = h
Stands-set look m a w at (i ∷ is) out h =
    let ne : at ≢ a = omega arith in (
      ap (look_face look) (cell-set_other m a at w ne)
          ∙ h.0,
      Stands-set look m a w (at + 1) is (omega arith) h.1,
    )

pub Stands-set_below : {W : Type 0} (look : W → Word) (m : FinMap nat_cmp W) (a : ℕ) (w : W) (at : ℕ)
    (is : List Instr) → a < at → Stands look m at is → Stands look (set_cell m a w) at is
Stands-set_below look m a w at [] out h = h
Stands-set_below look m a w at (i ∷ is) out h =
    let ne : at ≢ a = omega arith in (
      ap (look_face look) (cell-set_other m a at w ne)
          ∙ h.0,
      Stands-set_below look m a w (at + 1) is (omega arith) h.1,
    )
