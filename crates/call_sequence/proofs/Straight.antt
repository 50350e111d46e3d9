-- Rows that go straight on: pc stands at the next word, and the words of numbers stay in their cells.
use Rattle.std.proofs.Common.{◌≡◌, inl, inr, ℕ, ℤ, true, false, Option, Some, None, refl, sym, ap, ◌∙◌}
use Rattle.std.specs.Prelude.{Bool, if◌then◌else◌, unwrap_or}
use Rattle.std.proofs.lemmas.Bool.{cases_eq}
use Rattle.cap_words.specs.declared.Word.{Word}
use Rattle.cap_words.specs.declared.Word.TheVariants.{Int, Mem, Seal, Sealed}
use Rattle.cap_words.specs.declared.Sealable.TheVariants.{Mem as MemIn, Seal as SealIn}
use Rattle.cap_words.specs.declared.Opened.{Opened}
use Rattle.cap_words.specs.declared.Face.{Face}
use Rattle.cap_words.specs.declared.Face.TheVariants.{Number}
use Rattle.cap_words.specs.Face.{face_of}
use Rattle.cap_words.specs.Linear.{is_linear, zero_word}
use Rattle.lcm_isa.specs.declared.Reg.{Reg}
use Rattle.lcm_isa.specs.declared.Reg.TheVariants.{Pc}
use Rattle.lcm_isa.specs.declared.Operand.TheVariants.{R as InReg, Imm}
use Rattle.lcm_isa.specs.declared.Instr.{Instr}
use Rattle.lcm_isa.specs.declared.Instr.TheVariants.{Fail, Halt, Jmp, Jnz, Gettype, Geta, Getb, Gete, Getp}
use Rattle.lcm_isa.specs.declared.Instr.TheVariants.{Getlin, Move, Store, Load, Cca, Restrict, Lt, Plus}
use Rattle.lcm_isa.specs.declared.Instr.TheVariants.{Minus, Seta2b, Xjmp, Cseal, Split, Splice}
use Rattle.lcm_machine.specs.Plan.{Plan, Fails, Halts, Goes}
use Rattle.lcm_machine.specs.declared.plan.Effect.{Effect}
use Rattle.lcm_machine.specs.declared.plan.Moved.{Moved}
use Rattle.lcm_machine.specs.declared.plan.Made.{Made}
use Rattle.lcm_machine.specs.declared.Place.{Place}
use Rattle.lcm_machine.specs.declared.Place.TheVariants.{R, Cell}
use Rattle.lcm_machine.specs.Maps.{State}
use Rattle.lcm_machine.specs.Places.{reg}
use Rattle.lcm_machine.specs.Cells.{cell}
use Rattle.lcm_machine.specs.Table.{plan}
use Rattle.lcm_machine.specs.Row.{word_in, put, clear, move_on, spend, make, go_on, perform, faces, opens}
use Rattle.lcm_machine.specs.Row.{look_face, plan_in, outcome, row, went}
use Rattle.lcm_machine.proofs.Offers.{Gives, gives_goes, Gives-effect, Gives-ask, Gives-need, Gives-by_cap}
use Rattle.lcm_machine.proofs.Offers.{cell-set_other}

-- neither a jump nor an end
abbrev pub is_straight : Instr → Bool
is_straight Fail = false
is_straight Halt = false
is_straight (Jmp r1) = false
is_straight (Jnz r1 r2) = false
is_straight (Xjmp r1 r2) = false
is_straight _ = true

abbrev pub is_store : Instr → Bool
is_store (Store r1 r2) = true
is_store _ = false

abbrev pub IsReg : Place → Type 0
IsReg (R r) = Unit {0}
IsReg (Cell a) = ⊥

abbrev pub ToReg : Bool → Option Moved → Type 0
ToReg true m = Unit {0}
ToReg false None = Unit {0}
ToReg false (Some m) = IsReg m.to

abbrev Onward : Word → Bool → Effect → Type 0
Onward next b e = (e.next ≡ Some next) × ToReg b e.moved

module _ (f : Reg → Face) (w : Reg → Option Opened) (there : Option Face) (next : Word) where
  plan-Onward : (i : Instr) → is_straight i ≡ true → Gives (Onward next (is_store i)) (plan i f w there next)
  plan-Onward Fail h = cc
  plan-Onward Halt h = cc
  plan-Onward (Jmp r1) h = cc
  plan-Onward (Jnz r1 r2) h = cc
  plan-Onward (Xjmp r1 r2) h = cc
  plan-Onward (Gettype r1 r2) h = Gives-ask _ _ _ (λ _. gives_goes (refl, tt))
  plan-Onward (Geta r1 r2) h = Gives-ask _ _ _ (λ _. gives_goes (refl, tt))
  plan-Onward (Getb r1 r2) h = Gives-ask _ _ _ (λ _. gives_goes (refl, tt))
  plan-Onward (Gete r1 r2) h = Gives-ask _ _ _ (λ _. gives_goes (refl, tt))
  plan-Onward (Getp r1 r2) h = Gives-ask _ _ _ (λ _. gives_goes (refl, tt))
  plan-Onward (Getlin r1 r2) h = Gives-ask _ _ _ (λ _. gives_goes (refl, tt))
  plan-Onward (Restrict r1 n) h =
      Gives-ask _ _ _
      (λ _. Gives-need _ _ _
      (λ c m. Gives-need _ _ _
      (λ z _. Gives-need _ _ _ (λ q _. Gives-ask _ _ _ (λ _. gives_goes (refl, tt))))))
  plan-Onward (Minus r1 r2 n) h =
      Gives-ask _ _ _
      (λ _. Gives-need _ _ _ (λ x e. Gives-need _ _ _ (λ z _. Gives-ask _ _ _ (λ _. gives_goes (refl, tt)))))
  plan-Onward (Plus r1 r2 n) h =
      Gives-ask _ _ _
      (λ _. Gives-need _ _ _ (λ x e. Gives-need _ _ _ (λ z _. Gives-ask _ _ _ (λ _. gives_goes (refl, tt)))))
  plan-Onward (Lt r1 r2 n) h =
      Gives-ask _ _ _ (λ _. Gives-need _ _ _ (λ x e. Gives-need _ _ _ (λ z _. gives_goes (refl, tt))))
  plan-Onward (Seta2b r1) h =
      Gives-ask _ _ _
      (λ _. Gives-by_cap (f r1) _ _ (λ c e. gives_goes (refl, tt)) (λ c e. gives_goes (refl, tt)))
  plan-Onward (Cseal r1 r2) h = Gives-ask _ _ _ (λ _. Gives-by_cap (f r1) _ _
      (λ c e. Gives-need _ _ _ (λ q _. Gives-ask _ _ _ (λ _. gives_goes (refl, tt))))
      (λ c e. Gives-need _ _ _ (λ q _. Gives-ask _ _ _ (λ _. gives_goes (refl, tt)))))
  plan-Onward (Cca r1 n) h = Gives-ask _ _ _ (λ _. Gives-by_cap (f r1) _ _
      (λ c e. Gives-need _ _ _ (λ z _. Gives-ask _ _ _ (λ _. gives_goes (refl, tt))))
      (λ c e. Gives-need _ _ _ (λ z _. Gives-ask _ _ _ (λ _. gives_goes (refl, tt)))))
  plan-Onward (Move r1 (InReg r2)) h = Gives-ask _ _ _ (λ _. gives_goes (refl, tt))
  plan-Onward (Move r1 (Imm z)) h = Gives-ask _ _ _ (λ _. gives_goes (refl, tt))
  plan-Onward (Store r1 r2) h =
      Gives-need _ _ _ (λ c m. Gives-ask _ _ _ (λ _. Gives-need _ _ _ (λ x k. gives_goes (refl, tt))))
  plan-Onward (Load r1 r2) h =
      Gives-ask _ _ _
      (λ _. Gives-need _ _ _
      (λ c m. Gives-ask _ _ _ (λ _. Gives-need _ _ _ (λ x k. Gives-ask _ _ _ (λ _. gives_goes (refl, tt))))))
  plan-Onward (Split r1 r2 r3 n) h =
      Gives-ask _ _ _
      (λ _. Gives-ask _ _ _
      (λ _. Gives-need _ _ _ (λ c e. Gives-need _ _ _ (λ z _. Gives-ask _ _ _ (λ _. gives_goes (refl, tt))))))
  plan-Onward (Splice r1 r2 r3) h =
      Gives-ask _ _ _
      (λ _. Gives-need _ _ _ (λ a e. Gives-need _ _ _ (λ b k. Gives-ask _ _ _ (λ _. gives_goes (refl, tt)))))

-- ---- the word of a number stays in its cell

abbrev pub Num : {W : Type 0} → (W → Word) → State W → ℕ → ℤ → Type 0
Num look s q z = look_face look (cell s.cells q) ≡ Some (Number z)

number_normal : (x : Word) (z : ℤ) → face_of x ≡ Number z → is_linear x ≡ false
number_normal (Int y) z e = refl
number_normal (Mem c) z e = cc
number_normal (Seal c) z e = cc
number_normal (Sealed o (MemIn c)) z e = cc
number_normal (Sealed o (SealIn c)) z e = cc

module _ {W : Type 0} (look : W → Word) (plain : Word → W) where
  not_linear : (o : Option W) (z : ℤ) → look_face look o ≡ Some (Number z)
      → is_linear (look (unwrap_or o (zero_word plain))) ≡ false
  not_linear None z e = cc
  not_linear (Some w) z e = let k : face_of (look w) ≡ Number z = cc in number_normal (look w) z k

  clear_num : (s : State W) (p : Place) (q : ℕ) (z : ℤ) → Num look s q z → Num look (clear look plain s p) q z
  unfolding clear
  clear_num s (R r) q z h =
      elim (is_linear (look (reg s.regs r)))
      as (λ b. Num look (if b then put s (R r) (zero_word plain) else s) q z)
      [ true ↦ h | false ↦ h ]
  clear_num s (Cell a) q z h =
      elim (cases_eq q a)
      as (λ _. Num look
      (if is_linear (look (word_in plain s (Cell a))) then put s (Cell a) (zero_word plain) else s) q z) [
        | inl e ↦
            (let n : is_linear (look (word_in plain s (Cell a))) ≡ false =
            ap (λ k. is_linear (look (unwrap_or (cell s.cells k) (zero_word plain)))) (sym e)
            ∙ not_linear (cell s.cells q) z h in rw n h)
        | inr ne ↦
            elim (is_linear (look (word_in plain s (Cell a))))
            as (λ b. Num look (if b then put s (Cell a) (zero_word plain) else s) q z) [
              | true ↦ ap (look_face look) (cell-set_other s.cells a q (zero_word plain) ne) ∙ h
              | false ↦ h
            ]
      ]

  put_num : (s : State W) (p : Place) (w : W) (q : ℕ) (z : ℤ) → IsReg p → Num look s q z
      → Num look (put s p w) q z
  put_num s (R r) w q z i h = h
  put_num s (Cell a) w q z i h = absurd i

  moved_num : (s : State W) (m : Option Moved) (q : ℕ) (z : ℤ) → ToReg false m → Num look s q z
      → Num look (move_on look plain s m) q z
  moved_num s None q z i h = h
  moved_num s (Some m) q z i h =
      put_num (clear look plain s m.from) m.to (word_in plain s m.from) q z i (clear_num s m.from q z h)

  spent_num : (s : State W) (r : Option Reg) (q : ℕ) (z : ℤ) → Num look s q z
      → Num look (spend look plain s r) q z
  spent_num s None q z h = h
  spent_num s (Some r) q z h = clear_num s (R r) q z h

  made_num : (s : State W) (m : Option Made) (q : ℕ) (z : ℤ) → Num look s q z → Num look (make plain s m) q z
  made_num s None q z h = h
  made_num s (Some m) q z h = h

  gone_num : (s : State W) (m : Option Word) (q : ℕ) (z : ℤ) → Num look s q z → Num look (go_on plain s m) q z
  gone_num s None q z h = h
  gone_num s (Some m) q z h = h

  pub performed_num : (s : State W) (e : Effect) (q : ℕ) (z : ℤ) → ToReg false e.moved → Num look s q z
      → Num look (perform look plain s e) q z
  unfolding perform
  performed_num s e q z i h =
      gone_num _ e.next q z
      (made_num _ e.second q z
      (made_num _ e.first q z
      (spent_num _ e.also_spent q z (spent_num _ e.spent q z (moved_num s e.moved q z i h)))))

  performed_pc : (s : State W) (e : Effect) (next : Word) → e.next ≡ Some next
      → reg (perform look plain s e).regs Pc ≡ plain next
  unfolding perform
  performed_pc s e next h = rw h refl

  abbrev pub KeepsNumbers : State W → State W → Type 0
  KeepsNumbers s s' = (q : ℕ) (z : ℤ) → Num look s q z → Num look s' q z

  -- but for a store
  abbrev pub MayKeep : Bool → State W → State W → Type 0
  MayKeep true s s' = Unit {0}
  MayKeep false s s' = KeepsNumbers s s'

  by_store : (b : Bool) (s : State W) (e : Effect) → ToReg b e.moved → MayKeep b s (perform look plain s e)
  by_store true s e h = tt
  by_store false s e h = λ q z. performed_num s e q z h

  planned : (s s' : State W) (next : Word) (b : Bool) (p : Plan) → Gives (Onward next b) p
      → outcome look plain s p ≡ went s' → (s'.regs.pc ≡ plain next) × MayKeep b s s'
  planned s s' next b (Fails f) h e = cc
  planned s s' next b Halts h e = cc
  planned s s' next b (Goes x) h e = let q : perform look plain s x ≡ s' = cc in let k =
      Gives-effect h in rw (← q) (performed_pc s x next k.0, by_store b s x k.1)

  -- a straight instruction goes to the next word, and but for a store numbers stay
  pub straight_goes : (s s' : State W) (i : Instr) (next : Word) → is_straight i ≡ true
      → row look plain i next s ≡ went s' → (s'.regs.pc ≡ plain next) × MayKeep (is_store i) s s'
  unfolding row plan_in
  straight_goes s s' i next h e =
      planned s s' next (is_store i) _ (plan-Onward (faces look s) (opens look s) _ next i h) e
