-- An effect leaves each register that it doesn't name, and the effects of a row name the registers that its
-- instruction may change.
use Rattle.std.proofs.Common.{◌≡◌, Bool, true, false, refl, sym, subst, ◌∙◌, inl, inr, ◌⊎◌}
use Rattle.std.specs.Prelude.{Option, Some, None, if◌then◌else◌}
use Rattle.cap_words.specs.declared.Word.{Word}
use Rattle.cap_words.specs.declared.Face.{Face}
use Rattle.cap_words.specs.declared.Opened.{Opened}
use Rattle.cap_words.specs.Linear.{is_linear, zero_word}
use Rattle.lcm_isa.specs.declared.Reg.{Reg}
use Rattle.lcm_isa.specs.declared.Reg.TheVariants.{Pc}
use Rattle.lcm_isa.specs.declared.Operand.TheVariants.{R as InReg, Imm}
use Rattle.lcm_isa.specs.declared.Instr.{Instr}
use Rattle.lcm_isa.specs.declared.Instr.TheVariants.{Fail, Halt, Jmp, Jnz, Gettype, Geta, Getb, Gete, Getp}
use Rattle.lcm_isa.specs.declared.Instr.TheVariants.{Getlin, Move, Store, Load, Cca, Restrict, Lt, Plus}
use Rattle.lcm_isa.specs.declared.Instr.TheVariants.{Minus, Seta2b, Xjmp, Cseal, Split, Splice}
use Rattle.lcm_machine.specs.declared.Place.{Place}
use Rattle.lcm_machine.specs.declared.Place.TheVariants.{R, Cell}
use Rattle.lcm_machine.specs.declared.plan.Effect.{Effect}
use Rattle.lcm_machine.specs.declared.plan.Made.{Made}
use Rattle.lcm_machine.specs.declared.plan.Moved.{Moved}
use Rattle.lcm_machine.specs.declared.undo.Changed.{Changed}
use Rattle.lcm_machine.specs.Maps.{State}
use Rattle.lcm_machine.specs.Places.{reg}
use Rattle.lcm_machine.specs.Table.{plan, makes}
use Rattle.lcm_machine.specs.Row.{word_in, put, clear, move_on, spend, make, go_on, perform}
use Rattle.lcm_machine.specs.Back.{changed_by}
use Rattle.lcm_machine.proofs.RegLemmas.{reg-set_other}
use Rattle.lcm_machine.proofs.Plans.{Gives, gives_fails, gives_halts, gives_goes, Gives-ask, Gives-need}
use Rattle.lcm_machine.proofs.Plans.{Gives-by_cap, Gives-if}

-- each register that an effect names has N
module _ (N : Reg → Type 0) where
  abbrev NamesPlace : Place → Type 0
  NamesPlace (R r) = N r
  NamesPlace (Cell a) = Unit {0}

  abbrev NamesMoved : Option Moved → Type 0
  NamesMoved None = Unit {0}
  NamesMoved (Some m) = NamesPlace m.from × NamesPlace m.to

  abbrev NamesReg : Option Reg → Type 0
  NamesReg None = Unit {0}
  NamesReg (Some r) = N r

  abbrev NamesMade : Option Made → Type 0
  NamesMade None = Unit {0}
  NamesMade (Some m) = N m.reg

  abbrev NamesNext : Option Word → Type 0
  NamesNext None = Unit {0}
  NamesNext (Some w) = N Pc

  abbrev pub Names : Effect → Type 0
  Names e =
      NamesMoved e.moved × NamesReg e.spent × NamesReg e.also_spent
      × NamesMade e.first × NamesMade e.second × NamesNext e.next

-- a register that an effect doesn't name stays
module _ {W : Type 0} (look : W → Word) (plain : Word → W) (N : Reg → Type 0) (r : Reg) (away : N r → ⊥) where
  put_leaves : (s : State W) (p : Place) (w : W) → NamesPlace N p → reg (put s p w).regs r ≡ reg s.regs r
  put_leaves s (R d) w h = reg-set_other s.regs d r w (λ e. away (subst N (sym e) h))
  put_leaves s (Cell a) w h = refl

  cleared_by : (b : Bool) (s : State W) (p : Place) → NamesPlace N p
      → reg (if b then put s p (zero_word plain) else s).regs r ≡ reg s.regs r
  cleared_by true s p h = put_leaves s p (zero_word plain) h
  cleared_by false s p h = refl

  clear_leaves : (s : State W) (p : Place) → NamesPlace N p → reg (clear look plain s p).regs r ≡ reg s.regs r
  unfolding clear
  clear_leaves s p h = cleared_by (is_linear (look (word_in plain s p))) s p h

  move_leaves : (s : State W) (m : Option Moved) → NamesMoved N m
      → reg (move_on look plain s m).regs r ≡ reg s.regs r
  move_leaves s None h = refl
  move_leaves s (Some m) h =
      put_leaves (clear look plain s m.from) m.to (word_in plain s m.from) h.1 ∙ clear_leaves s m.from h.0

  spend_leaves : (s : State W) (o : Option Reg) → NamesReg N o
      → reg (spend look plain s o).regs r ≡ reg s.regs r
  spend_leaves s None h = refl
  spend_leaves s (Some d) h = clear_leaves s (R d) h

  make_leaves : (s : State W) (m : Option Made) → NamesMade N m → reg (make plain s m).regs r ≡ reg s.regs r
  make_leaves s None h = refl
  make_leaves s (Some m) h = put_leaves s (R m.reg) (plain m.word) h

  go_leaves : (s : State W) (o : Option Word) → NamesNext N o → reg (go_on plain s o).regs r ≡ reg s.regs r
  go_leaves s None h = refl
  go_leaves s (Some w) h = put_leaves s (R Pc) (plain w) h

  pub perform_leaves : (s : State W) (e : Effect) → Names N e
      → reg (perform look plain s e).regs r ≡ reg s.regs r
  unfolding perform
  perform_leaves s e h =
      go_leaves _ e.next h.5 ∙ make_leaves _ e.second h.4 ∙ make_leaves _ e.first h.3
      ∙ spend_leaves _ e.also_spent h.2 ∙ spend_leaves _ e.spent h.1 ∙ move_leaves s e.moved h.0

-- pc, or one of the registers that are said to change
abbrev pub IsChanged : Changed → Reg → Type 0
IsChanged c r = (Pc ≡ r) ⊎ ((c.first ≡ Some r) ⊎ ((c.second ≡ Some r) ⊎ ((c.third ≡ Some r) ⊎ ⊥)))

-- where a register is said to change, pc goes on and that register gets a word
made_names : (c : Changed) (r : Reg) (w next : Word) → c.first ≡ Some r
    → Gives (Names (IsChanged c)) (makes r w next)
made_names c r w next e = gives_goes (tt, tt, tt, inr (inl e), tt, inl refl)

module _ (f : Reg → Face) (w : Reg → Option Opened) (there : Option Face) (next : Word) where
  pub plan-Names : (i : Instr) → Gives (Names (IsChanged (changed_by i))) (plan i f w there next)
  unfolding changed_by
  plan-Names Fail = gives_fails
  plan-Names Halt = gives_halts
  plan-Names (Jmp r1) = gives_goes ((inr (inl refl), inl refl), tt, tt, tt, tt, tt)
  plan-Names (Jnz r1 r2) = Gives-need _ _ _ (λ z e. Gives-if _ _ _
      (gives_goes (tt, tt, tt, tt, tt, inl refl))
      (gives_goes ((inr (inl refl), inl refl), tt, tt, tt, tt, tt)))
  plan-Names (Gettype r1 r2) = Gives-ask _ _ _ (λ _. made_names _ _ _ _ refl)
  plan-Names (Geta r1 r2) = Gives-ask _ _ _ (λ _. made_names _ _ _ _ refl)
  plan-Names (Getb r1 r2) = Gives-ask _ _ _ (λ _. made_names _ _ _ _ refl)
  plan-Names (Gete r1 r2) = Gives-ask _ _ _ (λ _. made_names _ _ _ _ refl)
  plan-Names (Getp r1 r2) = Gives-ask _ _ _ (λ _. made_names _ _ _ _ refl)
  plan-Names (Getlin r1 r2) = Gives-ask _ _ _ (λ _. made_names _ _ _ _ refl)
  plan-Names (Move r1 (InReg r2)) = Gives-ask _ _ _ (λ _.
      gives_goes ((inr (inr (inl refl)), inr (inl refl)), tt, tt, tt, tt, inl refl))
  plan-Names (Move r1 (Imm z)) = Gives-ask _ _ _ (λ _. made_names _ _ _ _ refl)
  plan-Names (Store r1 r2) = Gives-need _ _ _ (λ c m. Gives-ask _ _ _ (λ may. Gives-need _ _ _ (λ x h.
      gives_goes ((inr (inl refl), tt), tt, tt, tt, tt, inl refl))))
  plan-Names (Load r1 r2) = Gives-ask _ _ _ (λ free. Gives-need _ _ _ (λ c m. Gives-ask _ _ _ (λ may.
      Gives-need _ _ _ (λ x h. Gives-ask _ _ _ (λ _.
      gives_goes ((tt, inr (inl refl)), tt, tt, tt, tt, inl refl))))))
  plan-Names (Cca r1 n) = Gives-ask _ _ _ (λ _. Gives-by_cap (f r1) _ _
      (λ c e. Gives-need _ _ _ (λ z _. Gives-ask _ _ _ (λ _.
      made_names _ _ _ _ refl)))
      (λ c e. Gives-need _ _ _ (λ z _. Gives-ask _ _ _ (λ _.
      made_names _ _ _ _ refl))))
  plan-Names (Restrict r1 n) = Gives-ask _ _ _ (λ _. Gives-need _ _ _ (λ c m. Gives-need _ _ _ (λ z _.
      Gives-need _ _ _ (λ q _. Gives-ask _ _ _ (λ _.
      made_names _ _ _ _ refl)))))
  plan-Names (Lt r1 r2 n) = Gives-ask _ _ _ (λ _. Gives-need _ _ _ (λ x e. Gives-need _ _ _ (λ z _.
      made_names _ _ _ _ refl)))
  plan-Names (Plus r1 r2 n) = Gives-ask _ _ _ (λ _. Gives-need _ _ _ (λ x e. Gives-need _ _ _ (λ z _.
      Gives-ask _ _ _ (λ _. made_names _ _ _ _ refl))))
  plan-Names (Minus r1 r2 n) = Gives-ask _ _ _ (λ _. Gives-need _ _ _ (λ x e. Gives-need _ _ _ (λ z _.
      Gives-ask _ _ _ (λ _. made_names _ _ _ _ refl))))
  plan-Names (Seta2b r1) = Gives-ask _ _ _ (λ _. Gives-by_cap (f r1) _ _
      (λ c e. made_names _ _ _ _ refl)
      (λ c e. made_names _ _ _ _ refl))
  plan-Names (Xjmp r1 r2) = Gives-need _ _ _ (λ a e1. Gives-need _ _ _ (λ b e2. Gives-ask _ _ _ (λ _.
      Gives-need _ _ _ (λ c e. Gives-ask _ _ _ (λ _. Gives-ask _ _ _ (λ _. Gives-ask _ _ _ (λ _.
      gives_goes (tt, inr (inl refl), tt, inl refl, inr (inr (inl refl)), tt))))))))
  plan-Names (Cseal r1 r2) = Gives-ask _ _ _ (λ _. Gives-by_cap (f r1) _ _
      (λ c e. Gives-need _ _ _ (λ q _. Gives-ask _ _ _ (λ _.
      made_names _ _ _ _ refl)))
      (λ c e. Gives-need _ _ _ (λ q _. Gives-ask _ _ _ (λ _.
      made_names _ _ _ _ refl))))
  plan-Names (Split r1 r2 r3 n) = Gives-ask _ _ _ (λ _. Gives-ask _ _ _ (λ _. Gives-need _ _ _ (λ c e.
      Gives-need _ _ _ (λ z _. Gives-ask _ _ _ (λ _.
      gives_goes (tt, inr (inr (inr (inl refl))), tt, inr (inl refl), inr (inr (inl refl)), inl refl))))))
  plan-Names (Splice r1 r2 r3) = Gives-ask _ _ _ (λ _. Gives-need _ _ _ (λ a e. Gives-need _ _ _ (λ b h.
      Gives-ask _ _ _ (λ _.
      gives_goes (tt, inr (inr (inl refl)), inr (inr (inr (inl refl))), inr (inl refl), tt, inl refl)))))
