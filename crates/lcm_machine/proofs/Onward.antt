-- That pc goes on in its own word: what a fetch says of it, what rows set beside it, and that it stays till
-- then.
use Rattle.std.proofs.Common.{◌≡◌, ℕ, Bool, true, false, not, refl, sym, ap, ◌∙◌}
use Rattle.std.specs.Prelude.{Option, Some, None, if◌then◌else◌}
use Rattle.std.proofs.lemmas.Bool.{not-true}
use Rattle.lcm_isa.specs.declared.Reg.{Reg}
use Rattle.lcm_isa.specs.declared.Reg.TheVariants.{Pc}
use Rattle.lcm_isa.specs.declared.Operand.TheVariants.{R as InReg, Imm}
use Rattle.lcm_isa.specs.declared.Instr.{Instr}
use Rattle.lcm_isa.specs.declared.Instr.TheVariants.{Fail, Halt, Jmp, Jnz, Gettype, Geta, Getb, Gete, Getp}
use Rattle.lcm_isa.specs.declared.Instr.TheVariants.{Getlin, Move, Store, Load, Cca, Restrict, Lt, Plus}
use Rattle.lcm_isa.specs.declared.Instr.TheVariants.{Minus, Seta2b, Xjmp, Cseal, Split, Splice}
use Rattle.cap_words.specs.declared.Word.{Word}
use Rattle.cap_words.specs.declared.Face.{Face}
use Rattle.cap_words.specs.declared.Opened.{Opened}
use Rattle.cap_words.specs.Linear.{is_linear, zero_word}
use Rattle.lcm_machine.specs.declared.Place.{Place}
use Rattle.lcm_machine.specs.declared.Place.TheVariants.{R, Cell}
use Rattle.lcm_machine.specs.declared.plan.Effect.{Effect}
use Rattle.lcm_machine.specs.declared.plan.Made.{Made}
use Rattle.lcm_machine.specs.declared.plan.Moved.{Moved}
use Rattle.lcm_machine.specs.Plan.{Plan, Goes}
use Rattle.lcm_machine.specs.Maps.{State}
use Rattle.lcm_machine.specs.Places.{reg}
use Rattle.lcm_machine.specs.Table.{plan, target, is_pc}
use Rattle.lcm_machine.specs.Row.{GoesOnTo, NextFits, SetsElsewhere, CanPerform, IsNoPc, MovesElsewhere}
use Rattle.lcm_machine.specs.Row.{MakesElsewhere, faces, opens, cell_faces, face_there, plan_in, word_in, put}
use Rattle.lcm_machine.specs.Row.{clear, move_on, spend, make, fetch, some}
use Rattle.lcm_machine.proofs.RegLemmas.{reg-set_other}
use Rattle.lcm_machine.proofs.Plans.{Gives, gives_fails, gives_halts, gives_goes, Gives-ask, Gives-need}
use Rattle.lcm_machine.proofs.Plans.{Gives-by_cap, Gives-if, Gives-effect}
use Rattle.lcm_machine.proofs.RowLemmas.{fetch_normal, plan_fits}

-- ---- what rows set

abbrev IsNext : Word → Option Word → Type 0
IsNext next None = Unit {0}
IsNext next (Some w) = w ≡ next

abbrev SetsOnce : Word → Effect → Type 0
SetsOnce next e = IsNext next e.next × SetsElsewhere e.next e

module _ (f : Reg → Face) (w : Reg → Option Opened) (there : Option Face) (next : Word) where
  made_once : (r : Reg) (p : Plan) → (is_pc r ≡ false → Gives (SetsOnce next) p)
      → not (is_pc r) ≡ true → Gives (SetsOnce next) p
  made_once r p h free = h (not-true (is_pc r) free)

  plan-Once : (i : Instr) → Gives (SetsOnce next) (plan i f w there next)
  plan-Once Fail = gives_fails
  plan-Once Halt = gives_halts
  plan-Once (Jmp r1) = gives_goes (tt, tt)
  plan-Once (Jnz r1 r2) = Gives-need _ _ _ (λ z e. Gives-if _ _ _
      (gives_goes (refl, (tt, tt, tt))) (gives_goes (tt, tt)))
  plan-Once (Gettype r1 r2) = Gives-ask _ _ _ (made_once r1 _ (λ h. gives_goes (refl, (tt, h, tt))))
  plan-Once (Geta r1 r2) = Gives-ask _ _ _ (made_once r1 _ (λ h. gives_goes (refl, (tt, h, tt))))
  plan-Once (Getb r1 r2) = Gives-ask _ _ _ (made_once r1 _ (λ h. gives_goes (refl, (tt, h, tt))))
  plan-Once (Gete r1 r2) = Gives-ask _ _ _ (made_once r1 _ (λ h. gives_goes (refl, (tt, h, tt))))
  plan-Once (Getp r1 r2) = Gives-ask _ _ _ (made_once r1 _ (λ h. gives_goes (refl, (tt, h, tt))))
  plan-Once (Getlin r1 r2) = Gives-ask _ _ _ (made_once r1 _ (λ h. gives_goes (refl, (tt, h, tt))))
  plan-Once (Move r1 (InReg r2)) = Gives-ask _ _ _ (made_once r1 _ (λ h. gives_goes (refl, (h, tt, tt))))
  plan-Once (Move r1 (Imm z)) = Gives-ask _ _ _ (made_once r1 _ (λ h. gives_goes (refl, (tt, h, tt))))
  plan-Once (Store r1 r2) = Gives-need _ _ _ (λ c m. Gives-ask _ _ _ (λ _. Gives-need _ _ _ (λ x _.
      gives_goes (refl, (tt, tt, tt)))))
  plan-Once (Load r1 r2) = Gives-ask _ _ _ (made_once r1 _ (λ h. Gives-need _ _ _ (λ c m.
      Gives-ask _ _ _ (λ _. Gives-need _ _ _ (λ x _. Gives-ask _ _ _ (λ _.
      gives_goes (refl, (h, tt, tt))))))))
  plan-Once (Cca r1 n) = Gives-ask _ _ _ (made_once r1 _ (λ h. Gives-by_cap (f r1) _ _
      (λ c e. Gives-need _ _ _ (λ z _. Gives-ask _ _ _ (λ _. gives_goes (refl, (tt, h, tt)))))
      (λ c e. Gives-need _ _ _ (λ z _. Gives-ask _ _ _ (λ _. gives_goes (refl, (tt, h, tt)))))))
  plan-Once (Restrict r1 n) = Gives-ask _ _ _ (made_once r1 _ (λ h. Gives-need _ _ _ (λ c m.
      Gives-need _ _ _ (λ z _. Gives-need _ _ _ (λ q _. Gives-ask _ _ _ (λ _.
      gives_goes (refl, (tt, h, tt))))))))
  plan-Once (Lt r1 r2 n) = Gives-ask _ _ _ (made_once r1 _ (λ h. Gives-need _ _ _ (λ x e.
      Gives-need _ _ _ (λ z _. gives_goes (refl, (tt, h, tt))))))
  plan-Once (Plus r1 r2 n) = Gives-ask _ _ _ (made_once r1 _ (λ h. Gives-need _ _ _ (λ x e.
      Gives-need _ _ _ (λ z _. Gives-ask _ _ _ (λ _. gives_goes (refl, (tt, h, tt)))))))
  plan-Once (Minus r1 r2 n) = Gives-ask _ _ _ (made_once r1 _ (λ h. Gives-need _ _ _ (λ x e.
      Gives-need _ _ _ (λ z _. Gives-ask _ _ _ (λ _. gives_goes (refl, (tt, h, tt)))))))
  plan-Once (Seta2b r1) = Gives-ask _ _ _ (made_once r1 _ (λ h. Gives-by_cap (f r1) _ _
      (λ c e. gives_goes (refl, (tt, h, tt))) (λ c e. gives_goes (refl, (tt, h, tt)))))
  plan-Once (Xjmp r1 r2) = Gives-need _ _ _ (λ a _. Gives-need _ _ _ (λ b _. Gives-ask _ _ _ (λ _.
      Gives-need _ _ _ (λ c e. Gives-ask _ _ _ (λ _. Gives-ask _ _ _ (λ _. Gives-ask _ _ _ (λ _.
      gives_goes (tt, tt))))))))
  plan-Once (Cseal r1 r2) = Gives-ask _ _ _ (made_once r1 _ (λ h. Gives-by_cap (f r1) _ _
      (λ c e. Gives-need _ _ _ (λ q _. Gives-ask _ _ _ (λ _. gives_goes (refl, (tt, h, tt)))))
      (λ c e. Gives-need _ _ _ (λ q _. Gives-ask _ _ _ (λ _. gives_goes (refl, (tt, h, tt)))))))
  plan-Once (Split r1 r2 r3 n) = Gives-ask _ _ _ (made_once r1 _ (λ h. Gives-ask _ _ _ (made_once r2 _ (λ k.
      Gives-need _ _ _ (λ c e. Gives-need _ _ _ (λ z _. Gives-ask _ _ _ (λ _.
      gives_goes (refl, (tt, h, k)))))))))
  plan-Once (Splice r1 r2 r3) = Gives-ask _ _ _ (made_once r1 _ (λ h. Gives-need _ _ _ (λ a e.
      Gives-need _ _ _ (λ b _. Gives-ask _ _ _ (λ _. gives_goes (refl, (tt, h, tt)))))))

module _ {W : Type 0} (look : W → Word) (plain : Word → W) where
  next_fits : (s : State W) (next : Word) (o : Option Word) → IsNext next o → GoesOnTo look s next
      → NextFits look s o
  next_fits s next None h g = tt
  next_fits s next (Some w) h g = rw h g

  -- the effect of a row can be carried out
  pub plan_can : (s : State W) (i : Instr) (next : Word) (e : Effect) → GoesOnTo look s next
      → plan_in look s i next ≡ Goes e → CanPerform look s e
  unfolding plan_in
  plan_can s i next e g h =
      let k = plan-Once (faces look s) (opens look s)
      (face_there (cell_faces look s) (target i (faces look s))) next i in
      let once : SetsOnce next e = Gives-effect (rw h at k) in
      (plan_fits look plain s i next e h, next_fits s next e.next once.0 g, once.1)

  -- what a fetch says of pc's word
  pub fetched_goes_on : (s : State W) (cells : ℕ → Option Face) (i : Instr) (next : Word)
      → fetch (faces look s Pc) cells ≡ some i next → GoesOnTo look s next
  unfolding faces
  fetched_goes_on s cells i next f =
      let k = fetch_normal (look (reg s.regs Pc)) cells i next f in
      (k.0, _, k.1, k.2, k.3)

  -- ---- pc's word stays till pc goes on

  put_away : (s : State W) (p : Place) (w : W) → IsNoPc p → reg (put s p w).regs Pc ≡ reg s.regs Pc
  put_away s (R r) w h = reg-set_other s.regs r Pc w (λ e. let k : true ≡ false = rw (sym e) at h in cc)
  put_away s (Cell a) w h = refl

  cleared_other : (b : Bool) (s : State W) (p : Place) → IsNoPc p
      → reg (if b then put s p (zero_word plain) else s).regs Pc ≡ reg s.regs Pc
  cleared_other true s p h = put_away s p (zero_word plain) h
  cleared_other false s p h = refl

  abbrev IsNormal : State W → Type 0
  IsNormal s = is_linear (look (reg s.regs Pc)) ≡ false

  clear_pc : (s : State W) (p : Place) → IsNormal s → reg (clear look plain s p).regs Pc ≡ reg s.regs Pc
  unfolding clear
  clear_pc s (Cell a) n = cleared_other (is_linear (look (word_in plain s (Cell a)))) s (Cell a) tt
  clear_pc s (R Pc) n = rw n refl
  clear_pc s (R r) n = cleared_other (is_linear (look (reg s.regs r))) s (R r) refl

  stays_normal : (s t : State W) → reg t.regs Pc ≡ reg s.regs Pc → IsNormal s → IsNormal t
  stays_normal s t e n = rw e n

  move_pc : (s : State W) (m : Option Moved) → MovesElsewhere m → IsNormal s
      → reg (move_on look plain s m).regs Pc ≡ reg s.regs Pc
  move_pc s None h n = refl
  move_pc s (Some m) h n =
      put_away (clear look plain s m.from) m.to (word_in plain s m.from) h ∙ clear_pc s m.from n

  spend_pc : (s : State W) (o : Option Reg) → IsNormal s → reg (spend look plain s o).regs Pc ≡ reg s.regs Pc
  spend_pc s None n = refl
  spend_pc s (Some r) n = clear_pc s (R r) n

  make_pc : (s : State W) (m : Option Made) → MakesElsewhere m
      → reg (make plain s m).regs Pc ≡ reg s.regs Pc
  make_pc s None h = refl
  make_pc s (Some m) h = put_away s (R m.reg) (plain m.word) h

  -- after what an effect takes and makes pc has the word that it had
  pub still_fits : (s : State W) (e : Effect) (o : Option Word) → NextFits look s o → SetsElsewhere o e
      → NextFits look (make plain (make plain (spend look plain (spend look plain
      (move_on look plain s e.moved) e.spent) e.also_spent) e.first) e.second) o
  still_fits s e None h k = tt
  still_fits s e (Some w) (c, a, at_pc, normal, next) (moved, first, second) =
      let n : IsNormal s = rw at_pc normal in
      let s1 : State W = move_on look plain s e.moved in
      let s2 : State W = spend look plain s1 e.spent in
      let s3 : State W = spend look plain s2 e.also_spent in
      let s4 : State W = make plain s3 e.first in
      let k1 : reg s1.regs Pc ≡ reg s.regs Pc = move_pc s e.moved moved n in
      let n1 : IsNormal s1 = stays_normal s s1 k1 n in
      let k2 : reg s2.regs Pc ≡ reg s1.regs Pc = spend_pc s1 e.spent n1 in
      let n2 : IsNormal s2 = stays_normal s1 s2 k2 n1 in
      let k3 : reg s3.regs Pc ≡ reg s2.regs Pc = spend_pc s2 e.also_spent n2 in
      let k4 : reg s4.regs Pc ≡ reg s3.regs Pc = make_pc s3 e.first first in
      let k5 : reg (make plain s4 e.second).regs Pc ≡ reg s4.regs Pc = make_pc s4 e.second second in
      (c, a, ap look (k5 ∙ k4 ∙ k3 ∙ k2 ∙ k1) ∙ at_pc, normal, next)
