-- Rows that leave T2, and jumps by it.
use Rattle.std.proofs.Common.{◌≡◌, ◌≢◌, ◌⊎◌, inl, inr, Option, Some, None, refl, ap}
use Rattle.cap_words.specs.declared.Word.{Word}
use Rattle.cap_words.specs.declared.Opened.{Opened}
use Rattle.cap_words.specs.declared.Face.{Face}
use Rattle.lcm_isa.specs.declared.Reg.{Reg}
use Rattle.lcm_isa.specs.declared.Reg.TheVariants.{Pc, T2}
use Rattle.lcm_isa.specs.declared.Instr.{Instr}
use Rattle.lcm_isa.specs.declared.Instr.TheVariants.{Jnz, Gettype, Getb, Gete, Getp, Getlin, Cca, Minus}
use Rattle.lcm_isa.specs.declared.Instr.TheVariants.{Seta2b}
use Rattle.lcm_machine.specs.Plan.{Plan, Fails, Halts, Goes}
use Rattle.lcm_machine.specs.declared.plan.Effect.{Effect}
use Rattle.lcm_machine.specs.declared.Place.TheVariants.{R}
use Rattle.lcm_machine.specs.Maps.{State}
use Rattle.lcm_machine.specs.Places.{reg}
use Rattle.lcm_machine.specs.Table.{plan, made, no_effect}
use Rattle.lcm_machine.specs.Row.{perform, faces, opens, plan_in, outcome, row, went}
use Rattle.lcm_machine.proofs.Offers.{Gives, gives_goes, Gives-effect, Gives-ask, Gives-need, Gives-by_cap}
use Rattle.lcm_machine.proofs.Offers.{Gives-if, reg-set_other}
use Rattle.call_sequence.proofs.Straight.{KeepsNumbers, performed_num}

-- instructions that make one word
abbrev pub dest : Instr → Option Reg
dest (Gettype r1 r2) = Some r1
dest (Getb r1 r2) = Some r1
dest (Gete r1 r2) = Some r1
dest (Getp r1 r2) = Some r1
dest (Getlin r1 r2) = Some r1
dest (Minus r1 r2 n) = Some r1
dest (Seta2b r1) = Some r1
dest (Cca r1 n) = Some r1
dest _ = None

abbrev Only : Reg → Effect → Type 0
Only r e = (w : Word) × (n : Word) × (e ≡ record no_effect { first = made r w; next = Some n })

only : (a r : Reg) (w n : Word) → Some a ≡ Some r
    → Only r (record no_effect { first = made a w; next = Some n })
only a r w n h = let q : a ≡ r =
    cc in (w, n, ap (λ y. record no_effect { first = made y w; next = Some n }) q)

-- a jump by T2, or on
abbrev IsTest : Word → Effect → Type 0
IsTest next e = (e ≡ record no_effect { next = Some next })
    ⊎ (e ≡ record no_effect { moved = Some (record { from = R T2; to = R Pc }) })

module _ (f : Reg → Face) (w : Reg → Option Opened) (there : Option Face) (next : Word) (r : Reg) where
  plan-Only : (i : Instr) → dest i ≡ Some r → Gives (Only r) (plan i f w there next)
  plan-Only (Gettype r1 r2) h = Gives-ask _ _ _ (λ _. gives_goes (only r1 r _ _ h))
  plan-Only (Getb r1 r2) h = Gives-ask _ _ _ (λ _. gives_goes (only r1 r _ _ h))
  plan-Only (Gete r1 r2) h = Gives-ask _ _ _ (λ _. gives_goes (only r1 r _ _ h))
  plan-Only (Getp r1 r2) h = Gives-ask _ _ _ (λ _. gives_goes (only r1 r _ _ h))
  plan-Only (Getlin r1 r2) h = Gives-ask _ _ _ (λ _. gives_goes (only r1 r _ _ h))
  plan-Only (Minus r1 r2 n) h =
      Gives-ask _ _ _
      (λ _. Gives-need _ _ _
      (λ x e. Gives-need _ _ _ (λ z _. Gives-ask _ _ _ (λ _. gives_goes (only r1 r _ _ h)))))
  plan-Only (Seta2b r1) h =
      Gives-ask _ _ _
      (λ _. Gives-by_cap (f r1) _ _ (λ c e. gives_goes (only r1 r _ _ h))
      (λ c e. gives_goes (only r1 r _ _ h)))
  plan-Only (Cca r1 n) h = Gives-ask _ _ _ (λ _. Gives-by_cap (f r1) _ _
      (λ c e. Gives-need _ _ _ (λ z _. Gives-ask _ _ _ (λ _. gives_goes (only r1 r _ _ h))))
      (λ c e. Gives-need _ _ _ (λ z _. Gives-ask _ _ _ (λ _. gives_goes (only r1 r _ _ h)))))
  plan-Only _ h = cc

  plan-IsTest : Gives (IsTest next) (plan (Jnz T2 r) f w there next)
  plan-IsTest = Gives-need _ _ _ (λ z e. Gives-if _ _ _ (gives_goes (inl refl)) (gives_goes (inr refl)))

module _ {W : Type 0} (look : W → Word) (plain : Word → W) where
  only_t2 : (s : State W) (r : Reg) (w n : Word) → T2 ≢ r
      → reg (perform look plain s (record no_effect { first = made r w; next = Some n })).regs T2
      ≡ reg s.regs T2
  unfolding perform
  only_t2 s r w n ne = reg-set_other s.regs r T2 (plain w) ne

  planned : (s s' : State W) (r : Reg) (p : Plan) → T2 ≢ r → Gives (Only r) p
      → outcome look plain s p ≡ went s'
      → reg s'.regs T2 ≡ reg s.regs T2
  planned s s' r (Fails f) ne h e = cc
  planned s s' r Halts ne h e = cc
  planned s s' r (Goes x) ne h e = let q : perform look plain s x ≡ s' = cc in let k =
      Gives-effect h in rw (← q, k.2) (only_t2 s r k.0 k.1 ne)

  pub t2_stays : (s s' : State W) (i : Instr) (next : Word) (r : Reg) → dest i ≡ Some r → T2 ≢ r
      → row look plain i next s ≡ went s' → reg s'.regs T2 ≡ reg s.regs T2
  unfolding row plan_in
  t2_stays s s' i next r d ne e =
      planned s s' r _ ne (plan-Only (faces look s) (opens look s) _ next r i d) e

  abbrev pub Tested : Word → State W → State W → Type 0
  Tested next s s' =
      (((s'.regs.pc ≡ plain next) × (reg s'.regs T2 ≡ reg s.regs T2)) ⊎ (s'.regs.pc ≡ reg s.regs T2))
      × KeepsNumbers look plain s s'

  tests_on : (s : State W) (next : Word)
      → Tested next s (perform look plain s (record no_effect { next = Some next }))
  unfolding perform
  tests_on s next = (inl (refl, refl), λ q z h. h)

  tests_pc : (s : State W)
      → (perform look plain s (record no_effect { moved = Some (record { from = R T2; to = R Pc }) })).regs.pc
      ≡ reg s.regs T2
  unfolding perform
  tests_pc s = refl

  test_planned : (s s' : State W) (next : Word) (p : Plan) → Gives (IsTest next) p
      → outcome look plain s p ≡ went s' → Tested next s s'
  test_planned s s' next (Fails f) h e = cc
  test_planned s s' next Halts h e = cc
  test_planned s s' next (Goes x) h e = let q : perform look plain s x ≡ s' =
      cc in elim (Gives-effect h) as (λ _. Tested next s s') [
        | inl k ↦ rw (← q, k) (tests_on s next)
        | inr k ↦
            rw (← q, k) (
              inr (tests_pc s),
              λ a z.
                  performed_num look plain s
                  (record no_effect { moved = Some (record { from = R T2; to = R Pc }) })
                  a z tt,
            )
      ]

  -- a jump by T2 goes on or where T2 leads, and numbers stay
  pub test_goes : (s s' : State W) (next : Word) (r : Reg) → row look plain (Jnz T2 r) next s ≡ went s'
      → Tested next s s'
  unfolding row plan_in
  test_goes s s' next r e =
      test_planned s s' next _ (plan-IsTest (faces look s) (opens look s) None next r) e
