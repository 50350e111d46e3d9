-- The effect of an `xjmp` that goes.
use Rattle.std.proofs.Common.{◌≡◌, Bool, true, false, refl, subst}
use Rattle.std.specs.Prelude.{if◌then◌else◌}
use Rattle.cap_words.specs.declared.Word.{Word}
use Rattle.cap_words.specs.Linear.{zero_word, is_linear}
use Rattle.lcm_isa.specs.declared.Reg.{Reg}
use Rattle.lcm_isa.specs.declared.Instr.TheVariants.{Xjmp}
use Rattle.lcm_machine.specs.declared.Place.TheVariants.{R}
use Rattle.lcm_machine.specs.declared.plan.Effect.{Effect}
use Rattle.lcm_machine.specs.Plan.{Goes, IsJump, is_jump}
use Rattle.lcm_machine.specs.Maps.{State}
use Rattle.lcm_machine.specs.Places.{reg}
use Rattle.lcm_machine.specs.Row.{perform, clear, plan_in, put, CanPerform}
use Rattle.lcm_machine.proofs.Plans.{Gives, gives_goes, Gives-need, Gives-ask, Gives-effect}

module _ {W : Type 0} (look : W → Word) (s : State W) where
  -- the plan of the jump, if it goes
  pub plan-jump : (r1 r2 : Reg) (next : Word) (e : Effect) → plan_in look s (Xjmp r1 r2) next ≡ Goes e
      → IsJump r2 e
  unfolding plan_in
  plan-jump r1 r2 next e h =
      Gives-effect (subst (Gives (IsJump r2)) h (Gives-need _ _ _ (λ a e1. Gives-need _ _ _ (λ b e2.
      Gives-ask _ _ _ (λ _. Gives-need _ _ _ (λ c e. Gives-ask _ _ _ (λ _. Gives-ask _ _ _ (λ _.
      Gives-ask _ _ _ (λ _. gives_goes (is_jump _ _))))))))))

  pub jump-can : (r : Reg) (e : Effect) → IsJump r e → CanPerform look s e
  jump-can r e (is_jump v w) = (tt, tt, tt)

-- it doesn't touch memory
pub jump-cells : {W : Type 0} (look : W → Word) (plain : Word → W) (s : State W) (r : Reg) (e : Effect)
    → IsJump r e → perform look plain s e ≡ record s { regs = (perform look plain s e).regs }
unfolding perform clear
jump-cells {W = W} look plain s r e (is_jump v w) =
    elim (is_linear (look (reg s.regs r)))
    as (λ b. perform_with b v w s ≡ record s { regs = (perform_with b v w s).regs })
    [ true ↦ refl | false ↦ refl ]
  where
    perform_with : Bool → Word → Word → State W → State W
    perform_with b v w t =
        let taken : State W = if b then put t (R r) (zero_word plain) else t in
        record taken { regs = record taken.regs { pc = plain v; dat = plain w } }
