-- That what a row answers is carried out as its plan, and what the tests that it passed say.
use Rattle.std.proofs.Common.{◌≡◌, Bool, true, false, not, refl, sym, ◌∙◌}
use Rattle.std.specs.Prelude.{Option, Some, None, Result, Ok}
use Rattle.std.specs.Option.{ok_or}
use Rattle.lcm_isa.specs.declared.Instr.{Instr}
use Rattle.cap_words.specs.declared.Word.{Word}
use Rattle.lcm_machine.specs.declared.FailCause.{FailCause}
use Rattle.lcm_machine.specs.declared.Step.{Step}
use Rattle.lcm_machine.specs.declared.plan.Effect.{Effect}
use Rattle.lcm_isa.specs.declared.Reg.{Reg}
use Rattle.cap_words.specs.declared.Face.{Face}
use Rattle.cap_words.specs.declared.Face.TheVariants.{Number, Memory, Seals, Sealed}
use Rattle.lcm_machine.specs.declared.FailCause.TheVariants.{F5, F6}
use Rattle.lcm_machine.specs.Table.{ask, by_cap, into, is_pc, made, makes, no_effect}
use Rattle.lcm_machine.specs.Plan.{Plan, Fails, Goes}
use Rattle.lcm_machine.specs.Maps.{State}
use Rattle.lcm_machine.specs.Ends.{Meets}
use Rattle.lcm_machine.specs.Row.{plan_in, CanPerform, GoesOnTo, outcome, row}
use Rattle.lcm_machine.proofs.Onward.{plan_can}

module _ {W : Type 0} (look : W → Word) (plain : Word → W) (s : State W) where
  -- a row's answer that is its plan can be carried out
  pub planned_can : (i : Instr) (next : Word) (p : Plan) → GoesOnTo look s next
      → p ≡ plan_in look s i next → (e : Effect) → p ≡ Goes e → CanPerform look s e
  planned_can i next p g is e h = plan_can look plain s i next e g (sym is ∙ h)

  -- and it is carried out as the row
  pub planned_meets : (i j : Instr) (next : Word) (p : Plan) (step : Step) (t : State W)
      → j ≡ i → p ≡ plan_in look s i next → Meets s (outcome look plain s p) step t
      → Meets s (row look plain j next s) step t
  unfolding row
  planned_meets i j next p step t same is h = rw same (rw is at h)

-- a register that isn't pc can be given a word
module _ {W : Type 0} (look : W → Word) (s : State W) (r : Reg) (next w : Word) where
  made_there : (b : Bool) → GoesOnTo look s next → is_pc r ≡ b
      → (e : Effect) → ask F5 (not b) (makes r w next) ≡ Goes e → CanPerform look s e
  unfolding ask
  made_there true g is e h = cc
  made_there false g is e h =
      let k : record no_effect { first = made r w; next = Some next } ≡ e = cc in
      rw (sym k) (tt, g, (tt, is, tt))

  pub made_can : (p : Plan) → GoesOnTo look s next → p ≡ into r (makes r w next)
      → (e : Effect) → p ≡ Goes e → CanPerform look s e
  made_can p g is e h = made_there (is_pc r) g refl e (sym is ∙ h)

-- where either capability fails so, a word fails so
pub fails_by_cap : (x : Face) → by_cap x (λ c. Fails F6) (λ s. Fails F6) ≡ Fails F6
unfolding by_cap
fails_by_cap (Memory c) = refl
fails_by_cap (Number c) = refl
fails_by_cap (Seals c) = refl
fails_by_cap (Sealed c) = refl

-- what was there, where it was got
pub got : {A : Type 0} (o : Option A) (f : FailCause) (a : A) → Ok a ≡ ok_or o f → o ≡ Some a
got None f a e = cc
got (Some b) f a e = cc
