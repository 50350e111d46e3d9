-- What a step answers and leaves.
use Rattle.std.specs.Prelude.{◌≡◌}
use Rattle.lcm_machine.specs.declared.Step.{Step}
use Rattle.lcm_machine.specs.declared.Step.TheVariants.{Went, Halted, Failed}
use Rattle.lcm_machine.specs.declared.End.{End}
use Rattle.lcm_machine.specs.declared.End.TheVariants.{Halted as AtHalt, Failed as AtFailure}
use Rattle.lcm_machine.specs.Maps.{State}
use Rattle.lcm_machine.specs.Row.{Outcome, went, halted, failed}

-- the answer and the new state are those of the outcome; where it halts or fails the state stays
abbrev pub Meets : {W : Type 0} → State W → Outcome W → Step → State W → Type 0
Meets old (went s) end new = (end ≡ Went) × (new ≡ s)
Meets old halted end new = (end ≡ Halted) × (new ≡ old)
Meets old (failed f at) end new = (end ≡ Failed f at) × (new ≡ old)

-- a property of the state that an outcome goes to
abbrev pub After : {W : Type 0} → (State W → Type 0) → Outcome W → Type 0
After P (went t) = P t
After P halted = Unit {0}
After P (failed f at) = Unit {0}

-- what a step answers that ended a machine so
abbrev pub end_answer : End → Step
end_answer AtHalt = Halted
end_answer (AtFailure cause at) = Failed cause at
