-- What an instruction comes to in a state.
use Rattle.std.specs.Prelude.{Some, None}
use Rattle.cap_words.specs.declared.Word.{Word}
use Rattle.lcm_isa.specs.declared.Reg.{Reg}
use Rattle.lcm_isa.specs.declared.Reg.TheVariants.{Pc, Dat}
use Rattle.lcm_machine.specs.declared.FailCause.{FailCause}
use Rattle.lcm_machine.specs.declared.plan.Effect.{Effect}

pub data Plan : Type 0 where
  Fails : FailCause → Plan
  Halts : Plan
  Goes : Effect → Plan

-- the effect of an `xjmp` that goes: the second register's word is spent, and pc and data get new ones
pub data IsJump (r : Reg) : Effect → Type 0 where
  is_jump : (v w : Word) → IsJump r (record {
    moved = None;
    spent = Some r;
    also_spent = None;
    first = Some (record { reg = Pc; word = v });
    second = Some (record { reg = Dat; word = w });
    next = None;
  })
