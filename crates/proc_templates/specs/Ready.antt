-- Which instructions templates are made of, by what they do to the kinds of registers.
use Rattle.std.specs.Prelude.{Bool, true, false, ◌&&◌}
use Rattle.lcm_isa.specs.declared.Reg.{Reg}
use Rattle.lcm_isa.specs.declared.Reg.TheVariants.{Pc, Stk, Dat, T2}
use Rattle.lcm_isa.specs.declared.Operand.{Operand}
use Rattle.lcm_isa.specs.declared.Operand.TheVariants.{R, Imm}
use Rattle.lcm_isa.specs.declared.Instr.{Instr}
use Rattle.lcm_isa.specs.declared.Instr.TheVariants.{Gettype, Getlin, Move, Store, Load, Cca, Lt, Plus, Minus}

-- a register whose word any code may have
abbrev pub is_low : Reg → Bool
is_low Pc = false
is_low Stk = false
is_low Dat = false
is_low T2 = false
is_low _ = true

abbrev pub is_low_operand : Operand → Bool
is_low_operand (R r) = is_low r
is_low_operand (Imm z) = true

-- the stack or the part's data
abbrev pub leads_to_area : Reg → Bool
leads_to_area Stk = true
leads_to_area Dat = true
leads_to_area _ = false

-- it goes on with the next word, and leaves stk, data and t2 what they are
unfoldable pub is_quiet : Instr → Bool
is_quiet (Gettype r1 r2) = is_low r1 && is_low r2
is_quiet (Getlin r1 r2) = is_low r1 && is_low r2
is_quiet (Move r1 n) = is_low r1 && is_low_operand n
is_quiet (Store r1 r2) = leads_to_area r1 && is_low r2
is_quiet (Load r1 r2) = is_low r1 && leads_to_area r2
is_quiet (Cca r1 n) = leads_to_area r1 && is_low_operand n
is_quiet (Lt r1 r2 n) = is_low r1 && (is_low r2 && is_low_operand n)
is_quiet (Plus r1 r2 n) = is_low r1 && (is_low r2 && is_low_operand n)
is_quiet (Minus r1 r2 n) = is_low r1 && (is_low r2 && is_low_operand n)
is_quiet _ = false
