-- The rows that make an integer of two.
use Rattle.std.specs.Prelude.{ℤ, ◌+ℤ◌, ◌-ℤ◌, int_lt}
use Rattle.lcm_isa.specs.declared.Reg.{Reg}
use Rattle.lcm_isa.specs.declared.Operand.{Operand}
use Rattle.lcm_isa.specs.declared.Instr.{Instr}
use Rattle.lcm_isa.specs.declared.Instr.TheVariants.{Lt as LtRow, Plus as PlusRow, Minus as MinusRow}
use Rattle.lcm_machine.specs.declared.rows.Arith.{Arith}
use Rattle.lcm_machine.specs.declared.rows.Arith.TheVariants.{Lt, Plus, Minus}
use Rattle.lcm_machine.specs.Table.{bit}

-- the integer
abbrev pub arith_of : Arith → ℤ → ℤ → ℤ
arith_of Lt x z = bit (int_lt x z)
arith_of Plus x z = x +ℤ z
arith_of Minus x z = x -ℤ z

-- and the instruction
abbrev pub arith_row : Arith → Reg → Reg → Operand → Instr
arith_row Lt r1 r2 n = LtRow r1 r2 n
arith_row Plus r1 r2 n = PlusRow r1 r2 n
arith_row Minus r1 r2 n = MinusRow r1 r2 n
