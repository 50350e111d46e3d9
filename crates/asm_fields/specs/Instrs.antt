-- Instructions, as a line of code has them.
use Rattle.std.specs.Prelude.{ℕ, nat_le, Bool, true, false, if◌then◌else◌, List, ℤ, pos, negsuc, Option}
use Rattle.std.specs.List.{count_by, list_any}
use Rattle.lcm_isa.specs.declared.Reg.{Reg}
use Rattle.lcm_isa.specs.declared.Reg.TheVariants.{Pc}
use Rattle.lcm_isa.specs.declared.Operand.{Operand}
use Rattle.lcm_isa.specs.declared.Operand.TheVariants.{R, Imm}
use Rattle.lcm_isa.specs.declared.Instr.{Instr}
use Rattle.lcm_isa.specs.Numbers.{all_with}
use Rattle.lcm_isa.specs.Texts.{mnemonic_of, operands_of}
use Rattle.asm_fields.specs.declared.fault.AsmFault.{AsmFault}
use Rattle.asm_fields.specs.declared.fault.AsmFault.TheVariants as fault
use Rattle.asm_fields.specs.declared.instrs.Last.{Last as LastInCode}
use Rattle.asm_fields.specs.declared.instrs.Last.TheVariants as in_code
use Rattle.asm_fields.specs.declared.instrs.Shape.{Shape}
use Rattle.readers.specs.Readers.{Reader, ◌>>=◌, done, unless_none}
use Rattle.asm_fields.specs.Fields.{Input, place, kind_next, is_name_token}
use Rattle.asm_fields.specs.Fields.{at_sign, percent, meant, proper_name_from, sign_at, integer_at, end_at}
use Rattle.cap_words.specs.Text.{named}
use Rattle.asm_fields.specs.Names.{reg_named}

-- ---- operands

-- the last operand of some instructions: a register or an immediate, or a label of the code or of the data,
-- with the place of its sign
pub data Last : Type 0 where
  Plain : Operand → Last
  Code : ℕ → List ℕ → Last
  Data : ℕ → List ℕ → Last

abbrev pub last_seen : LastInCode → Last
last_seen (in_code.Plain o) = Plain o
last_seen (in_code.Code at name) = Code at name.now
last_seen (in_code.Data at name) = Data at name.now

-- a label stands as 0 until its offset is known
abbrev pub plain : Last → Operand
plain (Plain o) = o
plain (Code at name) = Imm (pos 0)
plain (Data at name) = Imm (pos 0)

abbrev pub reg_at : Reader Input AsmFault Reg
reg_at = meant reg_named

-- an immediate, a number of 32 bits
abbrev pub i32_at : Reader Input AsmFault ℤ
i32_at = integer_at (negsuc 2147483647) (pos 2147483647)

unfoldable pub plain_at : Reader Input AsmFault Operand
plain_at i =
    (if is_name_token (kind_next i.rest) then (reg_at >>= λ r. done (R r))
    else (i32_at >>= λ n. done (Imm n))) i

-- `@LABEL`, `%LABEL`, a register or an immediate
unfoldable pub last_at : Reader Input AsmFault Last
last_at = do
  at ← place
  code ← sign_at at_sign
  if code then (proper_name_from at >>= λ name. done (Code at name)) else do
    data_label ← sign_at percent
    if data_label then (proper_name_from at >>= λ name. done (Data at name)) else do
      o ← plain_at
      done (Plain o)

-- ---- the instructions' table

abbrev pub is_reg : Operand → Bool
is_reg (R r) = true
is_reg (Imm n) = false

abbrev pub is_imm : Operand → Bool
is_imm (R r) = false
is_imm (Imm n) = true

-- how many registers an instruction has before its last operand, and whether it has that
abbrev pub shape_of : Instr → Shape
shape_of i = record { regs = count_by is_reg (operands_of i); last = list_any is_imm (operands_of i) }

-- the row of the table that has the name; its last operand, where it has one, is an immediate
abbrev pub row_named : List ℕ → Option Instr
row_named name = named mnemonic_of (all_with Pc Pc Pc (Imm (pos 0))) name

abbrev pub reg_if : Bool → Reader Input AsmFault Reg
reg_if wanted = if wanted then reg_at else done Pc

abbrev pub last_if : Bool → Reader Input AsmFault Last
last_if wanted = if wanted then last_at else done (Plain (Imm (pos 0)))

-- the operands of an instruction of this name and shape, whose name stands at this place, and the end of its
-- line. A label in place of its last operand stands there as 0
unfoldable pub operands_at : ℕ → List ℕ → Shape → Reader Input AsmFault (Instr × Last)
operands_at at name shape = do
  a ← reg_if (nat_le 1 shape.regs)
  b ← reg_if (nat_le 2 shape.regs)
  c ← reg_if (nat_le 3 shape.regs)
  n ← last_if shape.last
  _ ← end_at
  i ← unless_none (fault.Unknown at) (named mnemonic_of (all_with a b c (plain n)) name)
  done (i, n)
