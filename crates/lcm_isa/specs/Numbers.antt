-- The numbers of registers, operands and instructions.
use Rattle.std.specs.Prelude.{ℕ, ◌+◌, ◌*◌, ◌/◌, ◌%◌, ◌-◌, ◌==◌, ℤ, pos, negsuc, ◌-ℤ◌, List, [], ◌∷◌, Option}
use Rattle.std.specs.Prelude.{Some, None, slice_get, unwrap_or, if◌then◌else◌, nat_lt, FitsSigned}
use Rattle.std.specs.Int.{w32}
use Rattle.lcm_isa.specs.declared.TheConstants.{FIRST, SECOND, THIRD, MODE, FIELD}
use Rattle.lcm_isa.specs.declared.Reg.{Reg}
use Rattle.lcm_isa.specs.declared.Reg.TheVariants.{Pc, Rcode, Rdata, Stk, Dat, T1, T2, C1, C2, A0, A1, A2, A3}
use Rattle.lcm_isa.specs.declared.Reg.TheVariants.{G0, G1, G2}
use Rattle.lcm_isa.specs.declared.Operand.{Operand}
use Rattle.lcm_isa.specs.declared.Operand.TheVariants.{R, Imm}
use Rattle.lcm_isa.specs.declared.Instr.{Instr}
use Rattle.lcm_isa.specs.declared.Instr.TheVariants.{Fail, Halt, Jmp, Jnz, Gettype, Geta, Getb, Gete, Getp}
use Rattle.lcm_isa.specs.declared.Instr.TheVariants.{Getlin, Move, Store, Load, Cca, Restrict, Lt, Plus}
use Rattle.lcm_isa.specs.declared.Instr.TheVariants.{Minus, Seta2b, Xjmp, Cseal, Split, Splice}

abbrev pub reg_number : Reg → ℕ
reg_number Pc = 0
reg_number Rcode = 1
reg_number Rdata = 2
reg_number Stk = 3
reg_number Dat = 4
reg_number T1 = 5
reg_number T2 = 6
reg_number C1 = 7
reg_number C2 = 8
reg_number A0 = 9
reg_number A1 = 10
reg_number A2 = 11
reg_number A3 = 12
reg_number G0 = 13
reg_number G1 = 14
reg_number G2 = 15

-- the registers in the order of their numbers
abbrev pub all_regs : List Reg
all_regs = Pc ∷ Rcode ∷ Rdata ∷ Stk ∷ Dat ∷ T1 ∷ T2 ∷ C1 ∷ C2 ∷ A0 ∷ A1 ∷ A2 ∷ A3 ∷ G0 ∷ G1 ∷ G2 ∷ []

abbrev pub reg_of : ℕ → Reg
reg_of n = unwrap_or (slice_get all_regs n) G2

-- 0 for a register, 1 for an immediate
abbrev pub mode_of : Operand → ℕ
mode_of (R r) = 0
mode_of (Imm n) = 1

-- an immediate raised by 2^31, so that it isn't negative
abbrev pub biased : ℤ → ℕ
biased (pos n) = n + 2147483648
biased (negsuc n) = 2147483647 - n

-- a register's number, or the biased immediate
abbrev pub field_of : Operand → ℕ
field_of (R r) = reg_number r
field_of (Imm n) = biased n

-- the operand that a mode and a field spell
abbrev pub operand_of : ℕ → ℕ → Operand
operand_of mode field = if mode == 0 then R (reg_of field) else Imm (pos field -ℤ pos 2147483648)

-- the parts in one number: op + 2^6 r1 + 2^10 r2 + 2^14 r3 + 2^18 mode + 2^19 field
abbrev pub packed : ℕ → ℕ → ℕ → ℕ → ℕ → ℕ → ℕ
packed op first second third mode field =
    op + FIRST * first + SECOND * second + THIRD * third + MODE * mode + FIELD * field

-- an instruction's number; a part that it doesn't have is 0
unfoldable pub number_of : Instr → ℕ
number_of Fail = packed 0 0 0 0 0 0
number_of Halt = packed 1 0 0 0 0 0
number_of (Jmp r1) = packed 2 (reg_number r1) 0 0 0 0
number_of (Jnz r1 r2) = packed 3 (reg_number r1) (reg_number r2) 0 0 0
number_of (Gettype r1 r2) = packed 4 (reg_number r1) (reg_number r2) 0 0 0
number_of (Geta r1 r2) = packed 5 (reg_number r1) (reg_number r2) 0 0 0
number_of (Getb r1 r2) = packed 6 (reg_number r1) (reg_number r2) 0 0 0
number_of (Gete r1 r2) = packed 7 (reg_number r1) (reg_number r2) 0 0 0
number_of (Getp r1 r2) = packed 8 (reg_number r1) (reg_number r2) 0 0 0
number_of (Getlin r1 r2) = packed 9 (reg_number r1) (reg_number r2) 0 0 0
number_of (Move r1 n) = packed 10 (reg_number r1) 0 0 (mode_of n) (field_of n)
number_of (Store r1 r2) = packed 11 (reg_number r1) (reg_number r2) 0 0 0
number_of (Load r1 r2) = packed 12 (reg_number r1) (reg_number r2) 0 0 0
number_of (Cca r1 n) = packed 13 (reg_number r1) 0 0 (mode_of n) (field_of n)
number_of (Restrict r1 n) = packed 14 (reg_number r1) 0 0 (mode_of n) (field_of n)
number_of (Lt r1 r2 n) = packed 15 (reg_number r1) (reg_number r2) 0 (mode_of n) (field_of n)
number_of (Plus r1 r2 n) = packed 16 (reg_number r1) (reg_number r2) 0 (mode_of n) (field_of n)
number_of (Minus r1 r2 n) = packed 17 (reg_number r1) (reg_number r2) 0 (mode_of n) (field_of n)
number_of (Seta2b r1) = packed 18 (reg_number r1) 0 0 0 0
number_of (Xjmp r1 r2) = packed 19 (reg_number r1) (reg_number r2) 0 0 0
number_of (Cseal r1 r2) = packed 20 (reg_number r1) (reg_number r2) 0 0 0
number_of (Split r1 r2 r3 n) =
    packed 21 (reg_number r1) (reg_number r2) (reg_number r3) (mode_of n) (field_of n)
number_of (Splice r1 r2 r3) = packed 22 (reg_number r1) (reg_number r2) (reg_number r3) 0 0

-- the instruction of an op, with those of these operands that it has
unfoldable pub all_with : Reg → Reg → Reg → Operand → List Instr
all_with r1 r2 r3 n =
    Fail ∷ Halt ∷ Jmp r1 ∷ Jnz r1 r2 ∷ Gettype r1 r2
    ∷ Geta r1 r2 ∷ Getb r1 r2 ∷ Gete r1 r2 ∷ Getp r1 r2 ∷ Getlin r1 r2
    ∷ Move r1 n ∷ Store r1 r2 ∷ Load r1 r2 ∷ Cca r1 n ∷ Restrict r1 n
    ∷ Lt r1 r2 n ∷ Plus r1 r2 n ∷ Minus r1 r2 n ∷ Seta2b r1 ∷ Xjmp r1 r2
    ∷ Cseal r1 r2 ∷ Split r1 r2 r3 n ∷ Splice r1 r2 r3 ∷ []

-- the instruction of an op number, where there is one
unfoldable pub table : ℕ → Reg → Reg → Reg → Operand → Option Instr
table op a b c n = slice_get (all_with a b c n) op

-- the instruction that the parts of a number spell; parts that it doesn't have may be other than 0 here
unfoldable pub candidate : ℕ → Option Instr
candidate n =
    table (n % FIRST) (reg_of (n / FIRST % 16)) (reg_of (n / SECOND % 16)) (reg_of (n / THIRD % 16))
    (operand_of (n / MODE % 2) (n / FIELD))

-- the instruction, where this is its number
abbrev pub if_numbered : ℕ → Option Instr → Option Instr
if_numbered n None = None
if_numbered n (Some i) = if number_of i == n then Some i else None

-- the instruction of a number, where there is one: that which its parts spell, if the number is its own
unfoldable pub decode_of : ℤ → Option Instr
decode_of (negsuc n) = None
decode_of (pos n) = if nat_lt n 2251799813685248 then if_numbered n (candidate n) else None

-- an immediate is a signed number of 32 bits
abbrev pub IsOperand : Operand → Type 0
IsOperand (R r) = Unit {0}
IsOperand (Imm n) = FitsSigned w32 n

-- the instructions that there are: their immediate, if any, is such a number
abbrev pub IsInstr : Instr → Type 0
IsInstr Fail = Unit {0}
IsInstr Halt = Unit {0}
IsInstr (Jmp r1) = Unit {0}
IsInstr (Jnz r1 r2) = Unit {0}
IsInstr (Gettype r1 r2) = Unit {0}
IsInstr (Geta r1 r2) = Unit {0}
IsInstr (Getb r1 r2) = Unit {0}
IsInstr (Gete r1 r2) = Unit {0}
IsInstr (Getp r1 r2) = Unit {0}
IsInstr (Getlin r1 r2) = Unit {0}
IsInstr (Move r1 n) = IsOperand n
IsInstr (Store r1 r2) = Unit {0}
IsInstr (Load r1 r2) = Unit {0}
IsInstr (Cca r1 n) = IsOperand n
IsInstr (Restrict r1 n) = IsOperand n
IsInstr (Lt r1 r2 n) = IsOperand n
IsInstr (Plus r1 r2 n) = IsOperand n
IsInstr (Minus r1 r2 n) = IsOperand n
IsInstr (Seta2b r1) = Unit {0}
IsInstr (Xjmp r1 r2) = Unit {0}
IsInstr (Cseal r1 r2) = Unit {0}
IsInstr (Split r1 r2 r3 n) = IsOperand n
IsInstr (Splice r1 r2 r3) = Unit {0}
