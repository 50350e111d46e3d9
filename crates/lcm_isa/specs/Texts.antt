-- Registers and instructions in words, as an assembler writes them.
use Rattle.std.specs.Prelude.{ℕ, List, [], ◌∷◌, codes, map, Option, Some, None}
use Rattle.std.specs.List.{join_with_byte}
use Rattle.std.specs.Fmt.{signed_decimal}
use Rattle.lcm_isa.specs.declared.Reg.{Reg}
use Rattle.lcm_isa.specs.declared.Reg.TheVariants.{Pc, Rcode, Rdata, Stk, Dat, T1, T2, C1, C2, A0, A1, A2, A3}
use Rattle.lcm_isa.specs.declared.Reg.TheVariants.{G0, G1, G2}
use Rattle.lcm_isa.specs.declared.Operand.{Operand}
use Rattle.lcm_isa.specs.declared.Operand.TheVariants.{R, Imm}
use Rattle.lcm_isa.specs.declared.Instr.{Instr}
use Rattle.lcm_isa.specs.declared.Instr.TheVariants.{Fail, Halt, Jmp, Jnz, Gettype, Geta, Getb, Gete, Getp}
use Rattle.lcm_isa.specs.declared.Instr.TheVariants.{Getlin, Move, Store, Load, Cca, Restrict, Lt, Plus}
use Rattle.lcm_isa.specs.declared.Instr.TheVariants.{Minus, Seta2b, Xjmp, Cseal, Split, Splice}

-- a register's name
abbrev pub reg_name : Reg → List ℕ
reg_name Pc = codes "pc"
reg_name Rcode = codes "rcode"
reg_name Rdata = codes "rdata"
reg_name Stk = codes "stk"
reg_name Dat = codes "data"
reg_name T1 = codes "t1"
reg_name T2 = codes "t2"
reg_name C1 = codes "c1"
reg_name C2 = codes "c2"
reg_name A0 = codes "a0"
reg_name A1 = codes "a1"
reg_name A2 = codes "a2"
reg_name A3 = codes "a3"
reg_name G0 = codes "g0"
reg_name G1 = codes "g1"
reg_name G2 = codes "g2"

-- an instruction's first word
abbrev pub mnemonic_of : Instr → List ℕ
mnemonic_of Fail = codes "fail"
mnemonic_of Halt = codes "halt"
mnemonic_of (Jmp r1) = codes "jmp"
mnemonic_of (Jnz r1 r2) = codes "jnz"
mnemonic_of (Gettype r1 r2) = codes "gettype"
mnemonic_of (Geta r1 r2) = codes "geta"
mnemonic_of (Getb r1 r2) = codes "getb"
mnemonic_of (Gete r1 r2) = codes "gete"
mnemonic_of (Getp r1 r2) = codes "getp"
mnemonic_of (Getlin r1 r2) = codes "getlin"
mnemonic_of (Move r1 n) = codes "move"
mnemonic_of (Store r1 r2) = codes "store"
mnemonic_of (Load r1 r2) = codes "load"
mnemonic_of (Cca r1 n) = codes "cca"
mnemonic_of (Restrict r1 n) = codes "restrict"
mnemonic_of (Lt r1 r2 n) = codes "lt"
mnemonic_of (Plus r1 r2 n) = codes "plus"
mnemonic_of (Minus r1 r2 n) = codes "minus"
mnemonic_of (Seta2b r1) = codes "seta2b"
mnemonic_of (Xjmp r1 r2) = codes "xjmp"
mnemonic_of (Cseal r1 r2) = codes "cseal"
mnemonic_of (Split r1 r2 r3 n) = codes "split"
mnemonic_of (Splice r1 r2 r3) = codes "splice"

-- a register by its name, an immediate in decimal digits, with a `-` where it is negative
abbrev pub operand_text : Operand → List ℕ
operand_text (R r) = reg_name r
operand_text (Imm n) = signed_decimal n

-- the operands of an instruction, in their order
abbrev pub operands_of : Instr → List Operand
operands_of Fail = []
operands_of Halt = []
operands_of (Jmp r1) = R r1 ∷ []
operands_of (Jnz r1 r2) = R r1 ∷ R r2 ∷ []
operands_of (Gettype r1 r2) = R r1 ∷ R r2 ∷ []
operands_of (Geta r1 r2) = R r1 ∷ R r2 ∷ []
operands_of (Getb r1 r2) = R r1 ∷ R r2 ∷ []
operands_of (Gete r1 r2) = R r1 ∷ R r2 ∷ []
operands_of (Getp r1 r2) = R r1 ∷ R r2 ∷ []
operands_of (Getlin r1 r2) = R r1 ∷ R r2 ∷ []
operands_of (Move r1 n) = R r1 ∷ n ∷ []
operands_of (Store r1 r2) = R r1 ∷ R r2 ∷ []
operands_of (Load r1 r2) = R r1 ∷ R r2 ∷ []
operands_of (Cca r1 n) = R r1 ∷ n ∷ []
operands_of (Restrict r1 n) = R r1 ∷ n ∷ []
operands_of (Lt r1 r2 n) = R r1 ∷ R r2 ∷ n ∷ []
operands_of (Plus r1 r2 n) = R r1 ∷ R r2 ∷ n ∷ []
operands_of (Minus r1 r2 n) = R r1 ∷ R r2 ∷ n ∷ []
operands_of (Seta2b r1) = R r1 ∷ []
operands_of (Xjmp r1 r2) = R r1 ∷ R r2 ∷ []
operands_of (Cseal r1 r2) = R r1 ∷ R r2 ∷ []
operands_of (Split r1 r2 r3 n) = R r1 ∷ R r2 ∷ R r3 ∷ n ∷ []
operands_of (Splice r1 r2 r3) = R r1 ∷ R r2 ∷ R r3 ∷ []

abbrev pub operand_texts : Instr → List (List ℕ)
operand_texts i = map operand_text (operands_of i)

-- an instruction as one line: its mnemonic and its operands, with one blank (byte 32) between each two
unfoldable pub instr_text : Instr → List ℕ
instr_text i = join_with_byte 32 (mnemonic_of i ∷ operand_texts i)

-- a blank and the operand, where there is one
abbrev pub after_blank : Option Operand → List ℕ
after_blank None = []
after_blank (Some o) = 32 ∷ operand_text o
