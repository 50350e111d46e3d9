-- Which numbers have no parts but those of the instruction that their parts spell.
use Rattle.std.specs.Prelude.{ℕ, ◌/◌, ◌%◌, ◌==◌, ◌&&◌, Bool, true, nat_lt}
use Rattle.lcm_isa.specs.declared.Reg.{Reg}
use Rattle.lcm_isa.specs.declared.Operand.{Operand}
use Rattle.lcm_isa.specs.declared.Operand.TheVariants.{R, Imm}
use Rattle.lcm_isa.specs.declared.Instr.{Instr}
use Rattle.lcm_isa.specs.declared.Instr.TheVariants.{Fail, Halt, Jmp, Jnz, Gettype, Geta, Getb, Gete, Getp}
use Rattle.lcm_isa.specs.declared.Instr.TheVariants.{Getlin, Move, Store, Load, Cca, Restrict, Lt, Plus}
use Rattle.lcm_isa.specs.declared.Instr.TheVariants.{Minus, Seta2b, Xjmp, Cseal, Split, Splice}

-- the field of a register operand is below 16
abbrev pub field_fits : Operand → ℕ → Bool
field_fits (R r) n = nat_lt n 8388608
field_fits (Imm z) n = true

unfoldable pub is_own : Instr → ℕ → Bool
is_own Fail n = nat_lt n 64
is_own Halt n = nat_lt n 64
is_own (Jmp r1) n = nat_lt n 1024
is_own (Jnz r1 r2) n = nat_lt n 16384
is_own (Gettype r1 r2) n = nat_lt n 16384
is_own (Geta r1 r2) n = nat_lt n 16384
is_own (Getb r1 r2) n = nat_lt n 16384
is_own (Gete r1 r2) n = nat_lt n 16384
is_own (Getp r1 r2) n = nat_lt n 16384
is_own (Getlin r1 r2) n = nat_lt n 16384
is_own (Move r1 o) n = (n / 1024 % 256 == 0) && field_fits o n
is_own (Store r1 r2) n = nat_lt n 16384
is_own (Load r1 r2) n = nat_lt n 16384
is_own (Cca r1 o) n = (n / 1024 % 256 == 0) && field_fits o n
is_own (Restrict r1 o) n = (n / 1024 % 256 == 0) && field_fits o n
is_own (Lt r1 r2 o) n = (n / 16384 % 16 == 0) && field_fits o n
is_own (Plus r1 r2 o) n = (n / 16384 % 16 == 0) && field_fits o n
is_own (Minus r1 r2 o) n = (n / 16384 % 16 == 0) && field_fits o n
is_own (Seta2b r1) n = nat_lt n 1024
is_own (Xjmp r1 r2) n = nat_lt n 16384
is_own (Cseal r1 r2) n = nat_lt n 16384
is_own (Split r1 r2 r3 o) n = field_fits o n
is_own (Splice r1 r2 r3) n = nat_lt n 262144
