-- Registers by name.
use Rattle.lcm_isa.specs.declared.Reg.{Reg}
use Rattle.lcm_isa.specs.declared.Reg.TheVariants.{Pc, Rcode, Rdata, Stk, Dat, T1, T2, C1, C2, A0, A1, A2, A3}
use Rattle.lcm_isa.specs.declared.Reg.TheVariants.{G0, G1, G2}
use Rattle.lcm_machine.specs.Maps.{Regs}

-- the word of a register
abbrev pub reg : {W : Type 0} → Regs W → Reg → W
reg rs Pc = rs.pc
reg rs Rcode = rs.rcode
reg rs Rdata = rs.rdata
reg rs Stk = rs.stk
reg rs Dat = rs.dat
reg rs T1 = rs.t1
reg rs T2 = rs.t2
reg rs C1 = rs.c1
reg rs C2 = rs.c2
reg rs A0 = rs.a0
reg rs A1 = rs.a1
reg rs A2 = rs.a2
reg rs A3 = rs.a3
reg rs G0 = rs.g0
reg rs G1 = rs.g1
reg rs G2 = rs.g2

-- the registers, one of them set
abbrev pub set_reg : {W : Type 0} → Regs W → Reg → W → Regs W
set_reg rs Pc w = record rs { pc = w }
set_reg rs Rcode w = record rs { rcode = w }
set_reg rs Rdata w = record rs { rdata = w }
set_reg rs Stk w = record rs { stk = w }
set_reg rs Dat w = record rs { dat = w }
set_reg rs T1 w = record rs { t1 = w }
set_reg rs T2 w = record rs { t2 = w }
set_reg rs C1 w = record rs { c1 = w }
set_reg rs C2 w = record rs { c2 = w }
set_reg rs A0 w = record rs { a0 = w }
set_reg rs A1 w = record rs { a1 = w }
set_reg rs A2 w = record rs { a2 = w }
set_reg rs A3 w = record rs { a3 = w }
set_reg rs G0 w = record rs { g0 = w }
set_reg rs G1 w = record rs { g1 = w }
set_reg rs G2 w = record rs { g2 = w }
