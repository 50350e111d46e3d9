-- The rows that show something of a word.
use Rattle.std.specs.Prelude.{ℤ}
use Rattle.cap_words.specs.declared.Face.{Face}
use Rattle.cap_words.specs.Faces.{face_number, face_address, face_base, face_end, face_perm, face_linear}
use Rattle.lcm_isa.specs.declared.Reg.{Reg}
use Rattle.lcm_isa.specs.declared.Instr.{Instr}
use Rattle.lcm_isa.specs.declared.Instr.TheVariants.{Gettype, Geta, Getb, Gete, Getp, Getlin}
use Rattle.lcm_machine.specs.declared.rows.Detail.{Detail}
use Rattle.lcm_machine.specs.declared.rows.Detail.TheVariants.{Kind, Address, Base, End, Perm, Linearity}
use Rattle.lcm_machine.specs.Table.{bit}

-- the integer
abbrev pub detail_of : Detail → Face → ℤ
detail_of Kind f = face_number f
detail_of Address f = face_address f
detail_of Base f = face_base f
detail_of End f = face_end f
detail_of Perm f = face_perm f
detail_of Linearity f = bit (face_linear f)

-- and the instruction
abbrev pub detail_row : Detail → Reg → Reg → Instr
detail_row Kind r1 r2 = Gettype r1 r2
detail_row Address r1 r2 = Geta r1 r2
detail_row Base r1 r2 = Getb r1 r2
detail_row End r1 r2 = Gete r1 r2
detail_row Perm r1 r2 = Getp r1 r2
detail_row Linearity r1 r2 = Getlin r1 r2
