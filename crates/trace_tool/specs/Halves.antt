-- Whether an `xjmp` of two sealed words goes, by their seals and contents alone.
use Rattle.std.specs.Prelude.{pos, Bool, Option, Some, None}
use Rattle.cap_words.specs.declared.Opened.{Opened}
use Rattle.cap_words.specs.declared.Face.TheVariants.{Number}
use Rattle.cap_words.specs.declared.Word.TheVariants.{Int}
use Rattle.lcm_isa.specs.declared.Reg.{Reg}
use Rattle.lcm_isa.specs.declared.Reg.TheVariants.{Rcode, Rdata}
use Rattle.lcm_isa.specs.declared.Instr.TheVariants.{Xjmp}
use Rattle.lcm_machine.specs.Table.{plan}
use Rattle.trusted_border.specs.Reaches.{plan_goes}

-- the two, as those of rcode and of any other register
abbrev pub of_halves : Opened → Opened → Reg → Option Opened
of_halves code half Rcode = Some code
of_halves code half _ = Some half

-- what the table says of it, which reads nothing else
abbrev pub halves_go : Opened → Opened → Bool
halves_go code half =
    plan_goes (plan (Xjmp Rcode Rdata) (λ r. Number (pos 0)) (of_halves code half) None (Int (pos 0)))
