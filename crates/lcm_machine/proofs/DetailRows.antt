-- The plan of the rows that show something of a word.
use Rattle.std.proofs.Common.{◌≡◌, refl}
use Rattle.lcm_isa.specs.declared.Reg.{Reg}
use Rattle.cap_words.specs.declared.Word.{Word}
use Rattle.cap_words.specs.declared.Word.TheVariants.{Int}
use Rattle.lcm_machine.specs.declared.rows.Detail.{Detail}
use Rattle.lcm_machine.specs.declared.rows.Detail.TheVariants.{Kind, Address, Base, End, Perm, Linearity}
use Rattle.lcm_machine.specs.Maps.{State}
use Rattle.lcm_machine.specs.Details.{detail_of, detail_row}
use Rattle.lcm_machine.specs.Row.{faces, plan_in}
use Rattle.lcm_machine.specs.Table.{into, makes}

pub detail_plan : {W : Type 0} (look : W → Word) (s : State W) (r1 r2 : Reg) (next : Word) (h : Detail)
    → plan_in look s (detail_row h r1 r2) next ≡ into r1 (makes r1 (Int (detail_of h (faces look s r2))) next)
unfolding plan_in
detail_plan look s r1 r2 next Kind = refl
detail_plan look s r1 r2 next Address = refl
detail_plan look s r1 r2 next Base = refl
detail_plan look s r1 r2 next End = refl
detail_plan look s r1 r2 next Perm = refl
detail_plan look s r1 r2 next Linearity = refl
