-- The adversary enters the module.
use Rattle.std.proofs.Common.{pos, [], Some, None, refl, arith}
use Rattle.cap_words.specs.declared.Word.TheVariants.{Mem}
use Rattle.cap_words.specs.declared.Content.TheVariants.{Mem as MemC}
use Rattle.lcm_isa.specs.declared.Reg.TheVariants.{Rcode, Rdata, Dat, C1, C2}
use Rattle.lcm_isa.specs.declared.Operand.TheVariants.{R, Imm}
use Rattle.lcm_isa.specs.declared.Instr.TheVariants.{Load, Cca, Xjmp}
use Rattle.lcm_machine.specs.declared.Place.TheVariants.{R}
use Rattle.lcm_machine.specs.Row.{faces, opens}
use Rattle.lcm_machine.proofs.Offers.{stays, xjmp_goes}
use Rattle.lcm_machine.specs.Table as table
use Rattle.call_sequence.specs.Sequences.{call_code, return_code, entry_code}
use Rattle.linked_starts.specs.Start.{start_cell, start_regs, part_word}
use Rattle.linked_starts.specs.Owners.{owner_of}
use Rattle.trusted_border.specs.declared.events.Back.TheVariants.{Out}
use Rattle.trusted_border.specs.declared.events.Event.{Event}
use Rattle.trusted_border.specs.declared.events.Event.TheVariants.{Entered}
use Rattle.overlay_machine.specs.declared.words.OWord.TheVariants.{Plain}
use Rattle.overlay_machine.specs.State.{OState}
use Rattle.overlay_machine.specs.Words.{look}
use Rattle.overlay_machine.specs.Flat.{flat}
use Rattle.overlay_machine.specs.Starting.{overlay_at}
use Rattle.source_instance.proofs.Start.{start}
use Rattle.source_instance.proofs.Machine.{M, has, maps, state, own_code, own_data}
use Rattle.source_instance.proofs.Machine.{its_code, its_data, stack, f_code, f_data, g_code, g_data, Makes}
use Rattle.source_instance.proofs.Machine.{its_stands, by_row, after, loads, adds}
use Rattle.headline.proofs.Offers.{regs_with, zero_}

-- ---- the states: memory is as at the start

abbrev pub o0 : OState
o0 = (overlay_at start).state

abbrev pub o1 : OState
o1 = state
    (maps (regs_with (Plain (Mem (its_code 97))) (Plain g_code) zero_ (Plain (Mem (stack 118 118)))
    (Plain (Mem (its_data 106))) zero_ zero_) M) [] 0

abbrev pub o2 : OState
o2 = after o1 (its_code 98) (R Dat) (Plain (Mem (its_data 107)))

abbrev pub o3 : OState
o3 = after o2 (its_code 99) (R Rdata) (Plain g_data)

abbrev pub o4 : OState
o4 = after o3 (its_code 100) (R Dat) (Plain (Mem (its_data 108)))

abbrev pub o5 : OState
o5 = after o4 (its_code 101) (R C1) (Plain f_code)

abbrev pub o6 : OState
o6 = after o5 (its_code 102) (R Dat) (Plain (Mem (its_data 109)))

abbrev pub o7 : OState
o7 = after o6 (its_code 103) (R C2) (Plain f_data)

abbrev pub o8 : OState
o8 = after o7 (own_code 3) (R Dat) (Plain (Mem (own_data 90)))

-- ---- the adversary loads the pair of its `g`, and that of the module's `f`

pub step0 : Makes o0 o1 1 None
unfolding faces owner_of start_regs start_cell part_word entry_code call_code return_code
step0 =
    loads o0 (its_code 97) Rcode Dat (its_data 106) 106 g_code
    (its_stands o0 96 (Load Rcode Dat) refl (omega arith) (omega arith) (has 96 _ refl) tt refl)
    refl refl refl refl (omega arith) (omega arith) (has 106 g_code refl) refl refl

pub step1 : Makes o1 o2 1 None
unfolding faces owner_of start_cell part_word entry_code call_code return_code
step1 =
    adds o1 (its_code 98) Dat (pos 1) (its_data 106) (pos 107)
    (its_stands o1 97 (Cca Dat (Imm (pos 1))) refl (omega arith) (omega arith) (has 97 _ refl)
    (record { sfits = omega arith }) refl)
    refl refl refl refl

pub step2 : Makes o2 o3 1 None
unfolding faces owner_of start_cell part_word entry_code call_code return_code
step2 =
    loads o2 (its_code 99) Rdata Dat (its_data 107) 107 g_data
    (its_stands o2 98 (Load Rdata Dat) refl (omega arith) (omega arith) (has 98 _ refl) tt refl)
    refl refl refl refl (omega arith) (omega arith) (has 107 g_data refl) refl refl

pub step3 : Makes o3 o4 1 None
unfolding faces owner_of start_cell part_word entry_code call_code return_code
step3 =
    adds o3 (its_code 100) Dat (pos 1) (its_data 107) (pos 108)
    (its_stands o3 99 (Cca Dat (Imm (pos 1))) refl (omega arith) (omega arith) (has 99 _ refl)
    (record { sfits = omega arith }) refl)
    refl refl refl refl

pub step4 : Makes o4 o5 1 None
unfolding faces owner_of start_cell part_word entry_code call_code return_code
step4 =
    loads o4 (its_code 101) C1 Dat (its_data 108) 108 f_code
    (its_stands o4 100 (Load C1 Dat) refl (omega arith) (omega arith) (has 100 _ refl) tt refl)
    refl refl refl refl (omega arith) (omega arith) (has 108 f_code refl) refl refl

pub step5 : Makes o5 o6 1 None
unfolding faces owner_of start_cell part_word entry_code call_code return_code
step5 =
    adds o5 (its_code 102) Dat (pos 1) (its_data 108) (pos 109)
    (its_stands o5 101 (Cca Dat (Imm (pos 1))) refl (omega arith) (omega arith) (has 101 _ refl)
    (record { sfits = omega arith }) refl)
    refl refl refl refl

pub step6 : Makes o6 o7 1 None
unfolding faces owner_of start_cell part_word entry_code call_code return_code
step6 =
    loads o6 (its_code 103) C2 Dat (its_data 109) 109 f_data
    (its_stands o6 102 (Load C2 Dat) refl (omega arith) (omega arith) (has 102 _ refl) tt refl)
    refl refl refl refl (omega arith) (omega arith) (has 109 f_data refl) refl refl

-- ---- it enters the module

abbrev pub entry_event : Event
entry_event = Entered 0 0 Out

pub step7 : Makes o7 o8 1 (Some entry_event)
unfolding faces opens owner_of flat start_cell part_word entry_code call_code return_code table.need table.ask
step7 =
    by_row o7 o8.maps (Xjmp C1 C2) (its_code 104)
    (its_stands o7 103 (Xjmp C1 C2) refl (omega arith) (omega arith) (has 103 _ refl) tt refl) refl
    (xjmp_goes look Plain C1 C2 (Mem (its_code 104)) o7.maps o7.maps 10 (own_code 3) (MemC (own_data 90))
    refl refl refl refl refl (stays look Plain o7.maps (R C2) refl))
