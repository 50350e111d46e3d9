-- The module leaves to the adversary.
use Rattle.std.proofs.Common.{◌≡◌, pos, Some, None, refl, ◌∙◌, arith, ◌≢◌}
use Rattle.cap_words.specs.declared.Word.TheVariants.{Mem}
use Rattle.cap_words.specs.declared.Content.TheVariants.{Mem as MemC}
use Rattle.lcm_isa.specs.declared.Reg.TheVariants.{Pc, Rcode, Rdata, Stk, Dat, T1, T2, C1, C2, A0, A1, A2, A3}
use Rattle.lcm_isa.specs.declared.Reg.TheVariants.{G0, G1, G2}
use Rattle.lcm_isa.specs.declared.Operand.TheVariants.{R, Imm}
use Rattle.lcm_isa.specs.declared.Instr.TheVariants.{Load, Store, Cca, Move, Plus, Jmp, Xjmp}
use Rattle.lcm_machine.specs.declared.Place.TheVariants.{R, Cell}
use Rattle.lcm_machine.specs.Cells.{cell, set_cell}
use Rattle.lcm_machine.specs.Row.{faces, opens}
use Rattle.lcm_machine.proofs.Offers.{stays, xjmp_goes, cell-set_other, jmp_goes, plus_goes}
use Rattle.call_sequence.specs.Sequences.{call_code, return_code, entry_code}
use Rattle.linked_starts.specs.Start.{start_cell, part_word}
use Rattle.linked_starts.specs.Owners.{owner_of}
use Rattle.trusted_border.specs.declared.events.Event.{Event}
use Rattle.trusted_border.specs.declared.events.Event.TheVariants.{Left}
use Rattle.overlay_machine.specs.declared.words.OWord.TheVariants.{Plain}
use Rattle.overlay_machine.specs.State.{OState, Cells}
use Rattle.overlay_machine.specs.Words.{look}
use Rattle.proc_templates.specs.Items.{zero_of}
use Rattle.source_instance.proofs.Machine.{IsSame, has_in, set_above, own_code, its_code, its_data}
use Rattle.source_instance.proofs.Module.{behind}
use Rattle.source_instance.proofs.Machine.{stack, g_code, g_data, Makes, own_stands, by_row, after, loads}
use Rattle.source_instance.proofs.Machine.{stores, adds, clears, copies}
use Rattle.source_instance.proofs.Calls.{o27, given_back, given_back_same, data117, code118}
use Rattle.headline.proofs.Offers.{zero_}

-- ---- memory: the words that were pushed are wiped

abbrev one_wiped : Cells
one_wiped = set_cell given_back 117 zero_

abbrev wiped : Cells
wiped = set_cell one_wiped 118 zero_

one_wiped_same : IsSame one_wiped
one_wiped_same = set_above given_back 117 zero_ given_back_same (omega arith)

wiped_same : IsSame wiped
wiped_same = set_above one_wiped 118 zero_ one_wiped_same (omega arith)

still118 : cell one_wiped 118 ≡ Some (Plain g_code)
still118 = cell-set_other given_back 117 118 zero_ (let ne : 118 ≢ 117 = omega arith in ne) ∙ code118

-- ---- the states

abbrev pub o28 : OState
o28 = after o27 (own_code (behind 1)) (R G0) zero_

abbrev pub o29 : OState
o29 = after o28 (own_code (behind 2)) (R A0) zero_

abbrev pub o30 : OState
o30 = after o29 (own_code (behind 3)) (R T2) (Plain (Mem (own_code (behind 2))))

abbrev pub o31 : OState
o31 = after o30 (own_code (behind 4)) (R T2) (Plain (Mem (own_code (behind 6))))

abbrev pub o32 : OState
o32 = after o31 (own_code (behind 6)) (R T2) (Plain (Mem (own_code (behind 6))))

abbrev pub o33 : OState
o33 = after o32 (own_code (behind 7)) (R T1) zero_

abbrev pub o34 : OState
o34 = after o33 (own_code (behind 8)) (R Stk) (Plain (Mem (stack 118 117)))

abbrev pub o35 : OState
o35 = after o34 (own_code (behind 9)) (R Rdata) (Plain g_data)

abbrev pub o36 : OState
o36 = after o35 (own_code (behind 10)) (Cell 117) zero_

abbrev pub o37 : OState
o37 = after o36 (own_code (behind 11)) (R Stk) (Plain (Mem (stack 118 118)))

abbrev pub o38 : OState
o38 = after o37 (own_code (behind 12)) (R Rcode) (Plain g_code)

abbrev pub o39 : OState
o39 = after o38 (own_code (behind 13)) (Cell 118) zero_

abbrev pub o40 : OState
o40 = after o39 (own_code (behind 14)) (R T2) zero_

abbrev pub o41 : OState
o41 = after o40 (own_code (behind 15)) (R C1) zero_

abbrev pub o42 : OState
o42 = after o41 (own_code (behind 16)) (R C2) zero_

abbrev pub o43 : OState
o43 = after o42 (own_code (behind 17)) (R A1) zero_

abbrev pub o44 : OState
o44 = after o43 (own_code (behind 18)) (R A2) zero_

abbrev pub o45 : OState
o45 = after o44 (own_code (behind 19)) (R A3) zero_

abbrev pub o46 : OState
o46 = after o45 (own_code (behind 20)) (R G0) zero_

abbrev pub o47 : OState
o47 = after o46 (own_code (behind 21)) (R G1) zero_

abbrev pub o48 : OState
o48 = after o47 (own_code (behind 22)) (R G2) zero_

abbrev pub o49 : OState
o49 = after o48 (its_code 104) (R Dat) (Plain (Mem (its_data 106)))

-- ---- it comes to its end

pub step27 : Makes o27 o28 1 None
unfolding faces owner_of start_cell part_word entry_code call_code return_code
step27 =
    by_row o27 o28.maps (Plus G0 A0 (Imm (pos 0))) (own_code (behind 1))
    (own_stands o27 (behind 0) (Plus G0 A0 (Imm (pos 0))) refl (omega arith) (omega arith)
    (has_in given_back given_back_same (behind 0) _ (omega arith) refl) (record { sfits = omega arith }) refl)
    refl
    (plus_goes look Plain G0 A0 (Imm (pos 0)) (Mem (own_code (behind 1))) o27.maps (pos 0) (pos 0) (pos 0)
    refl refl
    refl refl refl)

pub step28 : Makes o28 o29 1 None
unfolding faces owner_of start_cell part_word entry_code call_code return_code
step28 =
    copies o28 (own_code (behind 2)) A0 G0
    (own_stands o28 (behind 1) (Move A0 (R G0)) refl (omega arith) (omega arith)
    (has_in given_back given_back_same (behind 1) _ (omega arith) refl) tt refl) refl refl

pub step29 : Makes o29 o30 1 None
unfolding faces owner_of start_cell part_word entry_code call_code return_code
step29 =
    copies o29 (own_code (behind 3)) T2 Pc
    (own_stands o29 (behind 2) (Move T2 (R Pc)) refl (omega arith) (omega arith)
    (has_in given_back given_back_same (behind 2) _ (omega arith) refl) tt refl) refl refl

pub step30 : Makes o30 o31 1 None
unfolding faces owner_of start_cell part_word entry_code call_code return_code
step30 =
    adds o30 (own_code (behind 4)) T2 (pos 4) (own_code (behind 2)) (pos (behind 6))
    (own_stands o30 (behind 3) (Cca T2 (Imm (pos 4))) refl (omega arith) (omega arith)
    (has_in given_back given_back_same (behind 3) _ (omega arith) refl) (record { sfits = omega arith }) refl)
    refl refl refl refl

pub step31 : Makes o31 o32 1 None
unfolding faces owner_of start_cell part_word entry_code call_code return_code
step31 =
    by_row o31 o32.maps (Jmp T2) (own_code (behind 5))
    (own_stands o31 (behind 4) (Jmp T2) refl (omega arith) (omega arith)
    (has_in given_back given_back_same (behind 4) _ (omega arith) refl) tt refl) refl
    (jmp_goes look Plain T2 (Mem (own_code (behind 5))) o31.maps o31.maps
    (stays look Plain o31.maps (R T2) refl))

pub step32 : Makes o32 o33 1 None
unfolding faces owner_of start_cell part_word entry_code call_code return_code
step32 =
    clears o32 (own_code (behind 7)) T1
    (own_stands o32 (behind 6) (zero_of T1) refl (omega arith) (omega arith)
    (has_in given_back given_back_same (behind 6) _ (omega arith) refl) (record { sfits = omega arith }) refl)
    refl

pub step33 : Makes o33 o34 1 None
unfolding faces owner_of start_cell part_word entry_code call_code return_code
step33 =
    adds o33 (own_code (behind 8)) Stk (pos 1) (stack 118 116) (pos 117)
    (own_stands o33 (behind 7) (Cca Stk (Imm (pos 1))) refl (omega arith) (omega arith)
    (has_in given_back given_back_same (behind 7) _ (omega arith) refl) (record { sfits = omega arith }) refl)
    refl refl refl refl

pub step34 : Makes o34 o35 1 None
unfolding faces owner_of start_cell part_word entry_code call_code return_code
step34 =
    loads o34 (own_code (behind 9)) Rdata Stk (stack 118 117) 117 g_data
    (own_stands o34 (behind 8) (Load Rdata Stk) refl (omega arith) (omega arith)
    (has_in given_back given_back_same (behind 8) _ (omega arith) refl) tt refl)
    refl refl refl refl (omega arith) (omega arith) data117 refl refl

pub step35 : Makes o35 o36 1 None
unfolding faces owner_of start_cell part_word entry_code call_code return_code
step35 =
    stores o35 (own_code (behind 10)) T1 117 (Plain g_data)
    (own_stands o35 (behind 9) (Store Stk T1) refl (omega arith) (omega arith)
    (has_in given_back given_back_same (behind 9) _ (omega arith) refl) tt refl)
    refl (omega arith) (omega arith) data117 refl

pub step36 : Makes o36 o37 1 None
unfolding faces owner_of start_cell part_word entry_code call_code return_code
step36 =
    adds o36 (own_code (behind 11)) Stk (pos 1) (stack 118 117) (pos 118)
    (own_stands o36 (behind 10) (Cca Stk (Imm (pos 1))) refl (omega arith) (omega arith)
    (has_in one_wiped one_wiped_same (behind 10) _ (omega arith) refl) (record { sfits = omega arith }) refl)
    refl refl refl refl

pub step37 : Makes o37 o38 1 None
unfolding faces owner_of start_cell part_word entry_code call_code return_code
step37 =
    loads o37 (own_code (behind 12)) Rcode Stk (stack 118 118) 118 g_code
    (own_stands o37 (behind 11) (Load Rcode Stk) refl (omega arith) (omega arith)
    (has_in one_wiped one_wiped_same (behind 11) _ (omega arith) refl) tt refl)
    refl refl refl refl (omega arith) (omega arith) still118 refl refl

pub step38 : Makes o38 o39 1 None
unfolding faces owner_of start_cell part_word entry_code call_code return_code
step38 =
    stores o38 (own_code (behind 13)) T1 118 (Plain g_code)
    (own_stands o38 (behind 12) (Store Stk T1) refl (omega arith) (omega arith)
    (has_in one_wiped one_wiped_same (behind 12) _ (omega arith) refl) tt refl)
    refl (omega arith) (omega arith) still118 refl

pub step39 : Makes o39 o40 1 None
unfolding faces owner_of start_cell part_word entry_code call_code return_code
step39 =
    clears o39 (own_code (behind 14)) T2
    (own_stands o39 (behind 13) (zero_of T2) refl (omega arith) (omega arith)
    (has_in wiped wiped_same (behind 13) _ (omega arith) refl) (record { sfits = omega arith }) refl) refl

pub step40 : Makes o40 o41 1 None
unfolding faces owner_of start_cell part_word entry_code call_code return_code
step40 =
    clears o40 (own_code (behind 15)) C1
    (own_stands o40 (behind 14) (zero_of C1) refl (omega arith) (omega arith)
    (has_in wiped wiped_same (behind 14) _ (omega arith) refl) (record { sfits = omega arith }) refl) refl

pub step41 : Makes o41 o42 1 None
unfolding faces owner_of start_cell part_word entry_code call_code return_code
step41 =
    clears o41 (own_code (behind 16)) C2
    (own_stands o41 (behind 15) (zero_of C2) refl (omega arith) (omega arith)
    (has_in wiped wiped_same (behind 15) _ (omega arith) refl) (record { sfits = omega arith }) refl) refl

pub step42 : Makes o42 o43 1 None
unfolding faces owner_of start_cell part_word entry_code call_code return_code
step42 =
    clears o42 (own_code (behind 17)) A1
    (own_stands o42 (behind 16) (zero_of A1) refl (omega arith) (omega arith)
    (has_in wiped wiped_same (behind 16) _ (omega arith) refl) (record { sfits = omega arith }) refl) refl

pub step43 : Makes o43 o44 1 None
unfolding faces owner_of start_cell part_word entry_code call_code return_code
step43 =
    clears o43 (own_code (behind 18)) A2
    (own_stands o43 (behind 17) (zero_of A2) refl (omega arith) (omega arith)
    (has_in wiped wiped_same (behind 17) _ (omega arith) refl) (record { sfits = omega arith }) refl) refl

pub step44 : Makes o44 o45 1 None
unfolding faces owner_of start_cell part_word entry_code call_code return_code
step44 =
    clears o44 (own_code (behind 19)) A3
    (own_stands o44 (behind 18) (zero_of A3) refl (omega arith) (omega arith)
    (has_in wiped wiped_same (behind 18) _ (omega arith) refl) (record { sfits = omega arith }) refl) refl

pub step45 : Makes o45 o46 1 None
unfolding faces owner_of start_cell part_word entry_code call_code return_code
step45 =
    clears o45 (own_code (behind 20)) G0
    (own_stands o45 (behind 19) (zero_of G0) refl (omega arith) (omega arith)
    (has_in wiped wiped_same (behind 19) _ (omega arith) refl) (record { sfits = omega arith }) refl) refl

pub step46 : Makes o46 o47 1 None
unfolding faces owner_of start_cell part_word entry_code call_code return_code
step46 =
    clears o46 (own_code (behind 21)) G1
    (own_stands o46 (behind 20) (zero_of G1) refl (omega arith) (omega arith)
    (has_in wiped wiped_same (behind 20) _ (omega arith) refl) (record { sfits = omega arith }) refl) refl

pub step47 : Makes o47 o48 1 None
unfolding faces owner_of start_cell part_word entry_code call_code return_code
step47 =
    clears o47 (own_code (behind 22)) G2
    (own_stands o47 (behind 21) (zero_of G2) refl (omega arith) (omega arith)
    (has_in wiped wiped_same (behind 21) _ (omega arith) refl) (record { sfits = omega arith }) refl) refl

-- ---- it leaves

abbrev pub leave_event : Event
leave_event = Left 0

pub step48 : Makes o48 o49 1 (Some leave_event)
unfolding faces opens owner_of start_cell part_word entry_code call_code return_code
step48 =
    by_row o48 o49.maps (Xjmp Rcode Rdata) (own_code (behind 23))
    (own_stands o48 (behind 22) (Xjmp Rcode Rdata) refl (omega arith) (omega arith)
    (has_in wiped wiped_same (behind 22) _ (omega arith) refl) tt refl) refl
    (xjmp_goes look Plain Rcode Rdata (Mem (own_code (behind 23))) o48.maps o48.maps 30 (its_code 104)
    (MemC (its_data 106))
    refl refl refl refl refl (stays look Plain o48.maps (R Rdata) refl))
