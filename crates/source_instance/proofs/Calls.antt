-- The module comes to its call, and the adversary goes right back.
use Rattle.std.proofs.Common.{◌≡◌, ℕ, pos, negsuc, true, false, [], ◌∷◌, Some, None, refl, ap, ◌∙◌, arith}
use Rattle.std.proofs.Common.{inl, ◌≢◌, ◌+◌, ◌-◌}
use Rattle.cap_words.specs.declared.Word.TheVariants.{Int, Mem}
use Rattle.cap_words.specs.declared.Content.TheVariants.{Mem as MemC}
use Rattle.lcm_isa.specs.declared.Reg.TheVariants.{Pc, Rcode, Rdata, Stk, Dat, T2, C1, C2, A0, A1, A2, A3, G0}
use Rattle.lcm_isa.specs.declared.Reg.TheVariants.{G1, G2}
use Rattle.lcm_isa.specs.declared.Operand.TheVariants.{R, Imm}
use Rattle.lcm_isa.specs.declared.Instr.TheVariants.{Load, Store, Cca, Xjmp}
use Rattle.lcm_machine.specs.declared.Place.TheVariants.{R, Cell}
use Rattle.lcm_machine.specs.Maps.{State}
use Rattle.lcm_machine.specs.Cells.{cell, set_cell, all_there, words_from, without, put_back}
use Rattle.lcm_machine.specs.Row.{faces, opens, row, went}
use Rattle.lcm_machine.proofs.Offers.{stays, xjmp_goes, cell-without_out, cell-set_other, cell-set_same}
use Rattle.call_sequence.specs.declared.TheConstants.{CALL_WORDS, RETURN_WORDS}
use Rattle.call_sequence.specs.Sequences.{call_code, return_code, entry_code}
use Rattle.linked_starts.specs.Regions.{regions_of}
use Rattle.linked_starts.specs.Start.{start_cell, part_word}
use Rattle.linked_starts.specs.Owners.{owner_of}
use Rattle.trusted_border.specs.declared.events.Event.{Event}
use Rattle.trusted_border.specs.declared.events.Event.TheVariants.{Called, Returned}
use Rattle.trusted_border.specs.Layout.{trusted_at, site_code}
use Rattle.overlay_machine.specs.declared.words.OWord.{OWord}
use Rattle.overlay_machine.specs.declared.words.OWord.TheVariants.{Plain, RetCode, RetData}
use Rattle.overlay_machine.specs.declared.cases.Case.TheVariants.{Call, Back}
use Rattle.overlay_machine.specs.State.{OpenFrame, OState, Cells}
use Rattle.overlay_machine.specs.Words.{look}
use Rattle.overlay_machine.specs.Step.{goes, need, ask, own_stack, case_fetched, case_trusted, case_of}
use Rattle.overlay_machine.specs.Step.{entry_step, call_step, return_step, step_by, weight_by, overlay_step}
use Rattle.overlay_machine.specs.Step.{weight_of}
use Rattle.overlay_machine.specs.Events.{note_by, event_after, step_event}
use Rattle.proc_templates.specs.Items.{zero_of}
use Rattle.source_instance.proofs.Module.{as_word, behind, site_at}
use Rattle.source_instance.proofs.Parts.{parts}
use Rattle.source_instance.proofs.Machine.{L, M, has, IsSame, at_start, has_in, set_above, maps, state}
use Rattle.source_instance.proofs.Machine.{own_code, own_data, its_code, its_data, stack, g_code, g_data}
use Rattle.source_instance.proofs.Machine.{Makes, own_stands, its_fetch, after, loads, stores, adds, clears}
use Rattle.source_instance.proofs.Enters.{o8}
use Rattle.headline.proofs.Offers.{regs_with, zero_}

-- ---- memory: the words of the return are pushed

cell_is : (a : ℕ) → start_cell parts 8 a ≡ Some (Int (pos 0)) → cell M a ≡ Some zero_
cell_is a e = has a (Int (pos 0)) e

zero116 : cell M 116 ≡ Some zero_
unfolding start_cell part_word regions_of entry_code call_code return_code
zero116 = cell_is 116 refl

zero117 : cell M 117 ≡ Some zero_
unfolding start_cell part_word regions_of entry_code call_code return_code
zero117 = cell_is 117 refl

zero118 : cell M 118 ≡ Some zero_
unfolding start_cell part_word regions_of entry_code call_code return_code
zero118 = cell_is 118 refl

abbrev one_pushed : Cells
one_pushed = set_cell M 118 (Plain g_code)

abbrev pub pushed : Cells
pushed = set_cell one_pushed 117 (Plain g_data)

one_pushed_same : IsSame one_pushed
one_pushed_same = set_above M 118 (Plain g_code) at_start (omega arith)

pub pushed_same : IsSame pushed
pushed_same = set_above one_pushed 117 (Plain g_data) one_pushed_same (omega arith)

still117 : cell one_pushed 117 ≡ Some zero_
still117 = cell-set_other M 118 117 (Plain g_code) (let ne : 117 ≢ 118 = omega arith in ne) ∙ zero117

-- ---- the states

abbrev pub o9 : OState
o9 = after o8 (own_code 23) (R T2) zero_

abbrev pub o10 : OState
o10 = after o9 (own_code 24) (Cell 118) (Plain g_code)

abbrev pub o11 : OState
o11 = after o10 (own_code 25) (R Stk) (Plain (Mem (stack 118 117)))

abbrev pub o12 : OState
o12 = after o11 (own_code 26) (Cell 117) (Plain g_data)

abbrev pub o13 : OState
o13 = after o12 (own_code 27) (R Stk) (Plain (Mem (stack 118 116)))

abbrev pub o14 : OState
o14 = after o13 (own_code 28) (R A0) zero_

abbrev pub o15 : OState
o15 = after o14 (own_code 29) (R A1) zero_

abbrev pub o16 : OState
o16 = after o15 (own_code 30) (R A2) zero_

abbrev pub o17 : OState
o17 = after o16 (own_code 31) (R A3) zero_

abbrev pub o18 : OState
o18 = after o17 (own_code 32) (R Dat) (Plain (Mem (own_data 90)))

abbrev pub o19 : OState
o19 = after o18 (own_code 33) (R C1) (Plain g_code)

abbrev pub o20 : OState
o20 = after o19 (own_code 34) (R Dat) (Plain (Mem (own_data 91)))

abbrev pub o21 : OState
o21 = after o20 (own_code 35) (R C2) (Plain g_data)

abbrev pub o22 : OState
o22 = after o21 (own_code 36) (R Dat) (Plain (Mem (own_data 90)))

abbrev pub o23 : OState
o23 = after o22 (own_code 37) (R G0) zero_

abbrev pub o24 : OState
o24 = after o23 (own_code 38) (R G1) zero_

abbrev pub o25 : OState
o25 = after o24 (own_code 39) (R G2) zero_

-- ---- it comes to its call

pub entry_made : Makes o8 o9 20 None
unfolding overlay_step weight_of step_event case_of entry_step own_stack need faces owner_of entry_code
    call_code return_code
entry_made = record { goes_on = refl; weight = refl; event = refl }

pub step9 : Makes o9 o10 1 None
unfolding faces owner_of start_cell part_word entry_code call_code return_code
step9 =
    stores o9 (own_code 24) Rcode 118 zero_
    (own_stands o9 23 (Store Stk Rcode) refl (omega arith) (omega arith) (has 23 _ refl) tt refl)
    refl (omega arith) (omega arith) zero118 refl

pub step10 : Makes o10 o11 1 None
unfolding faces owner_of start_cell part_word entry_code call_code return_code
step10 =
    adds o10 (own_code 25) Stk (negsuc 0) (stack 118 118) (pos 117)
    (own_stands o10 24 (Cca Stk (Imm (negsuc 0))) refl (omega arith) (omega arith)
    (has_in one_pushed one_pushed_same 24 _ (omega arith) refl) (record { sfits = omega arith }) refl)
    refl refl refl refl

pub step11 : Makes o11 o12 1 None
unfolding faces owner_of start_cell part_word entry_code call_code return_code
step11 =
    stores o11 (own_code 26) Rdata 117 zero_
    (own_stands o11 25 (Store Stk Rdata) refl (omega arith) (omega arith)
    (has_in one_pushed one_pushed_same 25 _ (omega arith) refl) tt refl)
    refl (omega arith) (omega arith) still117 refl

pub step12 : Makes o12 o13 1 None
unfolding faces owner_of start_cell part_word entry_code call_code return_code
step12 =
    adds o12 (own_code 27) Stk (negsuc 0) (stack 118 117) (pos 116)
    (own_stands o12 26 (Cca Stk (Imm (negsuc 0))) refl (omega arith) (omega arith)
    (has_in pushed pushed_same 26 _ (omega arith) refl) (record { sfits = omega arith }) refl)
    refl refl refl refl

pub step13 : Makes o13 o14 1 None
unfolding faces owner_of start_cell part_word entry_code call_code return_code
step13 =
    clears o13 (own_code 28) A0
    (own_stands o13 27 (zero_of A0) refl (omega arith) (omega arith)
    (has_in pushed pushed_same 27 _ (omega arith) refl) (record { sfits = omega arith }) refl) refl

pub step14 : Makes o14 o15 1 None
unfolding faces owner_of start_cell part_word entry_code call_code return_code
step14 =
    clears o14 (own_code 29) A1
    (own_stands o14 28 (zero_of A1) refl (omega arith) (omega arith)
    (has_in pushed pushed_same 28 _ (omega arith) refl) (record { sfits = omega arith }) refl) refl

pub step15 : Makes o15 o16 1 None
unfolding faces owner_of start_cell part_word entry_code call_code return_code
step15 =
    clears o15 (own_code 30) A2
    (own_stands o15 29 (zero_of A2) refl (omega arith) (omega arith)
    (has_in pushed pushed_same 29 _ (omega arith) refl) (record { sfits = omega arith }) refl) refl

pub step16 : Makes o16 o17 1 None
unfolding faces owner_of start_cell part_word entry_code call_code return_code
step16 =
    clears o16 (own_code 31) A3
    (own_stands o16 30 (zero_of A3) refl (omega arith) (omega arith)
    (has_in pushed pushed_same 30 _ (omega arith) refl) (record { sfits = omega arith }) refl) refl

pub step17 : Makes o17 o18 1 None
unfolding faces owner_of start_cell part_word entry_code call_code return_code
step17 =
    adds o17 (own_code 32) Dat (pos 0) (own_data 90) (pos 90)
    (own_stands o17 31 (Cca Dat (Imm (pos 0))) refl (omega arith) (omega arith)
    (has_in pushed pushed_same 31 _ (omega arith) refl) (record { sfits = omega arith }) refl)
    refl refl refl refl

pub step18 : Makes o18 o19 1 None
unfolding faces owner_of start_cell part_word entry_code call_code return_code
step18 =
    loads o18 (own_code 33) C1 Dat (own_data 90) 90 g_code
    (own_stands o18 32 (Load C1 Dat) refl (omega arith) (omega arith)
    (has_in pushed pushed_same 32 _ (omega arith) refl) tt refl)
    refl refl refl refl (omega arith) (omega arith) (has_in pushed pushed_same 90 g_code (omega arith) refl)
    refl refl

pub step19 : Makes o19 o20 1 None
unfolding faces owner_of start_cell part_word entry_code call_code return_code
step19 =
    adds o19 (own_code 34) Dat (pos 1) (own_data 90) (pos 91)
    (own_stands o19 33 (Cca Dat (Imm (pos 1))) refl (omega arith) (omega arith)
    (has_in pushed pushed_same 33 _ (omega arith) refl) (record { sfits = omega arith }) refl)
    refl refl refl refl

pub step20 : Makes o20 o21 1 None
unfolding faces owner_of start_cell part_word entry_code call_code return_code
step20 =
    loads o20 (own_code 35) C2 Dat (own_data 91) 91 g_data
    (own_stands o20 34 (Load C2 Dat) refl (omega arith) (omega arith)
    (has_in pushed pushed_same 34 _ (omega arith) refl) tt refl)
    refl refl refl refl (omega arith) (omega arith) (has_in pushed pushed_same 91 g_data (omega arith) refl)
    refl refl

pub step21 : Makes o21 o22 1 None
unfolding faces owner_of start_cell part_word entry_code call_code return_code
step21 =
    adds o21 (own_code 36) Dat (negsuc 0) (own_data 91) (pos 90)
    (own_stands o21 35 (Cca Dat (Imm (negsuc 0))) refl (omega arith) (omega arith)
    (has_in pushed pushed_same 35 _ (omega arith) refl) (record { sfits = omega arith }) refl)
    refl refl refl refl

pub step22 : Makes o22 o23 1 None
unfolding faces owner_of start_cell part_word entry_code call_code return_code
step22 =
    clears o22 (own_code 37) G0
    (own_stands o22 36 (zero_of G0) refl (omega arith) (omega arith)
    (has_in pushed pushed_same 36 _ (omega arith) refl) (record { sfits = omega arith }) refl) refl

pub step23 : Makes o23 o24 1 None
unfolding faces owner_of start_cell part_word entry_code call_code return_code
step23 =
    clears o23 (own_code 38) G1
    (own_stands o23 37 (zero_of G1) refl (omega arith) (omega arith)
    (has_in pushed pushed_same 37 _ (omega arith) refl) (record { sfits = omega arith }) refl) refl

pub step24 : Makes o24 o25 1 None
unfolding faces owner_of start_cell part_word entry_code call_code return_code
step24 =
    clears o24 (own_code 39) G2
    (own_stands o24 38 (zero_of G2) refl (omega arith) (omega arith)
    (has_in pushed pushed_same 38 _ (omega arith) refl) (record { sfits = omega arith }) refl) refl

-- ---- the call

abbrev pub frame : OpenFrame
frame = record {
  call = 0;
  site = 0;
  base = 116;
  end = 118;
  words = Plain (Mem (own_data 90)) ∷ Plain g_data ∷ Plain g_code ∷ [];
}

abbrev pub taken : Cells
taken = without pushed 116 118

abbrev pub call_event : Event
call_event = Called false 0 116 118

abbrev pub o26 : OState
o26 = state
    (maps (regs_with (Plain (Mem (its_code 104))) (RetCode 0) (RetData 0) (Plain (Mem (stack 115 115)))
    (Plain (Mem (its_data 106))) (Plain g_code) (Plain g_data)) taken) (frame ∷ []) 1

in116 : cell pushed 116 ≡ Some zero_
in116 =
    cell-set_other one_pushed 117 116 (Plain g_data) (let ne : 116 ≢ 117 = omega arith in ne)
    ∙ cell-set_other M 118 116 (Plain g_code) (let ne : 116 ≢ 118 = omega arith in ne) ∙ zero116

in117 : cell pushed 117 ≡ Some (Plain g_data)
in117 = cell-set_same one_pushed 117 (Plain g_data)

in118 : cell pushed 118 ≡ Some (Plain g_code)
in118 =
    cell-set_other one_pushed 117 118 (Plain g_data) (let ne : 118 ≢ 117 = omega arith in ne)
    ∙ cell-set_same M 118 (Plain g_code)

there : all_there pushed 116 3 ≡ true
unfolding all_there
there = rw (in116, in117, in118)

words : words_from Plain pushed 117 2 ≡ Plain g_data ∷ Plain g_code ∷ []
unfolding words_from
words = rw (in117, in118)

call_case : case_of L o25.maps ≡ Call 0
unfolding case_of faces owner_of entry_code call_code return_code
call_case = refl

abbrev at_jump : State OWord
at_jump = maps
    (regs_with (Plain (Mem (own_code (1 + site_at + (CALL_WORDS - 1))))) (RetCode 0) (RetData 0)
    (Plain (Mem (stack 115 115)))
    (Plain (Mem (own_data 90))) (Plain g_code) (Plain g_data)) taken

call_row : row look Plain (Xjmp C1 C2) (Int (pos 0)) at_jump ≡ went o26.maps
call_row =
    xjmp_goes look Plain C1 C2 (Int (pos 0)) at_jump at_jump 30 (its_code 104) (MemC (its_data 106)) refl refl
    refl
    refl refl (stays look Plain at_jump (R C2) refl)

call_goes : call_step L 0 o25 ≡ goes o26
unfolding call_step need ask own_stack site_code faces owner_of entry_code call_code return_code
call_goes = rw (there, words, call_row)

call_told : event_after L (note_by L o25 (Call 0)) o26 ≡ Some call_event
unfolding faces opens owner_of entry_code call_code return_code
call_told = refl

pub call_made : Makes o25 o26 CALL_WORDS (Some call_event)
unfolding overlay_step weight_of step_event
call_made = record {
  goes_on = ap (λ c. step_by L c o25) call_case ∙ call_goes;
  weight = ap (weight_by o25.maps) call_case;
  event = ap (λ c. event_after L (note_by L o25 c) o26) call_case ∙ call_told;
}

-- ---- the return

abbrev pub given_back : Cells
given_back = put_back taken 116 (zero_ ∷ Plain g_data ∷ Plain g_code ∷ [])

abbrev pub return_event : Event
return_event = Returned false 0 116 118

abbrev pub o27 : OState
o27 = state
    (maps (regs_with (Plain (Mem (own_code (behind 0)))) (RetCode 0) zero_ (Plain (Mem (stack 118 116)))
    (Plain (Mem (own_data 90))) (Plain g_code) (Plain g_data)) given_back) [] 1

pub still : cell taken 104 ≡ Some (Plain (as_word (Xjmp Rcode Rdata)))
unfolding start_cell part_word entry_code call_code return_code
still =
    cell-without_out pushed 116 118 104 (inl (omega arith))
    ∙ has_in pushed pushed_same 104 (as_word (Xjmp Rcode Rdata)) (omega arith) refl

back_case : case_of L o26.maps ≡ Back Rcode Rdata
unfolding case_of faces owner_of entry_code call_code return_code
back_case =
    ap (λ f. case_trusted L (trusted_at L (faces look o26.maps Pc)) (case_fetched o26.maps f))
    (its_fetch o26.maps 104 (Xjmp Rcode Rdata) refl (omega arith) (omega arith) still tt)

back_goes : return_step L Rcode Rdata o26 ≡ goes o27
unfolding return_step need ask own_stack site_code faces owner_of entry_code call_code return_code
back_goes = refl

back_told : event_after L (note_by L o26 (Back Rcode Rdata)) o27 ≡ Some return_event
unfolding faces owner_of entry_code call_code return_code
back_told = refl

pub return_made : Makes o26 o27 (RETURN_WORDS + 1) (Some return_event)
unfolding overlay_step weight_of step_event
return_made = record {
  goes_on = ap (λ c. step_by L c o26) back_case ∙ back_goes;
  weight = ap (weight_by o26.maps) back_case;
  event = ap (λ c. event_after L (note_by L o26 c) o27) back_case ∙ back_told;
}

-- ---- after it memory is as at the start, but for the words that came back

pub given_back_same : IsSame given_back
unfolding put_back
given_back_same =
    let s : IsSame taken = λ a lt. cell-without_out pushed 116 118 a (inl lt) ∙ pushed_same a lt in
    let t = set_above taken 116 zero_ s (omega arith) in
    let u = set_above (set_cell taken 116 zero_) 117 (Plain g_data) t (omega arith) in
    set_above (set_cell (set_cell taken 116 zero_) 117 (Plain g_data)) 118 (Plain g_code) u (omega arith)

pub data117 : cell given_back 117 ≡ Some (Plain g_data)
unfolding put_back
data117 =
    let m = set_cell taken 116 zero_ in
    cell-set_other (set_cell m 117 (Plain g_data)) 118 117 (Plain g_code)
    (let ne : 117 ≢ 118 = omega arith in ne)
    ∙ cell-set_same m 117 (Plain g_data)

pub code118 : cell given_back 118 ≡ Some (Plain g_code)
unfolding put_back
code118 = cell-set_same (set_cell (set_cell taken 116 zero_) 117 (Plain g_data)) 118 (Plain g_code)
