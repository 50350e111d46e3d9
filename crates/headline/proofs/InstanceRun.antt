-- The run of the instance: the steps of its overlay are an entry, three instructions, a call, and the return
-- to it.
use Rattle.std.proofs.Common.{◌≡◌, ℕ, ◌+◌, ◌-◌, pos, true, false, List, [], ◌∷◌, ◌++◌, Some, None, refl, ap}
use Rattle.std.proofs.Common.{◌∙◌, arith, subst, inl}
use Rattle.std.specs.Prelude.{option_map, ◌&&◌, is_some}
use Rattle.cap_words.specs.declared.Word.{Word}
use Rattle.cap_words.specs.declared.Word.TheVariants.{Int, Mem, Sealed}
use Rattle.cap_words.specs.declared.Sealable.TheVariants.{Mem as MemIn}
use Rattle.cap_words.specs.declared.Content.TheVariants.{Mem as MemC}
use Rattle.cap_words.specs.declared.Perm.TheVariants.{Rw, Rwx}
use Rattle.cap_words.specs.declared.Lin.TheVariants.{Normal, Linear}
use Rattle.cap_words.specs.declared.CapFields.{CapFields}
use Rattle.lcm_isa.specs.declared.Reg.TheVariants.{Pc, Rcode, Rdata, Dat, C1, C2}
use Rattle.lcm_isa.specs.declared.Operand.TheVariants.{Imm}
use Rattle.lcm_isa.specs.declared.Instr.TheVariants.{Load, Cca, Xjmp}
use Rattle.lcm_isa.proofs.Offers.{decode_of-number_of}
use Rattle.lcm_machine.specs.declared.Place.TheVariants.{R}
use Rattle.lcm_machine.specs.Maps.{Regs, State}
use Rattle.lcm_machine.specs.Cells.{cell, all_there, words_from, without, put_back}
use Rattle.lcm_machine.specs.Row.{faces, cell_faces, fetch, some, look_face, opens, row, went}
use Rattle.lcm_machine.specs.Runs.{code_cap}
use Rattle.lcm_machine.proofs.Offers.{cell-without_in, cell-without_out, stays, load_goes, cca_goes}
use Rattle.lcm_machine.proofs.Offers.{xjmp_goes, fetch_at, step_row}
use Rattle.call_sequence.specs.declared.TheConstants.{CALL_WORDS, ENTRY_WORDS, RETURN_WORDS}
use Rattle.call_sequence.specs.Sequences.{call_code, return_code, entry_code}
use Rattle.linked_starts.specs.Regions.{regions_of}
use Rattle.linked_starts.specs.Start.{start_cell, start_regs, part_word}
use Rattle.linked_starts.specs.Owners.{owner_of}
use Rattle.trusted_border.specs.declared.layout.Layout.{Layout}
use Rattle.trusted_border.specs.Layout.{trusted_at, site_code}
use Rattle.overlay_machine.specs.declared.words.OWord.{OWord}
use Rattle.overlay_machine.specs.declared.words.OWord.TheVariants.{Plain, RetCode, RetData}
use Rattle.overlay_machine.specs.declared.cases.Case.TheVariants.{Call, Back, Other}
use Rattle.overlay_machine.specs.State.{OpenFrame, OState, Cells, word_of}
use Rattle.overlay_machine.specs.Words.{look}
use Rattle.overlay_machine.specs.Flat.{flat, beside}
use Rattle.overlay_machine.specs.Step.{goes, ask, need, own_stack, with_frames, case_fetched, case_trusted}
use Rattle.overlay_machine.specs.Step.{case_of, call_step, entry_step, return_step, other_step, step_by}
use Rattle.overlay_machine.specs.Step.{weight_by, overlay_step, weight_of}
use Rattle.overlay_machine.specs.Events.{note_jump, jump_seal, owner_now, note_by, event_after, step_event}
use Rattle.overlay_machine.specs.Seen.{IsOverlayOf}
use Rattle.overlay_machine.specs.Starting.{overlay_at}
use Rattle.overlay_machine.proofs.Offers.{is_overlay, start_word_is, is_linked, start_there}
use Rattle.run_lines.specs.Layout.{layout, part_name, site_of}
use Rattle.run_lines.specs.Views.{flat_view}
use Rattle.run_lines.specs.Lines.{Line, Args, call, ret, lines_for}
use Rattle.headline.specs.Alike.{StartLinesAgree}
use Rattle.headline.specs.Headline.{CallThere}
use Rattle.run_lines.specs.Told.{step_lines, Told, none_yet, and_then}
use Rattle.linked_starts.proofs.Offers.{as_word, pair, start, spans, cells_are, site_at, halt_at, seals_at}

-- ---- how many instructions lead to where

-- to its call, after the call's `xjmp`, and after the answer's and the return
abbrev pub to_call : ℕ
to_call = site_at

abbrev pub to_callee : ℕ
to_callee = to_call + CALL_WORDS

abbrev pub to_end : ℕ
to_end = to_callee + (1 + RETURN_WORDS)

-- ---- the cells of the overlay

abbrev pub L : Layout
L = layout start

abbrev pub M : Cells
M = (overlay_at start).state.maps.cells

over : IsOverlayOf start (overlay_at start)
over = is_overlay pair 4 start is_linked

has : (a : ℕ) (w : Word) → start_cell pair 4 a ≡ Some w → cell M a ≡ Some (Plain w)
has a w e = over.cells a ∙ start_word_is pair 4 start is_linked a ∙ ap (option_map Plain) (cells_are a ∙ e)

abbrev code_word : Word
code_word = Sealed 30 (MemIn (record { perm = Rwx; lin = Normal; base = 77; end = 78; addr = pos 77 }))

abbrev data_word : Word
data_word = Sealed 30 (MemIn (record { perm = Rw; lin = Normal; base = 80; end = 82; addr = pos 80 }))

at21 : start_cell pair 4 21 ≡ Some (as_word (Load C1 Dat))
unfolding start_cell part_word entry_code call_code return_code
at21 = refl

at22 : start_cell pair 4 22 ≡ Some (as_word (Cca Dat (Imm (pos 1))))
unfolding start_cell part_word entry_code call_code return_code
at22 = refl

at23 : start_cell pair 4 23 ≡ Some (as_word (Load C2 Dat))
unfolding start_cell part_word entry_code call_code return_code
at23 = refl

at74 : start_cell pair 4 74 ≡ Some code_word
unfolding start_cell part_word entry_code call_code return_code
at74 = refl

at75 : start_cell pair 4 75 ≡ Some data_word
unfolding start_cell part_word entry_code call_code return_code
at75 = refl

at77 : start_cell pair 4 77 ≡ Some (as_word (Xjmp Rcode Rdata))
unfolding start_cell part_word entry_code call_code return_code
at77 = refl

at90 : start_cell pair 4 90 ≡ Some (Int (pos 0))
unfolding start_cell part_word regions_of entry_code call_code return_code
at90 = refl

-- ---- the states

abbrev pub zero_ : OWord
zero_ = Plain (Int (pos 0))

abbrev pub regs_with : (pc rcode rdata stk dat c1 c2 : OWord) → Regs OWord
regs_with pc rcode rdata stk dat c1 c2 = record {
  pc = pc;
  rcode = rcode;
  rdata = rdata;
  stk = stk;
  dat = dat;
  t1 = zero_;
  t2 = zero_;
  c1 = c1;
  c2 = c2;
  a0 = zero_;
  a1 = zero_;
  a2 = zero_;
  a3 = zero_;
  g0 = zero_;
  g1 = zero_;
  g2 = zero_;
}

abbrev state : Regs OWord → Cells → List OpenFrame → ℕ → OState
state rs m fs n = record { maps = record { regs = rs; cells = m; spans = spans }; frames = fs; calls = n }

-- the part's code has its seals at its end
abbrev code_end : ℕ
code_end = 1 + seals_at

abbrev code : ℕ → OWord
code n = Plain (Mem (code_cap 1 code_end n))

abbrev stack : ℕ → OWord
stack e = Plain (Mem (record { perm = Rw; lin = Linear; base = 87; end = e; addr = pos e }))

abbrev pub own_data : ℕ → CapFields
own_data n = record { perm = Rw; lin = Normal; base = 74; end = 75; addr = pos n }

abbrev its_code : CapFields
its_code = record { perm = Rwx; lin = Normal; base = 77; end = 78; addr = pos 77 }

abbrev its_data : CapFields
its_data = record { perm = Rw; lin = Normal; base = 80; end = 82; addr = pos 80 }

abbrev pub o0 : OState
o0 = (overlay_at start).state

abbrev o1 : OState
o1 = state (regs_with (code 21) zero_ zero_ (stack 90) (Plain (Mem (own_data 74))) zero_ zero_) M [] 0

abbrev o2 : OState
o2 = state (regs_with (code 22) zero_ zero_ (stack 90) (Plain (Mem (own_data 74))) (Plain code_word) zero_)
    M [] 0

abbrev o3 : OState
o3 = state (regs_with (code 23) zero_ zero_ (stack 90) (Plain (Mem (own_data 75))) (Plain code_word) zero_)
    M [] 0

abbrev pub o4 : OState
o4 = state
    (regs_with (code 24) zero_ zero_ (stack 90) (Plain (Mem (own_data 75))) (Plain code_word)
    (Plain data_word)) M [] 0

abbrev pub frame : OpenFrame
frame = record { call = 0; site = 0; base = 90; end = 90; words = Plain (Mem (own_data 75)) ∷ [] }

abbrev pub o5 : OState
o5 = state
    (regs_with (Plain (Mem its_code)) (RetCode 0) (RetData 0) (stack 89) (Plain (Mem its_data))
    (Plain code_word) (Plain data_word)) (without M 90 90) (frame ∷ []) 1

abbrev pub o6 : OState
o6 = state
    (regs_with (code (1 + halt_at)) (RetCode 0) zero_ (stack 90) (Plain (Mem (own_data 75))) (Plain code_word)
    (Plain data_word)) (put_back (without M 90 90) 90 (zero_ ∷ [])) [] 1

-- ---- the entry

step0 : overlay_step L o0 ≡ goes o1
unfolding overlay_step case_of entry_step own_stack need faces owner_of start_regs entry_code call_code
    return_code
step0 = refl

weight0 : weight_of L o0 ≡ ENTRY_WORDS
unfolding weight_of case_of faces owner_of start_regs entry_code call_code return_code
weight0 = refl

lines0 : step_lines L o0 o1 ≡ []
unfolding step_event case_of faces owner_of start_regs entry_code call_code return_code
lines0 = refl

-- ---- three instructions

fetch1 : fetch (faces look o1.maps Pc) (cell_faces look o1.maps)
    ≡ some (Load C1 Dat) (Mem (code_cap 1 code_end 22))
fetch1 = fetch_at look Plain o1.maps 1 code_end 21 (Load C1 Dat) refl (omega arith) (omega arith)
    (ap (look_face look) (has 21 _ at21)) tt

case1 : case_of L o1.maps ≡ Other
unfolding case_of faces owner_of entry_code call_code return_code
case1 = ap (λ f. case_trusted L (trusted_at L (faces look o1.maps Pc)) (case_fetched o1.maps f)) fetch1

step1 : overlay_step L o1 ≡ goes o2
unfolding overlay_step other_step
step1 = ap (λ c. step_by L c o1) case1
    ∙ ap (with_frames [] 0)
    (step_row look Plain o1.maps 1 code_end 21 (Load C1 Dat) refl (omega arith) (omega arith)
    (ap (look_face look) (has 21 _ at21)) tt
    ∙ load_goes look Plain C1 Dat (Mem (code_cap 1 code_end 22)) o1.maps (own_data 74) 74 (Plain code_word)
    code_word refl refl refl refl (omega arith) (omega arith) (has 74 _ at74) refl refl refl)

weight1 : weight_of L o1 ≡ 1
unfolding weight_of
weight1 = ap (weight_by o1.maps) case1

lines1 : step_lines L o1 o2 ≡ []
unfolding step_event
lines1 = ap (λ c. lines_for L (flat_view L o2) (event_after L (note_by L o1 c) o2)) case1
    ∙ ap (λ f. lines_for L (flat_view L o2)
    (event_after L (note_jump (option_map (λ p. p.part) (owner_now L o1)) (jump_seal o1.maps f)) o2))
    fetch1

fetch2 : fetch (faces look o2.maps Pc) (cell_faces look o2.maps) ≡ some (Cca Dat (Imm (pos 1)))
    (Mem (code_cap 1 code_end 23))
fetch2 = fetch_at look Plain o2.maps 1 code_end 22 (Cca Dat (Imm (pos 1))) refl (omega arith) (omega arith)
    (ap (look_face look) (has 22 _ at22)) (record { sfits = omega arith })

case2 : case_of L o2.maps ≡ Other
unfolding case_of faces owner_of entry_code call_code return_code
case2 = ap (λ f. case_trusted L (trusted_at L (faces look o2.maps Pc)) (case_fetched o2.maps f)) fetch2

step2 : overlay_step L o2 ≡ goes o3
unfolding overlay_step other_step
step2 = ap (λ c. step_by L c o2) case2
    ∙ ap (with_frames [] 0)
    (step_row look Plain o2.maps 1 code_end 22 (Cca Dat (Imm (pos 1))) refl (omega arith) (omega arith)
    (ap (look_face look) (has 22 _ at22)) (record { sfits = omega arith })
    ∙ cca_goes look Plain Dat (Imm (pos 1)) (Mem (code_cap 1 code_end 23)) o2.maps (own_data 74) (pos 1)
    (pos 75)
    refl refl refl refl refl)

weight2 : weight_of L o2 ≡ 1
unfolding weight_of
weight2 = ap (weight_by o2.maps) case2

lines2 : step_lines L o2 o3 ≡ []
unfolding step_event
lines2 = ap (λ c. lines_for L (flat_view L o3) (event_after L (note_by L o2 c) o3)) case2
    ∙ ap (λ f. lines_for L (flat_view L o3)
    (event_after L (note_jump (option_map (λ p. p.part) (owner_now L o2)) (jump_seal o2.maps f)) o3))
    fetch2

fetch3 : fetch (faces look o3.maps Pc) (cell_faces look o3.maps)
    ≡ some (Load C2 Dat) (Mem (code_cap 1 code_end 24))
fetch3 = fetch_at look Plain o3.maps 1 code_end 23 (Load C2 Dat) refl (omega arith) (omega arith)
    (ap (look_face look) (has 23 _ at23)) tt

case3 : case_of L o3.maps ≡ Other
unfolding case_of faces owner_of entry_code call_code return_code
case3 = ap (λ f. case_trusted L (trusted_at L (faces look o3.maps Pc)) (case_fetched o3.maps f)) fetch3

step3 : overlay_step L o3 ≡ goes o4
unfolding overlay_step other_step
step3 = ap (λ c. step_by L c o3) case3
    ∙ ap (with_frames [] 0)
    (step_row look Plain o3.maps 1 code_end 23 (Load C2 Dat) refl (omega arith) (omega arith)
    (ap (look_face look) (has 23 _ at23)) tt
    ∙ load_goes look Plain C2 Dat (Mem (code_cap 1 code_end 24)) o3.maps (own_data 75) 75 (Plain data_word)
    data_word refl refl refl refl (omega arith) (omega arith) (has 75 _ at75) refl refl refl)

weight3 : weight_of L o3 ≡ 1
unfolding weight_of
weight3 = ap (weight_by o3.maps) case3

lines3 : step_lines L o3 o4 ≡ []
unfolding step_event
lines3 = ap (λ c. lines_for L (flat_view L o4) (event_after L (note_by L o3 c) o4)) case3
    ∙ ap (λ f. lines_for L (flat_view L o4)
    (event_after L (note_jump (option_map (λ p. p.part) (owner_now L o3)) (jump_seal o3.maps f)) o4))
    fetch3

-- ---- the call

pub case4 : case_of L o4.maps ≡ Call 0
unfolding case_of faces owner_of entry_code call_code return_code
case4 = refl

there4 : all_there M 90 1 ≡ true
unfolding all_there
there4 = ap (λ x. is_some x && true) (has 90 _ at90)

abbrev jump4 : State OWord
jump4 = record {
  regs = regs_with (code (1 + site_at + (CALL_WORDS - 1))) (RetCode 0) (RetData 0) (stack 89)
      (Plain (Mem (own_data 75)))
      (Plain code_word) (Plain data_word);
  cells = without M 90 90;
  spans = spans;
}

row4 : row look Plain (Xjmp C1 C2) (Int (pos 0)) jump4 ≡ went o5.maps
row4 = xjmp_goes look Plain C1 C2 (Int (pos 0)) jump4 jump4 30 its_code (MemC its_data)
    refl refl refl refl refl (stays look Plain jump4 (R C2) refl)

called4 : call_step L 0 o4 ≡ goes o5
unfolding call_step need ask own_stack site_code faces owner_of words_from entry_code call_code return_code
called4 = rw (there4, row4)

step4 : overlay_step L o4 ≡ goes o5
unfolding overlay_step
step4 = ap (λ c. step_by L c o4) case4 ∙ called4

weight4 : weight_of L o4 ≡ CALL_WORDS
unfolding weight_of
weight4 = ap (weight_by o4.maps) case4

abbrev pub zeros : Args
zeros = record { a0 = Int (pos 0); a1 = Int (pos 0); a2 = Int (pos 0); a3 = Int (pos 0) }

abbrev pub call_line : Line
call_line = call false (116 ∷ []) 0 90 90 zeros (Mem (own_data 75) ∷ [])

abbrev ret_line : Line
ret_line = ret false (116 ∷ []) 0 90 90 (Int (pos 0)) (Mem (own_data 75) ∷ [])

gone90 : cell (without M 90 90) 90 ≡ None
gone90 = cell-without_in M 90 90 90 (omega arith) (omega arith)

lines4 : step_lines L o4 o5 ≡ call_line ∷ []
unfolding step_event case_of faces opens owner_of flat beside word_of site_code part_name site_of entry_code
    call_code return_code
lines4 = rw gone90

-- ---- the return

still77 : cell (without M 90 90) 77 ≡ Some (Plain (as_word (Xjmp Rcode Rdata)))
still77 = cell-without_out M 90 90 77 (inl (omega arith)) ∙ has 77 _ at77

fetch5 : fetch (faces look o5.maps Pc) (cell_faces look o5.maps) ≡ some (Xjmp Rcode Rdata)
    (Mem (record its_code { addr = pos 78 }))
unfolding faces cell_faces
fetch5 = rw (still77, decode_of-number_of (Xjmp Rcode Rdata) tt)

pub case5 : case_of L o5.maps ≡ Back Rcode Rdata
unfolding case_of faces owner_of entry_code call_code return_code
case5 = ap (λ f. case_trusted L (trusted_at L (faces look o5.maps Pc)) (case_fetched o5.maps f)) fetch5

pub returned5 : return_step L Rcode Rdata o5 ≡ goes o6
unfolding return_step need ask own_stack site_code faces owner_of entry_code call_code return_code
returned5 = refl

step5 : overlay_step L o5 ≡ goes o6
unfolding overlay_step
step5 = ap (λ c. step_by L c o5) case5 ∙ returned5

pub weight5 : weight_of L o5 ≡ 1 + RETURN_WORDS
unfolding weight_of
weight5 = ap (weight_by o5.maps) case5

back_lines : lines_for L (flat_view L o6) (event_after L (note_by L o5 (Back Rcode Rdata)) o6) ≡ ret_line ∷ []
unfolding faces owner_of flat part_name site_of entry_code call_code return_code
back_lines = refl

lines5 : step_lines L o5 o6 ≡ ret_line ∷ []
unfolding step_event
lines5 = ap (λ c. lines_for L (flat_view L o6) (event_after L (note_by L o5 c) o6)) case5 ∙ back_lines

-- ---- all of them

next_told : {j : ℕ} {ls : List Line} {p q : OState} (n : ℕ) (ms : List Line) → Told L o0 j ls p
    → overlay_step L p ≡ goes q → weight_of L p ≡ n → step_lines L p q ≡ ms → Told L o0 (j + n) (ls ++ ms) q
next_told {j} {ls} {p} {q} n ms t e w l =
    subst (λ (xs : List Line). Told L o0 (j + n) (ls ++ xs) q) l
    (subst (λ (k : ℕ). Told L o0 (j + k) (ls ++ step_lines L p q) q) w (and_then t e))

told1 : Told L o0 ENTRY_WORDS [] o1
told1 = next_told ENTRY_WORDS [] none_yet step0 weight0 lines0

told2 : Told L o0 21 [] o2
told2 = next_told 1 [] told1 step1 weight1 lines1

told3 : Told L o0 22 [] o3
told3 = next_told 1 [] told2 step2 weight2 lines2

pub told4 : Told L o0 to_call [] o4
told4 = next_told 1 [] told3 step3 weight3 lines3

pub told5 : Told L o0 to_callee (call_line ∷ []) o5
told5 = next_told CALL_WORDS (call_line ∷ []) told4 step4 weight4 lines4

told6 : Told L o0 to_end (call_line ∷ ret_line ∷ []) o6
told6 = next_told (1 + RETURN_WORDS) (ret_line ∷ []) told5 step5 weight5 lines5

-- what the plain run writes, since it writes what the overlay's steps tell
pub call_there : StartLinesAgree → CallThere
call_there agree = record {
  there = start_there;
  n = to_end;
  part = 116 ∷ [];
  site = 0;
  base = 90;
  last = 90;
  args = zeros;
  a0 = Int (pos 0);
  words = Mem (own_data 75) ∷ [];
  lines = (agree pair 4 start is_linked).matched to_end (call_line ∷ ret_line ∷ []) o6 told6;
}
