-- The trusted part calls the teller, which enters it again while the call is open: the overlay's steps, and
-- their lines.
use Rattle.std.proofs.Common.{◌≡◌, ℕ, ◌+◌, ◌-◌, ◌≤◌, inl, pos, Bool, true, false, [], ◌∷◌, Some}
use Rattle.std.proofs.Common.{None, refl, ap, ◌∙◌, arith, is_some}
use Rattle.std.specs.Prelude.{◌&&◌, if◌then◌else◌, nat_lt}
use Rattle.std.proofs.lemmas.Bool.{ltb-true}
use Rattle.cap_words.specs.declared.Word.TheVariants.{Int, Mem, Sealed}
use Rattle.cap_words.specs.declared.Sealable.TheVariants.{Mem as MemIn}
use Rattle.cap_words.specs.declared.Content.TheVariants.{Mem as MemC}
use Rattle.cap_words.specs.declared.Perm.TheVariants.{Rw}
use Rattle.cap_words.specs.declared.Lin.TheVariants.{Linear}
use Rattle.cap_words.specs.declared.CapFields.{CapFields}
use Rattle.cap_words.specs.Faces.{may_write}
use Rattle.lcm_isa.specs.declared.Instr.TheVariants.{Xjmp}
use Rattle.lcm_isa.specs.declared.Reg.TheVariants.{C1, C2}
use Rattle.lcm_isa.specs.Numbers as numbers
use Rattle.lcm_isa.specs.Numbers.{number_of, decode_of, candidate, all_with}
use Rattle.lcm_machine.specs.declared.Place.TheVariants.{R}
use Rattle.lcm_machine.specs.Maps.{State}
use Rattle.lcm_machine.specs.Cells.{cell, all_there, words_from, without}
use Rattle.lcm_machine.specs.Row.{faces, opens, row, went, clear, perform}
use Rattle.lcm_machine.specs.Runs.{code_cap}
use Rattle.lcm_machine.specs.Table as table
use Rattle.lcm_machine.proofs.Offers.{cell-without_in, cell-without_out, stays, xjmp_goes}
use Rattle.call_sequence.specs.declared.TheConstants.{CALL_WORDS, ENTRY_WORDS}
use Rattle.call_sequence.specs.Sequences.{call_code, return_code, entry_code}
use Rattle.linked_starts.specs.Regions.{regions_of}
use Rattle.linked_starts.specs.Start.{start_cell, start_regs, part_word}
use Rattle.trusted_border.specs.declared.layout.Layout.{Layout}
use Rattle.trusted_border.specs.Layout.{site_code}
use Rattle.overlay_machine.specs.declared.words.OWord.{OWord}
use Rattle.overlay_machine.specs.declared.words.OWord.TheVariants.{Plain, RetCode, RetData}
use Rattle.overlay_machine.specs.declared.cases.Case.TheVariants.{Call, Other}
use Rattle.overlay_machine.specs.Copies.{plain_regs}
use Rattle.overlay_machine.specs.State.{OpenFrame, OState, Cells, word_of, frame_of}
use Rattle.overlay_machine.specs.Words.{look}
use Rattle.overlay_machine.specs.Flat.{flat, beside}
use Rattle.overlay_machine.specs.Starting.{overlay_at}
use Rattle.overlay_machine.specs.Step.{goes, ask, need, own_stack, case_of, call_step, entry_step, step_by}
use Rattle.overlay_machine.specs.Step.{overlay_step, weight_by, weight_of}
use Rattle.overlay_machine.specs.Events.{event_after, step_event}
use Rattle.source_events.specs.declared.FeedBack.TheVariants as way
use Rattle.run_lines.specs.Layout.{layout, part_name, entry_name, site_of}
use Rattle.run_lines.specs.Views.{flat_view}
use Rattle.run_lines.specs.Lines.{Line, Args, call, enter, lines_for}
use Rattle.run_lines.specs.Told.{Told, none_yet, step_lines}
use Rattle.headline.proofs.Offers.{regs_with, zero_, zeros}
use Rattle.known_steps.specs.Known.{Known, AreIn, Partly, knows, case_by, at_pc, known_step}
use Rattle.known_steps.proofs.Offers.{StepsTo, known_from, known_at_start, step_known, jump_note}
use Rattle.law_instances.proofs.Teller.{parts}
use Rattle.law_instances.proofs.Start.{start, spans, main, is_linked_start}
use Rattle.law_instances.proofs.Counting.{own_code, own_data, main_code, main_data, code_half, half}
use Rattle.law_instances.proofs.Told.{Passes, next_told, table_told, quiet_run, quiet_told}
use Rattle.law_instances.proofs.Told as told

-- ---- words, and what is known

abbrev pub L : Layout
L = layout start

abbrev K : Known
K = known_from parts 4

-- without the stack's last word, which the call takes away
abbrev below : Known
below a = if nat_lt a 90 then K a else None

abbrev code : ℕ → OWord
code n = Plain (Mem (code_cap 1 52 n))

abbrev pub stack : ℕ → CapFields
stack e = record { perm = Rw; lin = Linear; base = 87; end = e; addr = pos e }

-- the pair that the trusted part calls
abbrev its_half : CapFields → OWord
its_half c = Plain (Sealed 30 (MemIn c))

abbrev its_code : OWord
its_code = its_half (own_code 77)

abbrev its_data : OWord
its_data = its_half (own_data 54)

-- ---- states

abbrev pub o0 : OState
o0 = (overlay_at start).state

abbrev beginning : Partly
beginning = record { regs = plain_regs (start_regs parts 4 main); changes = [] }

abbrev entered : Partly
entered = record {
  regs = regs_with (code 21) zero_ zero_ (Plain (Mem (stack 90))) (Plain (Mem (main_data 74))) zero_ zero_;
  changes = [];
}

abbrev calling : Partly
calling = record {
  regs = regs_with (code 24) zero_ zero_ (Plain (Mem (stack 90))) (Plain (Mem (main_data 75))) its_code
      its_data;
  changes = [];
}

abbrev pub frame : OpenFrame
frame = record { call = 0; site = 0; base = 90; end = 90; words = Plain (Mem (main_data 75)) ∷ [] }

abbrev called : Partly
called = record {
  regs = regs_with (Plain (Mem (own_code 77))) (RetCode 0) (RetData 0) (Plain (Mem (stack 89)))
      (Plain (Mem (own_data 54))) its_code its_data;
  changes = [];
}

abbrev jumping : Partly
jumping = record {
  regs = record called.regs {
    pc = Plain (Mem (own_code 84));
    dat = Plain (Mem (own_data 56));
    a0 = Plain (Int (pos 6));
    c1 = Plain code_half;
    c2 = Plain half;
  };
  changes = (54, Some (Plain (Int (pos 6)))) ∷ [];
}

abbrev inside : Partly
inside = record jumping {
  regs = record jumping.regs { pc = Plain (Mem main_code); dat = Plain (Mem (main_data 74)) };
}

-- ---- what is computed

-- trusted code and code outside go on alike; code outside may write its code
abbrev any : OWord → Bool
any w = true

abbrev pub runs_outside : OWord → Bool
runs_outside (Plain (Mem c)) = may_write c.perm
runs_outside _ = false

record Computed : Type 0 where
  pub enters : known_step K L beginning ≡ Some entered
  pub to_call : quiet_run K spans L [] 0 any 3 entered ≡ Some calling
  pub stack_there : K 90 ≡ Some zero_
  pub to_jump : quiet_run below spans L (frame ∷ []) 1 runs_outside 7 called ≡ Some jumping
  pub jump_known : knows below jumping (at_pc below jumping) ≡ true
  pub jump_case : case_by below L jumping ≡ Other
  pub jumps : known_step below L jumping ≡ Some inside

computed : Computed
unfolding start_cell start_regs part_word regions_of entry_code call_code return_code number_of decode_of
    candidate all_with numbers.table faces opens clear perform table.need table.ask table.by_cap entry_step
    own_stack need quiet_run
computed = record {
  enters = refl;
  to_call = refl;
  stack_there = refl;
  to_jump = refl;
  jump_known = refl;
  jump_case = refl;
  jumps = refl;
}

-- ---- the entry, and up to the call

enters : StepsTo K spans L [] 0 entered (overlay_step L o0)
enters = step_known K spans L [] 0 beginning entered o0.maps.cells
    (known_at_start parts 4 start is_linked_start) computed.enters

entry_weight : weight_of L o0 ≡ ENTRY_WORDS
unfolding weight_of case_of faces start_regs entry_code call_code return_code
entry_weight = refl

entry_lines : (q : OState) → step_lines L o0 q ≡ []
unfolding step_event case_of faces start_regs entry_code call_code return_code
entry_lines q = refl

told_entered : Told L o0 20 [] (told.at K spans L [] 0 entered enters.0)
told_entered = next_told ENTRY_WORDS [] none_yet enters.2 entry_weight (entry_lines _)

pub to_call : ((d : ℕ) → d ≤ 3 → Passes K spans L [] 0 any o0 (20 + d) [])
    × ((m : Cells) × AreIn K [] m × Told L o0 (20 + 3) [] (told.at K spans L [] 0 calling m))
to_call = quiet_told K spans L [] 0 any 3 20 entered calling enters.0 enters.1 computed.to_call told_entered

abbrev m : Cells
m = to_call.1.0

-- ---- the call

abbrev pub o_called : OState
o_called = record {
  maps = record { regs = called.regs; cells = without m 90 90; spans = spans };
  frames = frame ∷ [];
  calls = 1;
}

abbrev o_calling : OState
o_calling = told.at K spans L [] 0 calling m

call_case : case_of L o_calling.maps ≡ Call 0
unfolding case_of faces
call_case = refl

there : all_there m 90 1 ≡ true
unfolding all_there
there = ap (λ x. is_some x && true) (to_call.1.1 90 zero_ computed.stack_there)

abbrev at_jump : State OWord
at_jump = record {
  regs = regs_with (code (24 + (CALL_WORDS - 1))) (RetCode 0) (RetData 0) (Plain (Mem (stack 89)))
      (Plain (Mem (main_data 75))) its_code its_data;
  cells = without m 90 90;
  spans = spans;
}

jumps_out : row look Plain (Xjmp C1 C2) (Int (pos 0)) at_jump ≡ went o_called.maps
jumps_out = xjmp_goes look Plain C1 C2 (Int (pos 0)) at_jump at_jump 30 (own_code 77) (MemC (own_data 54))
    refl refl refl refl refl (stays look Plain at_jump (R C2) refl)

calls_out : call_step L 0 o_calling ≡ goes o_called
unfolding call_step need ask own_stack site_code faces words_from
calls_out = rw (there, jumps_out)

call_goes : overlay_step L o_calling ≡ goes o_called
unfolding overlay_step
call_goes = ap (λ c. step_by L c o_calling) call_case ∙ calls_out

call_weight : weight_of L o_calling ≡ CALL_WORDS
unfolding weight_of
call_weight = ap (weight_by o_calling.maps) call_case

abbrev pub call_line : Line
call_line = call false (116 ∷ []) 0 90 90 zeros (Mem (main_data 75) ∷ [])

pub gone : cell (without m 90 90) 90 ≡ None
gone = cell-without_in m 90 90 90 (omega arith) (omega arith)

call_lines : step_lines L o_calling o_called ≡ call_line ∷ []
unfolding step_event case_of faces opens flat beside word_of site_code part_name site_of
call_lines = rw gone

pub told_called : Told L o0 39 (call_line ∷ []) o_called
told_called = next_told CALL_WORDS (call_line ∷ []) to_call.1.2 call_goes call_weight call_lines

-- ---- the teller counts, and enters

below_in : AreIn below [] (without m 90 90)
below_in a w e = by (nat_lt a 90) refl e
  where
    by : (b : Bool) → nat_lt a 90 ≡ b → (if b then K a else None) ≡ Some w
        → cell (without m 90 90) a ≡ Some w
    by true lt e = cell-without_out m 90 90 a (inl (ltb-true a 90 lt)) ∙ to_call.1.1 a w e
    by false lt e = absurd cc

pub counts : ((d : ℕ) → d ≤ 7 → Passes below spans L (frame ∷ []) 1 runs_outside o0 (39 + d) (call_line ∷ []))
    × ((n : Cells) × AreIn below jumping.changes n
    × Told L o0 (39 + 7) (call_line ∷ []) (told.at below spans L (frame ∷ []) 1 jumping n))
counts =
    quiet_told below spans L (frame ∷ []) 1 runs_outside 7 39 called jumping (without m 90 90) below_in
    computed.to_jump told_called

abbrev pub args : Args
args = record { a0 = Int (pos 6); a1 = Int (pos 0); a2 = Int (pos 0); a3 = Int (pos 0) }

-- with the pair of the open call as its return
abbrev pub enter_line : Line
enter_line = enter (116 ∷ []) (109 ∷ 97 ∷ 105 ∷ 110 ∷ []) (Mem (stack 89)) args (way.Pair (116 ∷ []) 0 90)

enter_lines : (n : Cells)
    → let q = told.at below spans L (frame ∷ []) 1 inside n in
    lines_for L (flat_view L q) (event_after L (jump_note below spans L (frame ∷ []) 1 jumping) q)
    ≡ enter_line ∷ []
unfolding start_cell part_word entry_code call_code return_code number_of decode_of candidate all_with
    numbers.table faces opens flat site_code frame_of part_name entry_name site_of table.need table.ask
enter_lines n = refl

pub told_inside : (n : Cells) × AreIn below inside.changes n
    × Told L o0 47 (call_line ∷ enter_line ∷ []) (told.at below spans L (frame ∷ []) 1 inside n)
told_inside =
    table_told below spans L (frame ∷ []) 1 (enter_line ∷ []) jumping inside counts.1.0 counts.1.1
    computed.jump_known computed.jump_case computed.jumps enter_lines counts.1.2
