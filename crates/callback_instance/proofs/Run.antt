-- The run of the first module beside the adversary, computed: the callback is called, and answers.
use Rattle.std.proofs.Common.{◌≡◌, ℕ, pos, true, false, List, [], ◌∷◌, Some, refl}
use Rattle.cap_words.specs.declared.Word.TheVariants.{Int, Mem, Sealed}
use Rattle.cap_words.specs.declared.Sealable.TheVariants.{Mem as MemIn}
use Rattle.cap_words.specs.declared.Perm.TheVariants.{Rw, Rx, Rwx}
use Rattle.cap_words.specs.declared.Lin.TheVariants.{Normal, Linear}
use Rattle.cap_words.specs.declared.CapFields.{CapFields}
use Rattle.lcm_isa.specs.declared.Instr.TheVariants.{Halt, Xjmp}
use Rattle.lcm_isa.specs.declared.Reg.TheVariants.{Rcode, Rdata, C1, C2}
use Rattle.lcm_isa.specs.Numbers as numbers
use Rattle.lcm_isa.specs.Numbers.{number_of, decode_of, candidate, all_with}
use Rattle.lcm_machine.specs.Spans.{zero_regs}
use Rattle.lcm_machine.specs.Row.{faces, opens, some, clear, perform}
use Rattle.lcm_machine.specs.Table as table
use Rattle.call_sequence.specs.Sequences.{call_code, return_code, entry_code}
use Rattle.linked_starts.specs.Parts.{PartSeen}
use Rattle.linked_starts.specs.Regions.{regions_of}
use Rattle.linked_starts.specs.Start.{start_cell, start_regs, part_word}
use Rattle.linked_starts.specs.Owners.{owner_of}
use Rattle.trusted_border.specs.declared.layout.Layout.{Layout}
use Rattle.trusted_border.specs.declared.layout.SiteCode.{SiteCode}
use Rattle.trusted_border.specs.Layout.{site_code}
use Rattle.overlay_machine.specs.declared.words.OWord.{OWord}
use Rattle.overlay_machine.specs.declared.words.OWord.TheVariants.{Plain, RetCode, RetData}
use Rattle.overlay_machine.specs.declared.cases.Case.TheVariants.{Call, Back, Other}
use Rattle.overlay_machine.specs.Copies.{plain_regs}
use Rattle.overlay_machine.specs.State.{OpenFrame}
use Rattle.overlay_machine.specs.Step.{entry_step, own_stack, need}
use Rattle.run_lines.specs.Layout.{layout}
use Rattle.proc_names.specs.Names.{variable_named, callee_named}
use Rattle.proc_templates.specs.Items as items
use Rattle.proc_templates.specs.Items.{instrs}
use Rattle.proc_templates.specs.Templates.{before_epilogue}
use Rattle.proc_templates.specs.Compiled.{frame_of, laid_of, lay_proc, first_data, exports_of, imports_of}
use Rattle.proc_templates.specs.Compiled.{component_of, compiled}
use Rattle.known_steps.specs.Known.{Known, Partly, blank, knows, fetched, case_by, by_fetched, at_pc}
use Rattle.known_steps.specs.Known.{known_step, known_run, words_since, gone, at_xjmp, behind_return}
use Rattle.known_steps.proofs.Offers.{known_from}
use Rattle.context_instance.proofs.Offers.{main, parts_of}
use Rattle.callback_instance.specs.Passes.{passes}
use Rattle.callback_instance.proofs.Links.{passes_start}

abbrev pub P : List PartSeen
P = parts_of (compiled passes)

abbrev pub L : Layout
L = layout passes_start

abbrev pub K : Known
K = known_from P 8

-- ---- words: the module's code and data, the adversary's, and the stack up to an end

abbrev own_code : ℕ → CapFields
own_code n = record { perm = Rx; lin = Normal; base = 1; end = 137; addr = pos n }

abbrev own_data : CapFields
own_data = record { perm = Rw; lin = Normal; base = 200; end = 201; addr = pos 200 }

abbrev pub its_code : ℕ → CapFields
its_code n = record { perm = Rwx; lin = Normal; base = 250; end = 265; addr = pos n }

abbrev pub its_data : ℕ → CapFields
its_data n = record { perm = Rw; lin = Normal; base = 272; end = 277; addr = pos n }

abbrev pub stack : ℕ → ℕ → CapFields
stack e n = record { perm = Rw; lin = Linear; base = 300; end = e; addr = pos n }

abbrev pub number : ℕ → OWord
number n = Plain (Int (pos n))

-- an export of the adversary, at its address
abbrev pub its : ℕ → OWord
its n = Plain (Sealed 30 (MemIn (its_code n)))

abbrev pub its_half : OWord
its_half = Plain (Sealed 30 (MemIn (its_data 272)))

-- ---- states

abbrev pub beginning : Partly
beginning = record { regs = plain_regs (start_regs P 8 main); changes = [] }

-- before it enters the module, and after that
abbrev pub entering : Partly
entering = record {
  regs = record (plain_regs (zero_regs (λ w. w))) {
    pc = Plain (Mem (its_code 262));
    rcode = its 265;
    rdata = its_half;
    stk = Plain (Mem (stack 307 307));
    dat = Plain (Mem (its_data 277));
    c1 = Plain (Sealed 10 (MemIn (own_code 3)));
    c2 = Plain (Sealed 10 (MemIn own_data));
    a0 = number 3;
    a1 = its 263;
    a2 = its_half;
  };
  changes = [];
}

abbrev pub entered : Partly
entered = record entering {
  regs = record entering.regs { pc = Plain (Mem (own_code 3)); dat = Plain (Mem own_data) };
}

-- before the call, and after it
abbrev pub calling : Partly
calling = record {
  regs = record entered.regs {
    pc = Plain (Mem (own_code 81));
    stk = Plain (Mem (stack 307 301));
    c1 = its 263;
    c2 = its_half;
    a0 = number 6;
    a1 = number 0;
    a2 = number 0;
  };
  changes = (302, Some (number 6)) ∷ (302, Some (number 3)) ∷ (302, Some (number 0)) ∷ (303, Some its_half)
      ∷ (304, Some (its 263)) ∷ (305, Some (number 3)) ∷ (306, Some its_half) ∷ (307, Some (its 265)) ∷ [];
}

abbrev pub pushed : List OWord
pushed = number 6 ∷ its_half ∷ its 263 ∷ number 3 ∷ its_half ∷ its 265 ∷ []

abbrev pub frame : OpenFrame
frame = record { call = 0; site = 0; base = 301; end = 307; words = Plain (Mem own_data) ∷ pushed }

abbrev pub called : Partly
called = record {
  regs = record calling.regs {
    pc = Plain (Mem (its_code 263));
    rcode = RetCode 0;
    rdata = RetData 0;
    stk = Plain (Mem (stack 300 300));
    dat = Plain (Mem (its_data 272));
  };
  changes = gone 301 7 calling.changes;
}

-- before the answer, and after it
abbrev pub answering : Partly
answering = record called {
  regs = record called.regs { pc = Plain (Mem (its_code 264)); a0 = number 9 };
}

abbrev pub site : SiteCode
site = record { seal = 12; base = 1; end = 137; at = 81 }

abbrev pub answered : Partly
answered = behind_return site (stack 300 300) frame Rdata answering

-- before the module leaves, and after that
abbrev pub leaving : Partly
leaving = record {
  regs = record (plain_regs (zero_regs (λ w. w))) {
    pc = Plain (Mem (own_code 137));
    rcode = its 265;
    rdata = its_half;
    stk = Plain (Mem (stack 307 307));
    dat = Plain (Mem own_data);
    a0 = number 9;
  };
  changes = (307, Some (number 0)) ∷ (306, Some (number 0)) ∷ (305, Some (number 0)) ∷ (304, Some (number 0))
      ∷ (303, Some (number 0)) ∷ (302, Some (number 0)) ∷ answered.changes;
}

abbrev pub left : Partly
left = record leaving {
  regs = record leaving.regs { pc = Plain (Mem (its_code 265)); dat = Plain (Mem (its_data 272)) };
}

-- ---- what is computed

pub record Computed : Type 0 where
  pub to_entry : known_run K L false 12 beginning ≡ Some entering
  pub enters : known_step K L entering ≡ Some entered
  pub to_call : known_run K L true 59 entered ≡ Some calling
  pub pushes : words_since K calling.changes 301 7 ≡ Some (number 0 ∷ pushed)
  pub jumps : by_fetched K (at_xjmp 0 site (stack 307 301) 6 0 calling) (some (Xjmp C1 C2) (Int (pos 0)))
      ≡ Some called
  pub to_answer : known_run K L false 1 called ≡ Some answering
  pub to_leave : known_run K L true 29 answered ≡ Some leaving
  pub leaves : known_step K L leaving ≡ Some left

pub computed : Computed
unfolding start_cell start_regs part_word regions_of component_of frame_of laid_of lay_proc before_epilogue
    items.put instrs first_data exports_of imports_of variable_named callee_named entry_code call_code
    return_code number_of decode_of candidate all_with numbers.table faces opens owner_of clear perform
    table.need
    table.ask table.by_cap entry_step own_stack need known_run
computed = record {
  to_entry = refl;
  enters = refl;
  to_call = refl;
  pushes = refl;
  jumps = refl;
  to_answer = refl;
  to_leave = refl;
  leaves = refl;
}

-- where it calls, is answered, and halts
pub record Crossed : Type 0 where
  pub site_is : site_code L 0 ≡ Some site
  pub knows_call : knows K calling (at_pc K calling) ≡ true
  pub calls : case_by K L calling ≡ Call 0
  pub calls_on : own_stack L (blank calling.regs) ≡ Some (stack 307 301)
  pub knows_answer : knows K answering (at_pc K answering) ≡ true
  pub answers : case_by K L answering ≡ Back Rcode Rdata
  pub answers_on : own_stack L (blank answering.regs) ≡ Some (stack 300 300)
  pub knows_entry : knows K entering (at_pc K entering) ≡ true
  pub jumps_in : case_by K L entering ≡ Other
  pub knows_end : knows K left (at_pc K left) ≡ true
  pub stands : case_by K L left ≡ Other
  pub halt_next : fetched K left ≡ some Halt (Mem (its_code 266))

pub crossed : Crossed
unfolding start_cell start_regs part_word regions_of component_of frame_of laid_of lay_proc before_epilogue
    items.put instrs first_data exports_of imports_of variable_named callee_named entry_code call_code
    return_code number_of decode_of candidate all_with numbers.table faces opens owner_of own_stack site_code
crossed = record {
  site_is = refl;
  knows_call = refl;
  calls = refl;
  calls_on = refl;
  knows_answer = refl;
  answers = refl;
  answers_on = refl;
  knows_entry = refl;
  jumps_in = refl;
  knows_end = refl;
  stands = refl;
  halt_next = refl;
}
