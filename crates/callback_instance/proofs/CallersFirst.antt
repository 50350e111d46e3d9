-- Where a module with main lets go for the first time, computed.
use Rattle.std.proofs.Common.{◌≡◌, pos, true, false, List, [], ◌∷◌, Some, refl}
use Rattle.cap_words.specs.declared.Word.TheVariants.{Int, Mem}
use Rattle.cap_words.specs.declared.Perm.TheVariants.{Rw, Rx}
use Rattle.cap_words.specs.declared.Lin.TheVariants.{Normal}
use Rattle.cap_words.specs.declared.CapFields.{CapFields}
use Rattle.lcm_isa.specs.declared.Instr.TheVariants.{Xjmp}
use Rattle.lcm_isa.specs.declared.Reg.TheVariants.{C1, C2}
use Rattle.lcm_isa.specs.Numbers as numbers
use Rattle.lcm_isa.specs.Numbers.{number_of, decode_of, candidate, all_with}
use Rattle.lcm_machine.specs.declared.cells.Span.{Span}
use Rattle.lcm_machine.specs.Spans.{zero_regs}
use Rattle.lcm_machine.specs.Row.{faces, opens, some, clear, perform}
use Rattle.lcm_machine.specs.Table as table
use Rattle.call_sequence.specs.Sequences.{call_code, return_code, entry_code}
use Rattle.linked_starts.specs.Parts.{PartSeen}
use Rattle.linked_starts.specs.Regions.{regions_of}
use Rattle.linked_starts.specs.Start.{start_cell, start_regs, part_word}
use Rattle.linked_starts.specs.Owners.{owner_of}
use Rattle.trusted_border.specs.declared.layout.Layout.{Layout}
use Rattle.trusted_border.specs.declared.layout.SiteCode.{SiteCode}
use Rattle.trusted_border.specs.Layout.{site_code}
use Rattle.overlay_machine.specs.declared.words.OWord.{OWord}
use Rattle.overlay_machine.specs.declared.words.OWord.TheVariants.{Plain, RetCode, RetData}
use Rattle.overlay_machine.specs.declared.cases.Case.TheVariants.{Call}
use Rattle.overlay_machine.specs.Copies.{plain_regs}
use Rattle.overlay_machine.specs.State.{OpenFrame, OState, Cells}
use Rattle.overlay_machine.specs.Step.{entry_step, own_stack, need}
use Rattle.overlay_machine.specs.Starting.{overlay_at}
use Rattle.run_lines.specs.Cuts.{is_inside}
use Rattle.run_lines.specs.Layout.{layout}
use Rattle.proc_names.specs.Names.{variable_named, callee_named}
use Rattle.proc_templates.specs.Items as items
use Rattle.proc_templates.specs.Items.{instrs}
use Rattle.proc_templates.specs.Templates.{before_epilogue}
use Rattle.proc_templates.specs.Compiled.{frame_of, laid_of, lay_proc, first_data, exports_of, imports_of}
use Rattle.proc_templates.specs.Compiled.{component_of, compiled}
use Rattle.source_laws.specs.Secrets.{still_there}
use Rattle.lockstep.specs.Lockstep.{Round}
use Rattle.context_laws.specs.Sources.{IsFirstRound}
use Rattle.same_meanings.specs.Observed.{by_number}
use Rattle.same_meanings.proofs.Offers.{numbers_apart}
use Rattle.context_laws.specs.Meanings.{SameMeaningsAreNotToldApart}
use Rattle.known_steps.specs.Known.{Known, Partly, blank, knows, case_by, by_fetched, at_pc, known_run}
use Rattle.known_steps.specs.Known.{words_since, gone, at_xjmp}
use Rattle.known_steps.proofs.Offers.{known_from, known_at_start, whole, CrossesTo, call_known, RunsTo}
use Rattle.known_steps.proofs.Offers.{runs_known}
use Rattle.context_instance.proofs.Offers.{outsider, parts_with, is_linked, other_there}
use Rattle.callback_instance.specs.Callers.{says, CallersLetGo}
use Rattle.callback_instance.proofs.Run.{its_code, its_data, stack, number, its, its_half}
use Rattle.callback_instance.proofs.Round.{stays_until, callback}
use Rattle.callback_instance.proofs.Calling.{callers_mean_the_same}
use Rattle.callback_instance.proofs.CallersLinks.{says_limits, adds_limits, says_resolved, adds_resolved}
use Rattle.callback_instance.proofs.CallersLinks.{answerer, main_in, says_sites, says_links, says_start}
use Rattle.callback_instance.proofs.CallersLinks.{adds_start, says_link, adds_link, callers_beside}
use Rattle.callback_instance.proofs.CallersLinks.{callers_differ}

abbrev P : List PartSeen
P = parts_with answerer (compiled says)

abbrev L : Layout
L = layout says_start

abbrev K : Known
K = known_from P 8

abbrev S : List Span
S = says_start.state.maps.spans

abbrev at_start : OState
at_start = (overlay_at says_start).state

-- ---- states: at the start, before the call, and after it

abbrev own_data : CapFields
own_data = record { perm = Rw; lin = Normal; base = 200; end = 203; addr = pos 200 }

abbrev beginning : Partly
beginning = record { regs = plain_regs (start_regs P 8 (main_in (compiled says))); changes = [] }

abbrev calling : Partly
calling = record {
  regs = record (plain_regs (zero_regs (λ w. w))) {
    pc = Plain (Mem (record { perm = Rx; lin = Normal; base = 1; end = 95; addr = pos 47 }));
    stk = Plain (Mem (stack 307 304));
    dat = Plain (Mem own_data);
    c1 = its 263;
    c2 = its_half;
    a0 = number 6;
  };
  changes = (305, Some (number 6)) ∷ (305, Some (number 0)) ∷ (306, Some (number 0)) ∷ (307, Some (number 0))
      ∷ [];
}

abbrev pushed : List OWord
pushed = number 6 ∷ number 0 ∷ number 0 ∷ []

abbrev frame : OpenFrame
frame = record { call = 0; site = 0; base = 304; end = 307; words = Plain (Mem own_data) ∷ pushed }

abbrev called : Partly
called = record {
  regs = record calling.regs {
    pc = Plain (Mem (its_code 263));
    rcode = RetCode 0;
    rdata = RetData 0;
    stk = Plain (Mem (stack 303 303));
    dat = Plain (Mem (its_data 272));
  };
  changes = gone 304 4 calling.changes;
}

abbrev site : SiteCode
site = record { seal = 12; base = 1; end = 95; at = 47 }

-- ---- what is computed

record Computed : Type 0 where
  pub begins : is_inside L at_start ≡ true
  pub to_call : known_run K L true 25 beginning ≡ Some calling
  pub site_is : site_code L 0 ≡ Some site
  pub knows_call : knows K calling (at_pc K calling) ≡ true
  pub calls : case_by K L calling ≡ Call 0
  pub calls_on : own_stack L (blank calling.regs) ≡ Some (stack 307 304)
  pub pushes : words_since K calling.changes 304 4 ≡ Some (number 0 ∷ pushed)
  pub jumps : by_fetched K (at_xjmp 0 site (stack 307 304) 3 0 calling) (some (Xjmp C1 C2) (Int (pos 0)))
      ≡ Some called
  pub is_called : (m : Cells) → is_inside L (whole K S L (frame ∷ []) 1 called m) ≡ false

computed : Computed
unfolding start_cell start_regs part_word regions_of component_of frame_of laid_of lay_proc before_epilogue
    items.put instrs first_data exports_of imports_of variable_named callee_named entry_code call_code
    return_code number_of decode_of candidate all_with numbers.table faces opens owner_of clear perform
    table.need
    table.ask table.by_cap entry_step own_stack need known_run site_code
computed = record {
  begins = refl;
  to_call = refl;
  site_is = refl;
  knows_call = refl;
  calls = refl;
  calls_on = refl;
  pushes = refl;
  jumps = refl;
  is_called = λ m. refl;
}

adds_begins : is_inside (layout adds_start) (overlay_at adds_start).state ≡ true
unfolding start_regs component_of frame_of laid_of lay_proc before_epilogue items.put instrs first_data
    exports_of
    imports_of variable_named callee_named entry_code call_code return_code faces owner_of
adds_begins = refl

to_call : RunsTo K S L [] 0 true calling at_start
to_call =
    runs_known K S L [] 0 true 25 beginning calling at_start.maps.cells
    (known_at_start P 8 says_start
    (is_linked answerer (main_in (compiled says)) (compiled says) says_sites says_links)) computed.begins
    computed.to_call

calls : CrossesTo K S L 0 [] called (frame ∷ []) 1 (whole K S L [] 0 calling to_call.0)
calls =
    call_known K S L 0 [] calling called to_call.0 0 3 site (stack 307 304) (number 0) pushed to_call.1 refl
    refl
    computed.knows_call computed.calls computed.site_is computed.calls_on refl refl computed.pushes refl
    computed.jumps

-- ---- it lets go

abbrev first : Round
first = record {
  before = at_start;
  entered = at_start;
  last = whole K S L [] 0 calling to_call.0;
  after = whole K S L (frame ∷ []) 1 called calls.0;
}

is_first : IsFirstRound says_start first
is_first = record {
  begins = refl;
  until = stays_until to_call.2 (still_there computed.begins);
  lets = calls.2;
  gone = computed.is_called calls.0;
}

pub callers_go : SameMeaningsAreNotToldApart → CallersLetGo
callers_go law =
    let both = law by_number numbers_apart says_link adds_link callers_beside (outsider answerer)
    (other_there answerer (main_in (compiled says)) (compiled says) says_sites says_links)
    (callers_mean_the_same 8) in
    let r = both.0.2.lets_go first is_first in
    record {
      limits = (says_limits, adds_limits);
      resolved = (says_resolved, adds_resolved);
      differ = callers_differ;
      same = callers_mean_the_same;
      there = record {
        sources = says_link;
        sources_too = adds_link;
        are = record { one_is = refl; other_is = refl; beside = callers_beside };
      };
      inside = computed.begins;
      inside_too = adds_begins;
      first = first;
      lets_go = is_first;
      pair = callback;
      calls = record {
        frame = frame;
        shown = record {
          older = [];
          newest = refl;
          pc = refl;
          dat = refl;
          c1 = refl;
          c2 = refl;
          rcode = refl;
          rdata = refl;
          stk = refl;
          t1 = refl;
          t2 = refl;
          g0 = refl;
          g1 = refl;
          g2 = refl;
        };
        number = refl;
      };
      names = both.0.0;
      by_names = both.0.1;
      first_too = r.0;
      lets_go_too = r.1;
      in_both = r.2;
      shows = r.3;
      on = r.4;
    }
