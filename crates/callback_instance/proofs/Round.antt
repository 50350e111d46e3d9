-- The run's rounds, and that the run of the other link goes in step.
use Rattle.std.proofs.Common.{◌≡◌, ℕ, suc, ◌+◌, pos, true, false, List, [], ◌∷◌, ◌++◌, Some, None, refl, ap}
use Rattle.std.proofs.Common.{◌∙◌, Bool, sym}
use Rattle.cap_words.specs.declared.Word.TheVariants.{Int, Mem}
use Rattle.cap_words.specs.declared.Sealable.TheVariants.{Mem as MemIn}
use Rattle.lcm_isa.specs.declared.Reg.TheVariants.{Rcode, Rdata}
use Rattle.lcm_machine.specs.declared.cells.Span.{Span}
use Rattle.lcm_machine.specs.Row.{faces, opens}
use Rattle.lcm_machine.specs.Table as table
use Rattle.call_sequence.specs.Sequences.{call_code, return_code, entry_code}
use Rattle.linked_starts.specs.Owners.{owner_of}
use Rattle.linked_starts.specs.Regions.{regions_of}
use Rattle.linked_starts.specs.Start.{start_cell, start_regs, part_word}
use Rattle.lcm_isa.specs.Numbers as numbers
use Rattle.lcm_isa.specs.Numbers.{number_of, decode_of, candidate, all_with}
use Rattle.trusted_border.specs.declared.layout.Layout.{Layout}
use Rattle.trusted_border.specs.declared.events.Back.TheVariants.{Out}
use Rattle.trusted_border.specs.declared.events.Event.TheVariants.{Entered, Returned}
use Rattle.overlay_machine.specs.declared.words.OWord.TheVariants.{Plain}
use Rattle.overlay_machine.specs.declared.cases.Case.TheVariants.{Back}
use Rattle.overlay_machine.specs.State.{OState, Cells}
use Rattle.overlay_machine.specs.Step.{goes, halts, fails, overlay_step}
use Rattle.overlay_machine.specs.Link.{Link}
use Rattle.overlay_machine.specs.Events.{step_event, event_after, note_by}
use Rattle.overlay_machine.specs.Flat.{flat}
use Rattle.overlay_machine.specs.Starting.{overlay_at}
use Rattle.run_lines.specs.Cuts.{is_inside}
use Rattle.run_lines.specs.Layout.{part_name, entry_name, site_of}
use Rattle.run_lines.specs.Views.{flat_view}
use Rattle.proc_names.specs.Names.{variable_named, callee_named}
use Rattle.proc_templates.specs.Items as items
use Rattle.proc_templates.specs.Items.{instrs}
use Rattle.proc_templates.specs.Templates.{before_epilogue}
use Rattle.proc_templates.specs.Compiled.{frame_of, laid_of, lay_proc, first_data, exports_of, imports_of}
use Rattle.proc_templates.specs.Compiled.{component_of, compiled}
use Rattle.template_runs.specs.Border.{Opened}
use Rattle.source_events.specs.declared.Item.{Item}
use Rattle.source_events.specs.declared.Item.TheVariants.{Enter, Ret}
use Rattle.source_events.specs.declared.FeedPair.TheVariants as fed
use Rattle.source_events.specs.declared.FeedBack.TheVariants as way
use Rattle.source_laws.specs.Trace.{event_items}
use Rattle.source_laws.specs.Secrets.{Until, still_there, one_more}
use Rattle.lockstep.specs.Related.{SameNames, Calls, StepsAlike, both_halt, both_fail, both_stay}
use Rattle.lockstep.specs.Related.{both_come}
use Rattle.lockstep.specs.Lockstep.{Round, IsRound, Path, InStep, at_end, round}
use Rattle.lockstep.specs.Lockstep as path
use Rattle.same_meanings.specs.Observed.{by_number}
use Rattle.same_meanings.proofs.Offers.{numbers_apart, one_feed}
use Rattle.context_laws.specs.Meanings.{SameMeaningsAreNotToldApart, item_by, items_in}
use Rattle.known_steps.specs.Known.{Partly, Stays, here, on}
use Rattle.known_steps.proofs.Offers.{StepsTo, whole, step_known, CrossesTo, call_known, return_known, RunsTo}
use Rattle.known_steps.proofs.Offers.{runs_known, jump_note, halts_known, event_by, jump_event}
use Rattle.known_steps.proofs.Offers.{known_at_start}
use Rattle.context_instance.proofs.Offers.{adversary, outsider, main, is_linked, other_there}
use Rattle.callback_instance.specs.Passes.{passes, asked}
use Rattle.callback_instance.specs.CalledBack.{RunCallsBack, PassersCallBack}
use Rattle.callback_instance.proofs.Links.{passes_start, passes_sites, one_links}
use Rattle.callback_instance.proofs.Means.{mean_the_same}
use Rattle.callback_instance.proofs.Apart.{links_there, main_there}
use Rattle.callback_instance.proofs.Run.{P, L, K, its_code, its_data, stack, beginning, entering, entered}
use Rattle.callback_instance.proofs.Run.{calling, pushed, frame, called, answering, site, answered, leaving}
use Rattle.callback_instance.proofs.Run.{left, computed, crossed}

-- ---- stretches of a run in a path

starts : {l : Layout} {b : Bool} {p q : OState} → Stays l b p q → is_inside l p ≡ b
starts (here i) = i
starts (on i e more) = i

stops : {l : Layout} {b : Bool} {p q : OState} → Stays l b p q → is_inside l q ≡ b
stops (here i) = i
stops (on i e more) = stops more

stays_outside : {l : Layout} {j : ℕ} {p q z : OState} {rs : List Round} → Stays l false p q → Path l j q rs z
    → (i : ℕ) × Path l i p rs z
stays_outside {j = j} (here i) r = (j, r)
stays_outside (on i e more) r =
    let s = stays_outside more r in (suc s.0, path.outside i e (starts more) s.1)

pub stays_until : {l : Layout} {o p q : OState} → Stays l true p q → Until l o p → Until l o q
stays_until (here i) u = u
stays_until (on i e more) u = stays_until more (one_more u e (starts more))

-- ---- the states of the run

abbrev S : List Span
S = passes_start.state.maps.spans

abbrev at_start : OState
at_start = (overlay_at passes_start).state

-- before the first call, with it open, and after it
abbrev before_call : Partly → Cells → OState
before_call s m = whole K S L [] 0 s m

abbrev in_call : Partly → Cells → OState
in_call s m = whole K S L (frame ∷ []) 1 s m

abbrev behind_call : Partly → Cells → OState
behind_call s m = whole K S L [] 1 s m

record Stands : Type 0 where
  pub begins : is_inside L at_start ≡ false
  pub enters : (m : Cells) → is_inside L (before_call entered m) ≡ true
  pub is_called : (m : Cells) → is_inside L (in_call called m) ≡ false
  pub is_answered : (m : Cells) → is_inside L (behind_call answered m) ≡ true
  pub is_left : (m : Cells) → is_inside L (behind_call left m) ≡ false

sides : Stands
unfolding faces owner_of start_regs component_of frame_of laid_of lay_proc before_epilogue items.put instrs
    first_data exports_of imports_of variable_named callee_named entry_code call_code return_code
sides = record {
  begins = refl;
  enters = λ m. refl;
  is_called = λ m. refl;
  is_answered = λ m. refl;
  is_left = λ m. refl;
}

to_entry : RunsTo K S L [] 0 false entering at_start
to_entry =
    runs_known K S L [] 0 false 12 beginning entering at_start.maps.cells
    (known_at_start P 8 passes_start (is_linked adversary main (compiled passes) passes_sites
    one_links)) sides.begins
    computed.to_entry

enters : StepsTo K S L [] 0 entered (overlay_step L (before_call entering to_entry.0))
enters = step_known K S L [] 0 entering entered to_entry.0 to_entry.1 computed.enters

to_call : RunsTo K S L [] 0 true calling (before_call entered enters.0)
to_call =
    runs_known K S L [] 0 true 59 entered calling enters.0 enters.1 (sides.enters enters.0) computed.to_call

calls : CrossesTo K S L 0 [] called (frame ∷ []) 1 (before_call calling to_call.0)
calls =
    call_known K S L 0 [] calling called to_call.0 0 6 site (stack 307 301) (Plain (Int (pos 0))) pushed
    to_call.1
    refl refl crossed.knows_call crossed.calls crossed.site_is crossed.calls_on refl refl computed.pushes refl
    computed.jumps

to_answer : RunsTo K S L (frame ∷ []) 1 false answering (in_call called calls.0)
to_answer =
    runs_known K S L (frame ∷ []) 1 false 1 called answering calls.0 calls.1 (sides.is_called calls.0)
    computed.to_answer

answers : CrossesTo K S L 1 [] answered [] 1 (in_call answering to_answer.0)
answers =
    return_known K S L 1 [] answering to_answer.0 Rcode Rdata 0 0 frame site (stack 300 300) to_answer.1
    crossed.knows_answer crossed.answers refl refl refl crossed.site_is crossed.answers_on refl

to_leave : RunsTo K S L [] 1 true leaving (behind_call answered answers.0)
to_leave =
    runs_known K S L [] 1 true 29 answered leaving answers.0 answers.1 (sides.is_answered answers.0)
    computed.to_leave

leaves : StepsTo K S L [] 1 left (overlay_step L (behind_call leaving to_leave.0))
leaves = step_known K S L [] 1 leaving left to_leave.0 to_leave.1 computed.leaves

-- ---- the rounds

abbrev first : Round
first = record {
  before = before_call entering to_entry.0;
  entered = before_call entered enters.0;
  last = before_call calling to_call.0;
  after = in_call called calls.0;
}

abbrev second : Round
second = record {
  before = in_call answering to_answer.0;
  entered = behind_call answered answers.0;
  last = behind_call leaving to_leave.0;
  after = behind_call left leaves.0;
}

is_first : IsRound L first
is_first = record {
  outside = stops to_entry.2;
  comes = enters.2;
  until = stays_until to_call.2 (still_there (sides.enters enters.0));
  lets = calls.2;
  gone = sides.is_called calls.0;
}

is_second : IsRound L second
is_second = record {
  outside = stops to_answer.2;
  comes = answers.2;
  until = stays_until to_leave.2 (still_there (sides.is_answered answers.0));
  lets = leaves.2;
  gone = sides.is_left leaves.0;
}

walked : (i : ℕ) × Path L i at_start (first ∷ second ∷ []) second.after
walked =
    let last = path.inside second is_second path.ends in
    stays_outside to_entry.2 (path.inside first is_first (stays_outside to_answer.2 last).1)

halted : overlay_step L second.after ≡ halts
halted =
    halts_known K S L [] 1 left leaves.0 (Mem (its_code 266)) leaves.1 crossed.knows_end crossed.stands
    crossed.halt_next

-- ---- what came in

abbrev one : Item
one = Enter (116 ∷ []) (102 ∷ []) (Some 8) (Some (pos 3) ∷ None ∷ None ∷ Some (pos 0) ∷ [])
    (fed.Nothing ∷ fed.Out ∷ fed.Nothing ∷ []) way.Out

abbrev two : Item
two = Ret (116 ∷ []) 0 301 (Some (pos 9))

entry_seen : (m : Cells) → event_after L (jump_note K S L [] 0 entering) (before_call entered m)
    ≡ Some (Entered 0 0 Out)
unfolding start_cell part_word regions_of component_of frame_of laid_of lay_proc before_epilogue items.put
    instrs
    first_data exports_of imports_of variable_named callee_named entry_code call_code return_code number_of
    decode_of candidate all_with numbers.table faces opens owner_of flat table.need table.ask
entry_seen m = refl

entry_item : (m : Cells) → event_items L (flat_view L (before_call entered m)) (Some (Entered 0 0 Out))
    ≡ one ∷ []
unfolding component_of frame_of laid_of lay_proc before_epilogue items.put instrs first_data exports_of
    imports_of
    variable_named callee_named entry_code call_code return_code flat owner_of part_name entry_name table.need
    table.ask
entry_item m = refl

answer_item : (m : Cells) → event_items L (flat_view L (behind_call answered m)) (Some (Returned false 0 301
    307))
    ≡ two ∷ []
unfolding component_of frame_of laid_of lay_proc before_epilogue items.put instrs first_data exports_of
    imports_of
    variable_named callee_named entry_code call_code return_code flat owner_of part_name site_of
answer_item m = refl

answer_seen : (m : Cells) (q : OState)
    → event_after L (note_by L (in_call answering m) (Back Rcode Rdata)) q ≡ Some (Returned false 0 301 307)
unfolding component_of frame_of laid_of lay_proc before_epilogue items.put instrs first_data exports_of
    imports_of
    variable_named callee_named entry_code call_code return_code faces owner_of
answer_seen m q = refl

first_in : event_items L (flat_view L first.entered) (step_event L first.before first.entered) ≡ one ∷ []
first_in =
    ap (event_items L (flat_view L first.entered))
    (jump_event K S L [] 0 entering to_entry.0 first.entered to_entry.1 crossed.knows_entry crossed.jumps_in
    ∙ entry_seen enters.0)
    ∙ entry_item enters.0

second_in : event_items L (flat_view L second.entered) (step_event L second.before second.entered) ≡ two ∷ []
second_in =
    ap (event_items L (flat_view L second.entered))
    (event_by K S L (frame ∷ []) 1 answering to_answer.0 second.entered (Back Rcode Rdata) to_answer.1
    crossed.knows_answer crossed.answers ∙ answer_seen to_answer.0 second.entered)
    ∙ answer_item answers.0

came : items_in L (first ∷ second ∷ []) second.after ≡ asked
came =
    ap (λ x. x ++ (event_items L (flat_view L second.entered) (step_event L second.before second.entered)
    ++ item_by L second.after (overlay_step L second.after))) first_in
    ∙ ap (λ x. one ∷ (x ++ item_by L second.after (overlay_step L second.after))) second_in
    ∙ ap (λ x. one ∷ two ∷ item_by L second.after x) halted

-- ---- the law

abbrev pub callback : Opened
callback = record { seal = 30; code = its_code 263; half = MemIn (its_data 272) }

abbrev back : Opened
back = record { seal = 30; code = its_code 265; half = MemIn (its_data 272) }

run : RunCallsBack passes_start
run = record {
  steps = walked.0;
  first = first;
  second = second;
  last = second.after;
  path = walked.1;
  came = came;
  callback = callback;
  code = refl;
  half = refl;
  calls = record {
    frame = frame;
    shown = record {
      older = [];
      newest = refl;
      pc = refl;
      dat = refl;
      c1 = refl;
      c2 = refl;
      rcode = refl;
      rdata = refl;
      stk = refl;
      t1 = refl;
      t2 = refl;
      g0 = refl;
      g1 = refl;
      g2 = refl;
    };
    number = refl;
  };
  back = back;
  back_code = refl;
  back_half = refl;
  leaves = record {
    top = 307;
    shown = record {
      pc = refl;
      dat = refl;
      rcode = refl;
      rdata = refl;
      stk = refl;
      t1 = refl;
      t2 = refl;
      c1 = refl;
      c2 = refl;
      a1 = refl;
      a2 = refl;
      a3 = refl;
      g0 = refl;
      g1 = refl;
      g2 = refl;
    };
    number = refl;
  };
  halted = halted;
}

-- what goes in step with a run that halts halts too
halts_alike : (g h : Link) (names : SameNames g h) (cs : Calls) (q r : OState) → StepsAlike g h names cs q r
    → overlay_step g.layout q ≡ halts → overlay_step h.layout r ≡ halts
halts_alike g h names cs q r (both_halt a b) e = b
halts_alike g h names cs q r (both_fail a b) e = let bad : fails ≡ halts = sym a ∙ e in absurd cc
halts_alike g h names cs q r (both_stay q' r' a b i j k l m) e =
    let bad : goes q' ≡ halts = sym a ∙ e in absurd cc
halts_alike g h names cs q r (both_come q' r' a b i j m) e =
    let bad : goes q' ≡ halts = sym a ∙ e in absurd cc

halts_too : {g h : Link} {names : SameNames g h} {cs : Calls} {as_ bs : List Round} {q r : OState}
    → InStep g h names cs as_ bs q r → overlay_step g.layout q ≡ halts → overlay_step h.layout r ≡ halts
halts_too (at_end alike steps) e = halts_alike _ _ _ _ _ _ steps e
halts_too (round a b comes crossing more) e = halts_too more e

pub passers_call_back : SameMeaningsAreNotToldApart → PassersCallBack
passers_call_back law =
    let t = links_there in
    let both = law by_number numbers_apart t.sources t.sources_too t.are.beside (outsider adversary)
    (other_there adversary main (compiled passes) passes_sites one_links)
    (mean_the_same t.sources.size) in
    let r = both.0.2.begins sides.begins run.steps run.last (run.first ∷ run.second ∷ []) run.path in
    record {
      there = t;
      main = main_there;
      one = run;
      names = both.0.0;
      by_names = both.0.1;
      rounds = r.1;
      last = r.0;
      path = r.2;
      in_step = r.3;
      came = sym (one_feed _ _ r.4) ∙ run.came;
      halted = halts_too r.3 run.halted;
    }
