-- The run: the module is entered, calls, is answered and leaves.
use Rattle.std.proofs.Common.{◌≡◌, ℕ, ◌+◌, pos, false, List, [], ◌∷◌, ◌++◌, Option, Some, None, refl, subst}
use Rattle.std.proofs.Common.{sym, arith, map, ap, ◌∙◌, ℤ, ◌≤◌}
use Rattle.cap_words.specs.declared.Word.{Word}
use Rattle.cap_words.specs.declared.Word.TheVariants.{Int, Mem}
use Rattle.cap_words.specs.Face.{face_of}
use Rattle.lcm_isa.specs.declared.Reg.TheVariants.{Pc}
use Rattle.lcm_machine.specs.Places.{reg}
use Rattle.lcm_machine.specs.Run.{plain}
use Rattle.lcm_machine.specs.Row.{faces}
use Rattle.lcm_machine.specs.Cells.{cell}
use Rattle.lcm_machine.proofs.Offers.{cell-without_in}
use Rattle.call_sequence.specs.declared.TheConstants.{CALL_WORDS, SITE_WORDS}
use Rattle.call_sequence.specs.Sequences.{call_code, return_code, entry_code}
use Rattle.linked_starts.specs.Owners.{owner_of}
use Rattle.linked_starts.specs.Started.{StartSeen}
use Rattle.trusted_border.specs.declared.events.Event.{Event}
use Rattle.trusted_border.specs.Layout.{site_code}
use Rattle.overlay_machine.specs.declared.words.OWord.TheVariants.{Plain}
use Rattle.overlay_machine.specs.State.{OState, word_of}
use Rattle.overlay_machine.specs.Flat.{IsFlat, flat, beside}
use Rattle.overlay_machine.specs.Step.{weight_of}
use Rattle.overlay_machine.specs.Events.{step_event}
use Rattle.overlay_machine.specs.Runs.{Reached}
use Rattle.overlay_machine.specs.Runs as reached
use Rattle.run_lines.specs.Layout.{layout, is_trusted, part_name, entry_name, site_of}
use Rattle.run_lines.specs.Views.{flat_view}
use Rattle.run_lines.specs.Lines.{Line, call, ret, enter, leave, lines_for}
use Rattle.headline.specs.Alike.{StartLinesAgree}
use Rattle.run_lines.specs.Told.{Told}
use Rattle.run_lines.specs.Told as told
use Rattle.run_lines.specs.Feed.{outs_of as outs_in, items_of as items_in}
use Rattle.run_lines.specs.Runs.{written}
use Rattle.headline.specs.Headline.{HeadlineHolds}
use Rattle.headline.proofs.Offers.{zeros}
use Rattle.proc_program.specs.Lower.{part_of}
use Rattle.source_events.specs.declared.FeedBack.TheVariants as way
use Rattle.source_events.specs.declared.FeedPair.{FeedPair}
use Rattle.source_events.specs.declared.FeedPair.TheVariants.{Nothing}
use Rattle.source_events.specs.declared.Item.{Item}
use Rattle.source_events.specs.declared.Item.TheVariants.{Enter, Ret}
use Rattle.source_events.specs.declared.OutArg.{OutArg}
use Rattle.source_events.specs.declared.OutArg.TheVariants as given
use Rattle.source_events.specs.declared.End.TheVariants.{Waiting}
use Rattle.source_events.specs.Outs.{OutLine, call_out, leave_out}
use Rattle.proc_semantics.specs.Values.{World}
use Rattle.template_runs.specs.Runs.{is_inside}
use Rattle.source_laws.specs.Sources.{RunShows, MeansAlways, MeaningEnds}
use Rattle.source_laws.specs.Sources as shown
use Rattle.source_laws.specs.Trace.{event_outs, event_items, weighed}
use Rattle.source_starts.specs.Sources.{SourcesDoWhatTheyMean}
use Rattle.source_starts.specs.RunMeans.{runs_trusted}
use Rattle.source_instance.specs.There.{SourceThere}
use Rattle.source_instance.proofs.Module.{source}
use Rattle.source_instance.proofs.Parts.{parts, second}
use Rattle.source_instance.proofs.Start.{start, is_start_of, sources}
use Rattle.source_instance.proofs.Machine.{L, Makes, own_data, its_code, stack, g_code, g_data}
use Rattle.source_instance.proofs.Enters as enters
use Rattle.source_instance.proofs.Calls as calls
use Rattle.source_instance.proofs.Leaves as leaves

-- ---- a run that tells lines, and shows what goes out and what comes in

pub record Comes (j : ℕ) (ls : List Line) (es : List OutLine) (is : List Item) (p : OState)
    : Type 0 where
  pub reached : Reached L enters.o0 j p
  pub lines : Told L enters.o0 j ls p
  pub weight : ℕ
  pub shows : RunShows L enters.o0 j weight es is p

begins : Comes 0 [] [] [] enters.o0
begins = record { reached = reached.begins; lines = told.none_yet; weight = 0; shows = shown.none_yet }

-- the lines and items of a step's event
pub record Tells (q : OState) (v : Option Event) (ls : List Line) (es : List OutLine)
    (is : List Item) : Type 0 where
  pub lines : lines_for L (flat_view L q) v ≡ ls
  pub outs : event_outs L (flat_view L q) v ≡ es
  pub items : event_items L (flat_view L q) v ≡ is

-- one more step, whatever it tells
tells : {j n : ℕ} {ls more : List Line} {es going : List OutLine} {is coming : List Item} {p q : OState}
    {v : Option Event} → Comes j ls es is p → Makes p q n v → Tells q v more going coming
    → Comes (j + n) (ls ++ more) (es ++ going) (is ++ coming) q
tells {j} {n} {ls} {more} {es} {going} {is} {coming} {p} {q} {v} r m t = record {
  reached =
      subst (λ (k : ℕ). Reached L enters.o0 (j + k) q) m.weight (reached.goes_on r.reached m.goes_on);
  lines =
      subst (λ (k : ℕ). Told L enters.o0 (j + k) (ls ++ more) q) m.weight
      (subst (λ (xs : List Line). Told L enters.o0 (j + weight_of L p) (ls ++ xs) q)
      (ap (lines_for L (flat_view L q)) m.event ∙ t.lines) (told.and_then r.lines m.goes_on));
  weight = next_weight;
  shows =
      subst (λ (k : ℕ). RunShows L enters.o0 (j + k) next_weight (es ++ going) (is ++ coming) q) m.weight
      (subst (λ (xs : List OutLine). RunShows L enters.o0 (j + weight_of L p) next_weight (es ++ xs)
      (is ++ coming) q) (ap (event_outs L (flat_view L q)) m.event ∙ t.outs)
      (subst (λ (xs : List Item). RunShows L enters.o0 (j + weight_of L p) next_weight
      (es ++ event_outs L (flat_view L q) (step_event L p q)) (is ++ xs) q)
      (ap (event_items L (flat_view L q)) m.event ∙ t.items) (shown.and_then r.shows m.goes_on)));
}
  where
    next_weight : ℕ
    next_weight = r.weight + weighed (is_inside L p) (weight_of L p)

no_event : {q : OState} → Tells q None [] [] []
no_event = record { lines = refl; outs = refl; items = refl }

-- ---- what the four events tell

abbrev ints : List (Option ℤ)
ints = Some (pos 0) ∷ Some (pos 0) ∷ Some (pos 0) ∷ Some (pos 0) ∷ []

abbrev numbers : List OutArg
numbers = given.Int (pos 0) ∷ given.Int (pos 0) ∷ given.Int (pos 0) ∷ given.Int (pos 0) ∷ []

abbrev no_pairs : List FeedPair
no_pairs = Nothing ∷ Nothing ∷ Nothing ∷ []

abbrev stack_word : Word
stack_word = Mem (stack 118 118)

abbrev pub frame_words : List Word
frame_words = Mem (own_data 90) ∷ g_data ∷ g_code ∷ []

abbrev pub enter_line : Line
enter_line = enter (116 ∷ []) (102 ∷ []) stack_word zeros way.Out

abbrev pub call_line : Line
call_line = call false (116 ∷ []) 0 116 118 zeros frame_words

abbrev ret_line : Line
ret_line = ret false (116 ∷ []) 0 116 118 (Int (pos 0)) frame_words

abbrev leave_line : Line
leave_line = leave (116 ∷ []) (Int (pos 0))

abbrev pub enter_item : Item
enter_item = Enter (116 ∷ []) (102 ∷ []) (Some 8) ints no_pairs way.Out

abbrev pub ret_item : Item
ret_item = Ret (116 ∷ []) 0 116 (Some (pos 0))

abbrev called_out : OutLine
called_out = call_out (116 ∷ []) 0 numbers

abbrev left_out : OutLine
left_out = leave_out (116 ∷ []) (given.Int (pos 0))

pub enter_told : Tells enters.o8 (Some enters.entry_event) (enter_line ∷ []) [] (enter_item ∷ [])
unfolding flat owner_of part_name entry_name entry_code call_code return_code
enter_told = record { lines = refl; outs = refl; items = refl }

gone : (a : ℕ) → 116 ≤ a → a ≤ 118 → cell calls.taken a ≡ None
gone a low high = cell-without_in calls.pushed 116 118 a low high

call_told : Tells calls.o26 (Some calls.call_event) (call_line ∷ []) (called_out ∷ []) []
unfolding flat beside word_of site_code owner_of part_name site_of entry_code call_code return_code
call_told = record {
  lines = rw (
    gone 116 (omega arith) (omega arith),
    gone 117 (omega arith) (omega arith),
    gone 118 (omega arith) (omega arith),
  );
  outs = refl;
  items = refl;
}

pub ret_told : Tells calls.o27 (Some calls.return_event) (ret_line ∷ []) [] (ret_item ∷ [])
unfolding flat owner_of part_name site_of entry_code call_code return_code
ret_told = record { lines = rw (calls.data117, calls.code118); outs = refl; items = refl }

leave_told : Tells leaves.o49 (Some leaves.leave_event) (leave_line ∷ []) (left_out ∷ []) []
unfolding flat owner_of part_name entry_code call_code return_code
leave_told = record { lines = refl; outs = refl; items = refl }

-- ---- all steps

pub to_enter : Comes 7 [] [] [] enters.o7
to_enter =
    let r0 = tells begins enters.step0 no_event in
    let r1 = tells r0 enters.step1 no_event in
    let r2 = tells r1 enters.step2 no_event in
    let r3 = tells r2 enters.step3 no_event in
    let r4 = tells r3 enters.step4 no_event in
    let r5 = tells r4 enters.step5 no_event in
    tells r5 enters.step6 no_event

pub entered : Comes 8 (enter_line ∷ []) [] (enter_item ∷ []) enters.o8
entered = tells to_enter enters.step7 enter_told

pub to_call : Comes 44 (enter_line ∷ []) [] (enter_item ∷ []) calls.o25
to_call =
    let r0 = tells entered calls.entry_made no_event in
    let r1 = tells r0 calls.step9 no_event in
    let r2 = tells r1 calls.step10 no_event in
    let r3 = tells r2 calls.step11 no_event in
    let r4 = tells r3 calls.step12 no_event in
    let r5 = tells r4 calls.step13 no_event in
    let r6 = tells r5 calls.step14 no_event in
    let r7 = tells r6 calls.step15 no_event in
    let r8 = tells r7 calls.step16 no_event in
    let r9 = tells r8 calls.step17 no_event in
    let r10 = tells r9 calls.step18 no_event in
    let r11 = tells r10 calls.step19 no_event in
    let r12 = tells r11 calls.step20 no_event in
    let r13 = tells r12 calls.step21 no_event in
    let r14 = tells r13 calls.step22 no_event in
    let r15 = tells r14 calls.step23 no_event in
    tells r15 calls.step24 no_event

pub called : Comes (44 + CALL_WORDS) (enter_line ∷ call_line ∷ []) (called_out ∷ [])
    (enter_item ∷ []) calls.o26
called = tells to_call calls.call_made call_told

answered : Comes (44 + SITE_WORDS + 1) (enter_line ∷ call_line ∷ ret_line ∷ []) (called_out ∷ [])
    (enter_item ∷ ret_item ∷ []) calls.o27
answered = tells called calls.return_made ret_told

-- after so many instructions it leaves
abbrev pub leaving_at : ℕ
leaving_at = 44 + SITE_WORDS + 22

pub to_leave : Comes leaving_at (enter_line ∷ call_line ∷ ret_line ∷ []) (called_out ∷ [])
    (enter_item ∷ ret_item ∷ []) leaves.o48
to_leave =
    let r0 = tells answered leaves.step27 no_event in
    let r1 = tells r0 leaves.step28 no_event in
    let r2 = tells r1 leaves.step29 no_event in
    let r3 = tells r2 leaves.step30 no_event in
    let r4 = tells r3 leaves.step31 no_event in
    let r5 = tells r4 leaves.step32 no_event in
    let r6 = tells r5 leaves.step33 no_event in
    let r7 = tells r6 leaves.step34 no_event in
    let r8 = tells r7 leaves.step35 no_event in
    let r9 = tells r8 leaves.step36 no_event in
    let r10 = tells r9 leaves.step37 no_event in
    let r11 = tells r10 leaves.step38 no_event in
    let r12 = tells r11 leaves.step39 no_event in
    let r13 = tells r12 leaves.step40 no_event in
    let r14 = tells r13 leaves.step41 no_event in
    let r15 = tells r14 leaves.step42 no_event in
    let r16 = tells r15 leaves.step43 no_event in
    let r17 = tells r16 leaves.step44 no_event in
    let r18 = tells r17 leaves.step45 no_event in
    let r19 = tells r18 leaves.step46 no_event in
    tells r19 leaves.step47 no_event

left : Comes (leaving_at + 1) (enter_line ∷ call_line ∷ ret_line ∷ leave_line ∷ [])
    (called_out ∷ left_out ∷ [])
    (enter_item ∷ ret_item ∷ []) leaves.o49
left = tells to_leave leaves.step48 leave_told

pub stands_outside : is_inside L leaves.o49 ≡ false
unfolding faces owner_of entry_code call_code return_code
stands_outside = refl

-- the plain run stands where the overlay does
runs_outside : (s : StartSeen) (n : ℕ) (o : OState) (w : Word) → IsFlat (layout s) o (plain n s.state).maps
    → reg o.maps.regs Pc ≡ Plain w → is_trusted (layout s) (face_of w) ≡ false → runs_trusted s n ≡ false
unfolding faces flat
runs_outside s n o w same is free =
    ap (λ x. is_trusted (layout s) (face_of x)) (same.regs Pc ∙ ap (flat (layout s) o.frames) is) ∙ free

stops_outside : is_trusted L (face_of (Mem (its_code 104))) ≡ false
unfolding owner_of entry_code call_code return_code
stops_outside = refl

-- ---- what it writes and means

abbrev all_lines : List Line
all_lines = enter_line ∷ call_line ∷ ret_line ∷ leave_line ∷ []

-- the plain run writes what the overlay's steps tell
it_writes : StartLinesAgree → written start (leaving_at + 1) ≡ all_lines
it_writes agree = (agree parts 8 start is_start_of).matched (leaving_at + 1) all_lines leaves.o49 left.lines

came : StartLinesAgree → items_in 111 (written start (leaving_at + 1)) ≡ enter_item ∷ ret_item ∷ []
came agree = ap (items_in 111) (it_writes agree)

abbrev world : World
world = map part_of (source ∷ [])

-- where it stands outside, the meaning waits
it_means : MeansAlways world 8 start
    → MeaningEnds world 8 (enter_item ∷ ret_item ∷ []) (called_out ∷ left_out ∷ []) Waiting
it_means mean = (mean (leaving_at + 1) left.weight _ _ leaves.o49 left.shows).waits stands_outside

pub source_there : HeadlineHolds → StartLinesAgree → SourcesDoWhatTheyMean → SourceThere
source_there headline agree mean = record {
  sources = sources;
  other = second;
  other_in = (1, omega arith, refl);
  untrusted = refl;
  steps = (leaving_at + 1);
  steps_are = refl;
  overlay = leaves.o49;
  matched = left.reached;
  outside =
      runs_outside start (leaving_at + 1) leaves.o49 (Mem (its_code 104))
      ((headline parts 8 start is_start_of).agrees.matched (leaving_at + 1) leaves.o49 left.reached).1 refl
      stops_outside;
  part = 116 ∷ [];
  name = 102 ∷ [];
  stk = stack_word;
  args = zeros;
  site = 0;
  base = 116;
  last = 118;
  given = zeros;
  words = frame_words;
  answer = pos 0;
  result = pos 0;
  lines = it_writes agree;
  left = 8;
  came = came agree;
  outs = numbers;
  events = called_out ∷ left_out ∷ [];
  events_are = refl;
  went = ap outs_in (it_writes agree);
  means =
      subst (λ items. MeaningEnds world 8 items (called_out ∷ left_out ∷ []) Waiting) (sym (came agree))
      (it_means (mean sources));
}
