-- A run of some instructions, with the lines that it wrote so far.
use Rattle.std.proofs.Common.{◌≡◌, ℕ, zero, suc, ◌+◌, ◌<◌, ◌≤◌, inl, inr, Bool, List, [], ◌∷◌, ◌++◌}
use Rattle.std.proofs.Common.{Option, Some, None, refl, sym, ap, ◌∙◌, arith, add-one, subst}
use Rattle.std.proofs.lemmas.Bool.{cases_lt}
use Rattle.std.specs.List.{concat}
use Rattle.std.proofs.lemmas.List.{append-nil}
use Rattle.outside_io.specs.SinkSeen.{SinkSeen, Adds, FailsToWrite}
use Rattle.lcm_machine.specs.declared.Step.{Step}
use Rattle.lcm_machine.specs.declared.Step.TheVariants.{Went, Halted, Failed}
use Rattle.lcm_machine.specs.declared.End.{End}
use Rattle.lcm_machine.specs.Run.{Run, next_state, plain, answer, answer_by}
use Rattle.lcm_machine.proofs.Offers.{count_next, plain_ended}
use Rattle.linked_starts.specs.Started.{StartSeen}
use Rattle.trusted_border.specs.declared.layout.Layout.{Layout}
use Rattle.trusted_border.specs.declared.events.Event.{Event}
use Rattle.run_lines.specs.declared.run.RunEnd.{RunEnd}
use Rattle.run_lines.specs.declared.run.RunEnd.TheVariants.{Running, WriteFault}
use Rattle.run_lines.specs.Layout.{layout}
use Rattle.run_lines.specs.Views.{view_of}
use Rattle.run_lines.specs.Events.{noted, event_after}
use Rattle.run_lines.specs.Lines.{lines_for}
use Rattle.run_lines.specs.Texts.{lines_pieces}
use Rattle.run_lines.specs.EndLines.{end_line}
use Rattle.run_lines.specs.Runs.{Watched, begun, watching, if_went, watched, watched_next, line_next}
use Rattle.run_lines.specs.Runs.{lines_of, run_text, run_pieces, end_of, RunsTo, RunFaults, Runs, EndsBy}
use Rattle.outside_io.specs.Writes.{AddsPieces, FailsAtPiece}
use Rattle.outside_io.proofs.Offers.{pieces_then, pieces_fail, fail_more, fails_upto, text_failed}
use Rattle.run_lines.proofs.LineLemmas.{lines_pieces-append, joined_with}

pub watched_run : (l : Layout) (r : Run) (n : ℕ) → (watched l (begun r) n).run ≡ plain n r
watched_run l r zero = refl
watched_run l r (suc n) = ap next_state (watched_run l r n)

abbrev pieces_upto : Layout → Run → ℕ → List (List ℕ)
pieces_upto l r n = lines_pieces (lines_of l (begun r) n)

abbrev pieces_next : Layout → Run → ℕ → List (List ℕ)
pieces_next l r n = lines_pieces (line_next l (watched l (begun r) n))

pieces_grow : (l : Layout) (r : Run) (n : ℕ)
    → pieces_upto l r (suc n) ≡ pieces_upto l r n ++ pieces_next l r n
pieces_grow l r n = lines_pieces-append (lines_of l (begun r) n) (line_next l (watched l (begun r) n))

-- once the machine has ended, there are no more lines
abbrev pub HasEnded : Run → Type 0
HasEnded r = answer r ≡ Went → ⊥

end_of_ended : (r : Run) → HasEnded r → (o : Option End) → r.end ≡ o → (e : End) × (r.end ≡ Some e)
end_of_ended r ended None k = absurd (ended (ap answer_by k))
end_of_ended r ended (Some e) k = (e, k)

pub stays_ended : (i n : ℕ) (r : Run) → i ≤ n → HasEnded (plain i r) → plain n r ≡ plain i r
stays_ended i n r le ended = let e =
    end_of_ended (plain i r) ended (plain i r).end refl in plain_ended n i r e.0 le e.1

not_went : {A : Type 0} → (s : Step) (x y : A) → (s ≡ Went → ⊥) → if_went s x y ≡ y
not_went Went x y ended = absurd (ended refl)
not_went Halted x y ended = refl
not_went (Failed cause at) x y ended = refl

pub no_line : (l : Layout) (w : Watched) → HasEnded (next_state w.run) → line_next l w ≡ []
unfolding line_next
no_line l w ended =
    ap (lines_for l (view_of (next_state w.run).maps))
    (not_went (answer (next_state w.run))
    (event_after l (noted l w.run.maps) w.inward (view_of (next_state w.run).maps)) None ended)

pub no_more_lines : (l : Layout) (r : Run) (i n : ℕ) → i ≤ n → HasEnded (plain i r)
    → lines_of l (begun r) n ≡ lines_of l (begun r) i
no_more_lines l r zero zero le ended = refl
no_more_lines l r (suc i) zero le ended = absurd (omega arith)
no_more_lines l r i (suc n) le ended =
    elim (cases_lt n i) as (λ _. lines_of l (begun r) (suc n) ≡ lines_of l (begun r) i) [
      | inl above ↦ (let same : i ≡ suc n = omega arith in ap (λ k. lines_of l (begun r) k) (sym same))
      | inr below ↦
          (let stays : next_state (watched l (begun r) n).run ≡ plain i r =
          ap next_state (watched_run l r n) ∙ stays_ended i (suc n) r le ended in
          let none : line_next l (watched l (begun r) n) ≡ [] =
          no_line l (watched l (begun r) n) (λ k. ended (ap answer (sym stays) ∙ k)) in
          ap (λ x. lines_of l (begun r) n ++ x) none ∙ append-nil (lines_of l (begun r) n)
          ∙ no_more_lines l r i n below ended)
    ]

-- n instructions went
pub record Gone (init : StartSeen) (n : ℕ) (start : StartSeen) (inward : Bool) : Type 0 where
  pub same : start ≡ record init { state = start.state }
  pub at : watching start inward ≡ watched (layout init) (begun init.state) n
  pub went : answer start.state ≡ Went
  pub count : start.state.count ≤ init.state.count + n

gone_layout : (init : StartSeen) (n : ℕ) (start : StartSeen) (inward : Bool) → Gone init n start inward
    → layout start ≡ layout init
gone_layout init n start inward g = ap layout g.same

-- the lines of one instruction more
pub gone_line : (init : StartSeen) (n : ℕ) (start : StartSeen) (inward : Bool) → Gone init n start inward
    → line_next (layout start) (watching start inward)
    ≡ line_next (layout init) (watched (layout init) (begun init.state) n)
gone_line init n start inward g =
    ap (λ l. line_next l (watching start inward)) (gone_layout init n start inward g)
    ∙ ap (line_next (layout init)) g.at

-- the state
pub gone_run : (init : StartSeen) (n : ℕ) (start : StartSeen) (inward : Bool) → Gone init n start inward
    → start.state ≡ plain n init.state
gone_run init n start inward g =
    ap (λ (w : Watched). w.run) g.at ∙ watched_run (layout init) init.state n

pub gone_same : (init : StartSeen) (n : ℕ) (start : StartSeen) (inward : Bool) → Gone init n start inward
    → start ≡ record init { state = plain n init.state }
gone_same init n start inward g =
    g.same ∙ ap (λ (x : Run). let t : StartSeen = record init { state = x } in t)
    (gone_run init n start inward g)

-- the state after one instruction more
pub next_same : (init : StartSeen) (n : ℕ) (start : StartSeen) (inward : Bool) (next : StartSeen)
    → Gone init n start inward → next ≡ record start { state = next_state start.state }
    → next ≡ record init { state = plain (suc n) init.state }
next_same init n start inward next g e =
    e ∙ ap (λ (s : StartSeen). let t : StartSeen = record s { state = next_state start.state } in t) g.same
    ∙ ap (λ (r : Run). let t : StartSeen = record init { state = next_state r } in t)
    (gone_run init n start inward g)

pub gone_more : (init : StartSeen) (n : ℕ) (start : StartSeen) (inward : Bool) (next : StartSeen)
    (inward2 : Bool) → Gone init n start inward → next ≡ record start { state = next_state start.state }
    → inward2 ≡ (watched_next (layout start) (watching start inward)).inward
    → answer (next_state start.state) ≡ Went → Gone init (n + 1) next inward2
gone_more init n start inward next inward2 g e i went =
    let state : next.state ≡ next_state start.state = ap (λ (s : StartSeen). s.state) e in
    let same = next_same init n start inward next g e in
    rw add-one (record {
      same = same ∙ ap (λ (r : Run). let t : StartSeen = record init { state = r } in t)
          (sym (ap (λ (s : StartSeen). s.state) same));
      at = ap (λ (r : Run). let t : Watched = record { run = r; inward = inward2 } in t) state
          ∙ ap (λ (b : Bool). let t : Watched = record { run = next_state start.state; inward = b } in t) i
          ∙ ap (λ l. watched_next l (watching start inward)) (gone_layout init n start inward g)
          ∙ ap (watched_next (layout init)) g.at;
      went = ap answer state ∙ went;
      count = (
          let a : next.state.count ≡ (next_state start.state).count = ap (λ (r : Run). r.count) state in
          let b : (next_state start.state).count ≤ start.state.count + 1 = count_next start.state in
          let k : start.state.count ≤ init.state.count + n = g.count in
          omega arith
          );
    })

-- and their lines were written
pub record Going (init : StartSeen) (sink : SinkSeen) (n : ℕ) (start : StartSeen) (inward : Bool)
    (now : SinkSeen) : Type 0 where
  pub gone : Gone init n start inward
  pub told : AddsPieces sink (pieces_upto (layout init) init.state n) now

pub going_more : (init : StartSeen) (sink : SinkSeen) (n : ℕ) (start : StartSeen) (inward : Bool)
    (now : SinkSeen) (next : StartSeen) (inward2 : Bool) (after : SinkSeen)
    → Going init sink n start inward now
    → next ≡ record start { state = next_state start.state }
    → inward2 ≡ (watched_next (layout start) (watching start inward)).inward
    → answer (next_state start.state) ≡ Went
    → AddsPieces now (lines_pieces (line_next (layout start) (watching start inward))) after
    → Going init sink (n + 1) next inward2 after
going_more init sink n start inward now next inward2 after g e i went w = record {
  gone = gone_more init n start inward next inward2 g.gone e i went;
  told = rw (add-one, pieces_grow (layout init) init.state n) (pieces_then sink now after _ _ g.told
      (subst (λ x. AddsPieces now (lines_pieces x) after) (gone_line init n start inward g.gone) w));
}

-- the pieces of a run are its text
run_joined : (l : Layout) (r : Run) (n : ℕ) → concat (run_pieces l r n) ≡ run_text l r n
unfolding run_text run_pieces
run_joined l r n = joined_with (lines_of l (begun r) n) (end_line (plain n r))

run_fails : (l : Layout) (r : Run) (sink after : SinkSeen) (i n : ℕ) → i ≤ n
    → FailsAtPiece sink (pieces_upto l r i) after → FailsAtPiece sink (run_pieces l r n) after
unfolding run_pieces
run_fails l r sink after i n le f =
    fail_more sink after (pieces_upto l r n) (end_line (plain n r) ∷ [])
    (fails_upto (pieces_upto l r) (pieces_next l r) (pieces_grow l r) sink after i n le f)

-- one of its pieces failed to be written, and so did its text
run_text_fails : (l : Layout) (r : Run) (n : ℕ) (sink after : SinkSeen)
    → FailsAtPiece sink (run_pieces l r n) after → FailsToWrite sink (run_text l r n) after
run_text_fails l r n sink after f =
    subst (λ t. FailsToWrite sink t after) (run_joined l r n) (text_failed sink after (run_pieces l r n) f)

-- the line of the next instruction failed to be written
pub line_fails : (init : StartSeen) (sink : SinkSeen) (n steps : ℕ) (start : StartSeen) (inward : Bool)
    (now : SinkSeen) (next : StartSeen) (after : SinkSeen)
    → Going init sink n start inward now → n < steps
    → next ≡ record start { state = next_state start.state }
    → FailsAtPiece now (lines_pieces (line_next (layout start) (watching start inward))) after
    → Runs init steps sink next after WriteFault
line_fails init sink n steps start inward now next after g lt e f =
    let mine : FailsAtPiece now (pieces_next (layout init) init.state n) after =
    subst (λ x. FailsAtPiece now (lines_pieces x) after) (gone_line init n start inward g.gone) f in
    record {
      made = (suc n, (omega arith), next_same init n start inward next g.gone e);
      at = inl (n, refl, (now, g.told, mine));
      text = run_text_fails (layout init) init.state steps sink after
          (run_fails (layout init) init.state sink after (suc n) steps (omega arith)
          (rw (pieces_grow (layout init) init.state n) (pieces_fail sink now after _ _ g.told mine)));
    }

pieces_are : (l : Layout) (r : Run) (n steps : ℕ) → lines_of l (begun r) steps ≡ lines_of l (begun r) n
    → plain steps r ≡ plain n r → run_pieces l r steps ≡ pieces_upto l r n ++ end_line (plain n r) ∷ []
unfolding run_pieces
pieces_are l r n steps e k = ap (λ x. lines_pieces x ++ end_line (plain steps r) ∷ []) e
    ∙ ap (λ x. pieces_upto l r n ++ end_line x ∷ []) k

-- a run to its end or to the end of its steps
lift : (init : StartSeen) (steps : ℕ) (sink : SinkSeen) (new : StartSeen) (after : SinkSeen) (s : Step)
    → RunsTo init steps sink new after (end_of s) → Runs init steps sink new after (end_of s)
lift init steps sink new after Went r = r
lift init steps sink new after Halted r = r
lift init steps sink new after (Failed cause at) r = r

-- the end line was written after the lines, or not
pub ends : (init : StartSeen) (sink : SinkSeen) (n steps : ℕ) (start : StartSeen) (now after : SinkSeen)
    (step : Step) (line : List ℕ) (result : RunEnd)
    → n ≤ steps → start ≡ record init { state = plain n init.state }
    → lines_of (layout init) (begun init.state) steps ≡ lines_of (layout init) (begun init.state) n
    → plain steps init.state ≡ plain n init.state
    → AddsPieces sink (pieces_upto (layout init) init.state n) now → step ≡ answer start.state
    → line ≡ end_line start.state → EndsBy now line (end_of step) after result
    → Runs init steps sink start after result
ends init sink n steps start now after step line result le same lines run told is last e =
    elim e as (λ _. Runs init steps sink start after result) [
      | inl w ↦
          subst (λ r. Runs init steps sink start after r) (sym w.0)
          (lift init steps sink start after step (whole w.1))
      | inr f ↦ subst (λ r. Runs init steps sink start after r) (sym f.0) (faults f.1)
    ]
  where
    state : start.state ≡ plain n init.state
    state = ap (λ (s : StartSeen). s.state) same

    line_is : line ≡ end_line (plain n init.state)
    line_is = last ∙ ap end_line state

    pieces : run_pieces (layout init) init.state steps ≡ pieces_upto (layout init) init.state n ++ line ∷ []
    pieces = pieces_are (layout init) init.state n steps lines run
        ∙ ap (λ x. pieces_upto (layout init) init.state n ++ x ∷ []) (sym line_is)

    all_pieces : AddsPieces now (line ∷ []) after
        → AddsPieces sink (run_pieces (layout init) init.state steps) after
    all_pieces w = subst (λ x. AddsPieces sink x after) (sym pieces) (pieces_then sink now after _ _ told w)

    whole : AddsPieces now (line ∷ []) after → RunsTo init steps sink start after (end_of step)
    whole w = record {
      is = ap end_of (is ∙ ap answer (state ∙ sym run));
      state = same ∙ ap (λ (x : Run). let t : StartSeen = record init { state = x } in t) (sym run);
      text = subst (λ x. Adds sink x after) (run_joined (layout init) init.state steps) (all_pieces w).text;
      pieces = all_pieces w;
    }

    faults : FailsAtPiece now (line ∷ []) after → RunFaults init steps sink start after
    faults f = record {
      made = (n, le, same);
      at = inr (
        sym run,
        (
          now,
          subst (λ ls. AddsPieces sink (lines_pieces ls) now) (sym lines)
              told,
          subst (λ x. FailsAtPiece now (x ∷ []) after) (line_is ∙ ap end_line (sym run)) f,
        ),
      );
      text = run_text_fails (layout init)
          init.state steps sink after
          (subst (λ x. FailsAtPiece sink x after) (sym pieces) (pieces_fail sink now after _ _ told f));
    }

-- all instructions went
pub ends_running : (init : StartSeen) (sink : SinkSeen) (n : ℕ) (start : StartSeen) (inward : Bool)
    (now after : SinkSeen) (line : List ℕ) (result : RunEnd)
    → Going init sink n start inward now
    → line ≡ end_line start.state → EndsBy now line Running after result → Runs init n sink start after result
ends_running init sink n start inward now after line result g last e =
    ends init sink n n start now after Went line result (omega arith) (gone_same init n start inward g.gone)
    refl refl g.told (sym g.gone.went) last e

-- the machine ended
pub ends_early : (init : StartSeen) (sink : SinkSeen) (n steps : ℕ) (start : StartSeen) (inward : Bool)
    (now : SinkSeen) (next : StartSeen) (mid after : SinkSeen) (step : Step) (line : List ℕ) (result : RunEnd)
    → Going init sink n start inward now → n < steps
    → next ≡ record start { state = next_state start.state } → step ≡ answer (next_state start.state)
    → (step ≡ Went → ⊥) → AddsPieces now (lines_pieces (line_next (layout start) (watching start inward))) mid
    → line ≡ end_line next.state → EndsBy mid line (end_of step) after result
    → Runs init steps sink next after result
ends_early init sink n steps start inward now next mid after step line result g lt e is ended w last f =
    let same = next_same init n start inward next g.gone e in
    let state : next.state ≡ plain (suc n) init.state = ap (λ (s : StartSeen). s.state) same in
    let answers : step ≡ answer next.state = is ∙ ap answer (sym (ap (λ (s : StartSeen). s.state) e)) in
    let over : HasEnded (plain (suc n) init.state) = λ k. ended (answers ∙ ap answer state ∙ k) in
    ends init sink (suc n) steps next mid after step line result (omega arith) same
    (no_more_lines (layout init) init.state (suc n) steps (omega arith) over)
    (stays_ended (suc n) steps init.state (omega arith) over)
    (rw (pieces_grow (layout init) init.state n)
    (pieces_then sink now mid _ _ g.told
    (subst (λ x. AddsPieces now (lines_pieces x) mid) (gone_line init n start inward g.gone) w)))
    answers last f

-- the line of an instruction that went
pub event_lines : (l : Layout) (w : Watched) (s : Run) (event : Option Event) → s ≡ next_state w.run
    → answer s ≡ Went
    → event ≡ event_after l (noted l w.run.maps) w.inward (view_of s.maps)
    → lines_for l (view_of s.maps) event ≡ line_next l w
unfolding line_next
event_lines l w s event same went e =
    let went_too : answer (next_state w.run) ≡ Went = ap answer (sym same) ∙ went in
    let events : event ≡ event_after l (noted l w.run.maps) w.inward (view_of (next_state w.run).maps) =
    e ∙ ap (λ (x : Run). event_after l (noted l w.run.maps) w.inward (view_of x.maps)) same in
    let lines : lines_for l (view_of s.maps) event ≡ lines_for l (view_of (next_state w.run).maps)
    (event_after l (noted l w.run.maps) w.inward (view_of (next_state w.run).maps)) =
    ap (λ (x : Run). lines_for l (view_of x.maps) event) same
    ∙ ap (lines_for l (view_of (next_state w.run).maps)) events in
    rw went_too lines
