-- A machine, and another that is the same but for some cells which it doesn't touch: one step, and its line.
use Rattle.std.proofs.Common.{◌≡◌, ℕ, zero, suc, ◌+◌, ◌-◌, ◌<◌, ◌≤◌, ◌∷◌, ◌++◌, Option, Some, None}
use Rattle.std.proofs.Common.{refl, sym, ap, ◌∙◌, subst, arith, Bool}
use Rattle.std.specs.Prelude.{option_map}
use Rattle.cap_words.specs.declared.Word.{Word}
use Rattle.cap_words.specs.Face.{face_of, opened_of}
use Rattle.lcm_isa.specs.declared.Reg.{Reg}
use Rattle.lcm_isa.specs.declared.Reg.TheVariants.{Pc, Stk, Dat, A0}
use Rattle.lcm_machine.specs.declared.Step.{Step}
use Rattle.lcm_machine.specs.declared.Step.TheVariants.{Went, Halted, Failed}
use Rattle.lcm_machine.specs.declared.End.{End}
use Rattle.lcm_machine.specs.declared.End.TheVariants.{Halted as AtHalt, Failed as AtFailure}
use Rattle.lcm_machine.specs.Maps.{State}
use Rattle.lcm_machine.specs.Places.{reg}
use Rattle.lcm_machine.specs.Cells.{cell}
use Rattle.lcm_machine.specs.Row.{Outcome, went, halted, failed, faces, opens, cell_faces, fetch, jump_in}
use Rattle.lcm_machine.specs.Row.{jump_at}
use Rattle.lcm_machine.specs.Run.{Run, moved, next_by, next_state, answer, answer_by}
use Rattle.lcm_machine.specs.Touched.{Touches}
use Rattle.call_sequence.specs.declared.TheConstants.{CALL_WORDS, RETURN_WORDS}
use Rattle.trusted_border.specs.declared.layout.Layout.{Layout}
use Rattle.trusted_border.specs.declared.events.Event.{Event}
use Rattle.trusted_border.specs.declared.events.Event.TheVariants.{Called, Returned, Entered, Left}
use Rattle.run_lines.specs.declared.note.Note.{Note}
use Rattle.run_lines.specs.declared.note.Note.TheVariants.{Nothing, Last, Leap}
use Rattle.run_lines.specs.Layout.{part_name, site_of, trusted_part, site_word}
use Rattle.run_lines.specs.Views.{View, view_of}
use Rattle.run_lines.specs.Events.{note_last, noted_by, noted, inward_after, returned, leapt_by, event_after}
use Rattle.run_lines.specs.Lines.{call, ret, args_of, list_of, words_seen, line_of, lines_behind, lines_for}
use Rattle.run_lines.specs.EndLines.{line_at, end_line, running_text, halted_text, failed_by_text}
use Rattle.run_lines.specs.Runs.{Watched, if_went, watched_next, event_next, line_next}
use Rattle.lcm_machine.specs.Blind.{SameBut, Keeps, HasNoMore, EndsAlike}
use Rattle.lcm_machine.proofs.Offers.{step_blind, fetch_blind}

abbrev id : Word → Word
id w = w

-- ---- one step

pub record Beside (apart : ℕ → Type 0) (r q : Run) : Type 0 where
  pub end : q.end ≡ r.end
  pub count : q.count ≡ r.count
  pub maps : SameBut apart r.maps q.maps

-- the cells that are set apart are of no account to the next step
abbrev pub OfNoUse : (ℕ → Type 0) → Run → Run → Type 0
OfNoUse apart r q =
    r.end ≡ None → HasNoMore apart r.maps q.maps × ((a : ℕ) → apart a → ¬ (Touches id r.maps a))

module _ (apart : ℕ → Type 0) where
  abbrev pub StayBeside : Run → Run → Run → Run → Type 0
  StayBeside r q u v = Beside apart u v × Keeps apart r.maps u.maps × Keeps apart q.maps v.maps

  moved_beside : (r q : Run) (o p : Outcome Word) → Beside apart r q → EndsAlike apart r.maps q.maps o p
      → StayBeside r q (moved o r) (moved p q)
  moved_beside r q (went u) (went v) h k =
      (record { end = refl; count = ap (λ n. n + 1) h.count; maps = k.0 }, k.1, k.2)
  moved_beside r q halted halted h k =
      (record { end = refl; count = ap (λ n. n + 1) h.count; maps = h.maps }, λ a p. refl, λ a p. refl)
  moved_beside r q (failed c at) (failed d to) h k = (
    record {
      end = ap (λ x. Some (AtFailure x to)) (sym k.0) ∙ ap (λ x. Some (AtFailure c x)) (sym k.1);
      count = ap (λ n. n + 1) h.count;
      maps = h.maps;
    },
    λ a p. refl,
    λ a p. refl,
  )
  moved_beside r q (went u) halted h k = absurd k
  moved_beside r q (went u) (failed d to) h k = absurd k
  moved_beside r q halted (went v) h k = absurd k
  moved_beside r q halted (failed d to) h k = absurd k
  moved_beside r q (failed c at) (went v) h k = absurd k
  moved_beside r q (failed c at) halted h k = absurd k

  next_by_beside : (e : Option End) (r q : Run) → r.end ≡ e → Beside apart r q → OfNoUse apart r q
      → StayBeside r q (next_by e r) (next_by e q)
  next_by_beside None r q is h idle =
      let k = idle is in moved_beside r q _ _ h (step_blind apart id id r.maps q.maps h.maps k.0 k.1)
  next_by_beside (Some e) r q is h idle = (h, λ a p. refl, λ a p. refl)

  pub next_beside : (r q : Run) → Beside apart r q → OfNoUse apart r q
      → StayBeside r q (next_state r) (next_state q)
  unfolding next_state
  next_beside r q h idle =
      subst (λ e. StayBeside r q (next_by r.end r) (next_by e q))
      (sym h.end) (next_by_beside r.end r q refl h idle)

-- the end line of the one is that of the other
pub end_line_same : (apart : ℕ → Type 0) (r q : Run) → Beside apart r q → end_line q ≡ end_line r
end_line_same apart r q h = ap (λ e. line_at (answer_by e) q) h.end ∙ by_step (answer r)
  where
    by_step : (a : Step) → line_at a q ≡ line_at a r
    by_step Went =
        ap (λ m. running_text (record { reg = reg m; cell = cell q.maps.cells }) q.count) (h.maps).regs
        ∙ ap (running_text (view_of r.maps)) h.count
    by_step Halted =
        ap (λ m. halted_text (record { reg = reg m; cell = cell q.maps.cells }) q.count) (h.maps).regs
        ∙ ap (halted_text (view_of r.maps)) h.count
    by_step (Failed cause at) =
        ap (λ m. failed_by_text (record { reg = reg m; cell = cell q.maps.cells }) cause q.count)
        (h.maps).regs
        ∙ ap (failed_by_text (view_of r.maps) cause) h.count

-- ---- its event

if_same : {A : Type 0} (o p : Option End) (x y u v : A) → p ≡ o → (o ≡ None → y ≡ x) → v ≡ u
    → if_went (answer_by p) y v ≡ if_went (answer_by o) x u
if_same o p x y u v e k m = ap (λ z. if_went (answer_by z) y v) e ∙ by_end o k
  where
    by_end : (z : Option End) → (z ≡ None → y ≡ x) → if_went (answer_by z) y v ≡ if_went (answer_by z) x u
    by_end None k = k refl
    by_end (Some AtHalt) k = m
    by_end (Some (AtFailure c at)) k = m

event_went : (o : Option End) (x : Option Event) (e : Event) → if_went (answer_by o) x None ≡ Some e
    → o ≡ None
event_went None x e h = refl
event_went (Some AtHalt) x e h = cc
event_went (Some (AtFailure c at)) x e h = cc

-- where there is an event, the machine has gone on
pub event_goes : (l : Layout) (w : Watched) (e : Event) → event_next l w ≡ Some e
    → (next_state w.run).end ≡ None
event_goes l w e h = event_went (next_state w.run).end _ e h

pub went_before : (r : Run) → (next_state r).end ≡ None → r.end ≡ None
unfolding next_state
went_before r h = by_end r.end refl h
  where
    by_end : (o : Option End) → r.end ≡ o → (next_by o r).end ≡ None → o ≡ None
    by_end None e k = refl
    by_end (Some x) e k = sym e ∙ k

module _ (l : Layout) (apart : ℕ → Type 0) where
  note_same : (s t : State Word) → t.regs ≡ s.regs → (o : Option Reg) → noted_by l t o ≡ noted_by l s o
  unfolding faces opens
  note_same s t e None =
      ap (λ m. note_last (site_word l (CALL_WORDS + RETURN_WORDS - 1) (face_of (reg m Pc)))) e
  note_same s t e (Some r1) = ap (λ m. Leap (record {
    from = trusted_part l (face_of (reg m Pc));
    call = site_word l (CALL_WORDS - 1) (face_of (reg m Pc));
    seal = option_map (λ k. k.seal) (opened_of (reg m r1));
  })) e

  noted_same : (s t : State Word) → t.regs ≡ s.regs
      → fetch (faces id t Pc) (cell_faces id t) ≡ fetch (faces id s Pc) (cell_faces id s)
      → noted l t ≡ noted l s
  unfolding noted jump_at
  noted_same s t e f =
      note_same s t e (jump_in (fetch (faces id t Pc) (cell_faces id t)))
      ∙ ap (λ x. noted_by l s (jump_in x)) f

  leapt_same : (s t : State Word) → t.regs ≡ s.regs → (from calls seal : Option ℕ)
      → leapt_by l from calls seal (view_of t) ≡ leapt_by l from calls seal (view_of s)
  leapt_same s t e None calls seal =
      ap (λ m. leapt_by l None calls seal (record { reg = reg m; cell = cell s.cells })) e
  leapt_same s t e (Some part) None seal =
      ap (λ m. leapt_by l (Some part) None seal (record { reg = reg m; cell = cell s.cells })) e
  leapt_same s t e (Some part) (Some i) seal =
      ap (λ m. leapt_by l (Some part) (Some i) seal (record { reg = reg m; cell = cell s.cells })) e

  after_same : (s t : State Word) → t.regs ≡ s.regs → (k : Note) (inward : Bool)
      → event_after l k inward (view_of t) ≡ event_after l k inward (view_of s)
  unfolding event_after
  after_same s t e Nothing inward = refl
  after_same s t e (Last i) inward = ap (λ m. returned inward i (face_of (reg m Stk))) e
  after_same s t e (Leap j) inward = leapt_same s t e j.from j.call j.seal

  -- ---- its lines

  -- the range of an event has no address that is set apart
  abbrev pub RangeIsOff : Event → Type 0
  RangeIsOff (Called inward i base last) = (a : ℕ) → base ≤ a → a ≤ last → ¬ (apart a)
  RangeIsOff (Returned inward i base last) = (a : ℕ) → base ≤ a → a ≤ last → ¬ (apart a)
  RangeIsOff _ = Unit {0}

  words_same : (u v : View) (a n : ℕ) → ((q : ℕ) → a ≤ q → q < a + n → v.cell q ≡ u.cell q)
      → words_seen v a n ≡ words_seen u a n
  words_same u v a zero h = refl
  words_same u v a (suc n) h =
      ap (λ ws. ws ++ list_of (v.cell (a + n)))
      (words_same u v a n (λ q low high. h q low (omega (arith, high))))
      ∙ ap (λ o. words_seen u a n ++ list_of o) (h (a + n) (omega arith) (omega arith))

  line_same : (s t : State Word) → SameBut apart s t → (e : Event) → RangeIsOff e
      → line_of l (view_of t) e ≡ line_of l (view_of s) e
  line_same s t h (Called inward i base last) off =
      ap (λ m. call inward (part_name l (site_of l i).part) (site_of l i).index base last
      (args_of (record { reg = reg m; cell = cell s.cells })) (words_seen (view_of t) base (last + 1 - base)))
      h.regs ∙ ap (λ ws. call inward (part_name l (site_of l i).part) (site_of l i).index base last
      (args_of (view_of s)) ws)
      (words_same (view_of s) (view_of t) base (last + 1 - base)
      (λ q low high. h.cells q (off q low (omega (arith, low, high)))))
  line_same s t h (Returned inward i base last) off =
      ap (λ m. ret inward (part_name l (site_of l i).part) (site_of l i).index base last (reg m A0)
      (reg m Dat ∷ words_seen (view_of t) (base + 1) (last - base))) h.regs
      ∙ ap (λ ws. ret inward (part_name l (site_of l i).part) (site_of l i).index base last (reg s.regs A0)
      (reg s.regs Dat ∷ ws))
      (words_same (view_of s) (view_of t) (base + 1) (last - base)
      (λ q low high. h.cells q (off q (omega (arith, low)) (omega (arith, low, high)))))
  line_same s t h (Entered part k back) off =
      ap (λ m. line_of l (record { reg = reg m; cell = cell s.cells }) (Entered part k back)) h.regs
  line_same s t h (Left part) off =
      ap (λ m. line_of l (record { reg = reg m; cell = cell s.cells }) (Left part)) h.regs

  behind_same : (s t : State Word) → t.regs ≡ s.regs → (e : Event)
      → lines_behind l (view_of t) e ≡ lines_behind l (view_of s) e
  behind_same s t h (Entered part k back) =
      ap (λ m. lines_behind l (record { reg = reg m; cell = cell s.cells }) (Entered part k back)) h
  behind_same s t h (Called inward i base last) = refl
  behind_same s t h (Returned inward i base last) = refl
  behind_same s t h (Left part) = refl

  lines_same : (s t : State Word) → SameBut apart s t → (o : Option Event)
      → ((e : Event) → o ≡ Some e → RangeIsOff e) → lines_for l (view_of t) o ≡ lines_for l (view_of s) o
  lines_same s t h None off = refl
  lines_same s t h (Some e) off =
      ap (λ x. x ∷ lines_behind l (view_of t) e) (line_same s t h e (off e refl))
      ∙ ap (λ xs. line_of l (view_of s) e ∷ xs) (behind_same s t h.regs e)

  module _ (w x : Watched) (h : Beside apart w.run x.run) (inward : x.inward ≡ w.inward)
      (idle : OfNoUse apart w.run x.run) where
    next : Beside apart (next_state w.run) (next_state x.run)
    next = (next_beside apart w.run x.run h idle).0

    note_is : (next_state w.run).end ≡ None → noted l x.run.maps ≡ noted l w.run.maps
    note_is goes =
        let k = idle (went_before w.run goes) in
        noted_same w.run.maps x.run.maps (h.maps).regs
        (fetch_blind apart id id w.run.maps x.run.maps h.maps k.0 k.1)

    event_same : event_next l x ≡ event_next l w
    event_same =
        if_same (next_state w.run).end (next_state x.run).end _ _ None None next.end
        (λ goes. after_same (next_state w.run).maps (next_state x.run).maps (next.maps).regs
        (noted l x.run.maps) x.inward
        ∙ ap (λ k. event_after l k x.inward (view_of (next_state w.run).maps)) (note_is goes)
        ∙ ap (λ i. event_after l (noted l w.run.maps) i (view_of (next_state w.run).maps)) inward)
        refl

    pub inward_same : (watched_next l x).inward ≡ (watched_next l w).inward
    inward_same =
        if_same (next_state w.run).end (next_state x.run).end _ _ w.inward x.inward next.end
        (λ goes. ap (λ k. inward_after k x.inward) (note_is goes)
        ∙ ap (λ i. inward_after (noted l w.run.maps) i) inward)
        inward

    pub line_next_same : ((e : Event) → event_next l w ≡ Some e → RangeIsOff e)
        → line_next l x ≡ line_next l w
    unfolding line_next
    line_next_same off =
        ap (λ o. lines_for l (view_of (next_state x.run).maps) o) event_same
        ∙ lines_same (next_state w.run).maps (next_state x.run).maps next.maps (event_next l w) off
