-- The overlay goes on as a state of which so much is known.
use Rattle.std.proofs.Common.{◌≡◌, ℕ, true, false, List, ◌∷◌, Option, Some, None, Bool, refl, sym, ap, ◌∙◌}
use Rattle.std.proofs.Common.{inl, inr, is_some, subst, eqb-true, eq-eqb}
use Rattle.std.specs.Prelude.{◌==◌, if◌then◌else◌, option_map, unwrap_or}
use Rattle.std.specs.FinMap as maps
use Rattle.std.proofs.lemmas.Bool.{cases_Bool}
use Rattle.cap_words.specs.declared.Word.{Word}
use Rattle.cap_words.specs.declared.CapFields.{CapFields}
use Rattle.cap_words.specs.Faces.{memory_in}
use Rattle.cap_words.specs.Linear.{is_linear, zero_word}
use Rattle.lcm_isa.specs.declared.Reg.{Reg}
use Rattle.lcm_isa.specs.declared.Reg.TheVariants.{Pc}
use Rattle.lcm_isa.specs.declared.Instr.{Instr}
use Rattle.lcm_isa.specs.declared.Instr.TheVariants.{Xjmp}
use Rattle.lcm_machine.specs.declared.Place.{Place}
use Rattle.lcm_machine.specs.declared.Place.TheVariants.{R, Cell}
use Rattle.lcm_machine.specs.declared.cells.Span.{Span}
use Rattle.lcm_machine.specs.declared.plan.Effect.{Effect}
use Rattle.lcm_machine.specs.declared.plan.Made.{Made}
use Rattle.lcm_machine.specs.declared.plan.Moved.{Moved}
use Rattle.lcm_machine.specs.Plan.{Plan, Fails, Halts, Goes}
use Rattle.lcm_machine.specs.Maps.{State}
use Rattle.lcm_machine.specs.Places.{reg}
use Rattle.lcm_machine.specs.Cells.{cell, set_cell}
use Rattle.lcm_machine.specs.Table.{plan}
use Rattle.lcm_machine.specs.Row.{faces, opens, cell_faces, look_face, face_there, fetch, Fetched, none, some}
use Rattle.lcm_machine.specs.Row.{put, clear, move_on, spend, make, go_on, perform, word_in, plan_in, outcome}
use Rattle.lcm_machine.specs.Row.{row, step_fetched, step_of, went, Outcome}
use Rattle.lcm_machine.proofs.Offers.{cell-set_same, cell-set_other, fetch_by}
use Rattle.trusted_border.specs.declared.layout.Layout.{Layout}
use Rattle.trusted_border.specs.Layout.{trusted_at}
use Rattle.overlay_machine.specs.declared.words.OWord.{OWord}
use Rattle.overlay_machine.specs.declared.words.OWord.TheVariants.{Plain}
use Rattle.overlay_machine.specs.declared.cases.Case.{Case}
use Rattle.overlay_machine.specs.declared.cases.Case.TheVariants.{Call, Entry, Back, Other}
use Rattle.overlay_machine.specs.Words.{look}
use Rattle.overlay_machine.specs.State.{OpenFrame, OState, Cells}
use Rattle.overlay_machine.specs.Step.{Ending, goes, halts, fails, case_fetched, case_trusted, case_of}
use Rattle.overlay_machine.specs.Step.{entry_step, own_stack, need, step_by, other_step, with_frames}
use Rattle.overlay_machine.specs.Step.{overlay_step}
use Rattle.known_steps.specs.Known.{Known, Changes, word_since, AreIn, Partly, blank, known_word, set_place}
use Rattle.known_steps.specs.Known.{taken_from, moved, others, with_others, face_since, knows, by_plan}
use Rattle.known_steps.specs.Known.{target_in, known_plan, by_fetched, by_ending, fetched, at_blank, by_case}
use Rattle.known_steps.specs.Known.{case_by, at_pc, known_step}

-- ---- memory holds what is known

pub set_in : (k : Known) (cs : Changes) (m : Cells) (a : ℕ) (w : OWord) → AreIn k cs m
    → AreIn k ((a, Some w) ∷ cs) (set_cell m a w)
set_in k cs m a w h q v e = elim (cases_Bool (q == a)) as (λ _. cell (set_cell m a w) q ≡ Some v) [
  | inl is ↦
      ap (cell (set_cell m a w)) (eqb-true q a is) ∙ cell-set_same m a w
      ∙ sym (ap (λ b. if b then Some w else word_since k cs q) is) ∙ e
  | inr no_ ↦
      cell-set_other m a q w (λ same. let bad : true ≡ false = sym (eq-eqb q a same) ∙ no_ in cc)
      ∙ h q v (sym (ap (λ b. if b then Some w else word_since k cs q) no_) ∙ e)
]

module _ (k : Known) (spans : List Span) where
  abbrev pub with_cells : Partly → Cells → State OWord
  with_cells s m = record { regs = s.regs; cells = m; spans = spans }

  -- ---- an effect

  -- a state comes to what is known after a step of it
  abbrev Comes : Partly → State OWord → Type 0
  Comes t q = (m : Cells) × AreIn k t.changes m × (q ≡ with_cells t m)

  put_known : (s : Partly) (m : Cells) (p : Place) (w : OWord) → AreIn k s.changes m
      → Comes (set_place k s p w) (put (with_cells s m) p w)
  put_known s m (R r) w h = (m, h, refl)
  put_known s m (Cell a) w h = (set_cell m a w, set_in k s.changes m a w h, refl)

  take_by : (b : Bool) (s : Partly) (m : Cells) (p : Place) → AreIn k s.changes m
      → Comes (if b then set_place k s p (zero_word Plain) else s)
      (if b then put (with_cells s m) p (zero_word Plain) else with_cells s m)
  take_by true s m p h = put_known s m p (zero_word Plain) h
  take_by false s m p h = (m, h, refl)

  take_known : (s : Partly) (m : Cells) (p : Place) (w : OWord) → word_in Plain (with_cells s m) p ≡ w
      → AreIn k s.changes m → Comes (taken_from k s p w) (clear look Plain (with_cells s m) p)
  unfolding clear
  take_known s m p w e h =
      let c = take_by (is_linear (look w)) s m p h in (
        c.0,
        c.1,
        ap (λ v. if is_linear (look v) then put (with_cells s m) p (zero_word Plain) else with_cells s m) e ∙
            c.2,
      )

  word_known : (s : Partly) (m : Cells) (p : Place) (w : OWord) → AreIn k s.changes m → known_word k s p ≡
      Some w
      → word_in Plain (with_cells s m) p ≡ w
  word_known s m (R r) w h e = cc
  word_known s m (Cell a) w h e = ap (λ o. unwrap_or o (zero_word Plain)) (h a w e)

  move_by : (s t : Partly) (m : Cells) (v : Moved) (o : Option OWord) → AreIn k s.changes m
      → known_word k s v.from ≡ o
      → option_map (λ w. set_place k (taken_from k s v.from w) v.to w) o ≡ Some t
      → Comes t (move_on look Plain (with_cells s m) (Some v))
  move_by s t m v None h e is = absurd cc
  move_by s t m v (Some w) h e is =
      let word = word_known s m v.from w h e in
      let c = take_known s m v.from w word h in
      let d = put_known (taken_from k s v.from w) c.0 v.to w c.1 in
      let same : set_place k (taken_from k s v.from w) v.to w ≡ t = cc in
      subst (λ x. Comes x (move_on look Plain (with_cells s m) (Some v))) same (
        d.0,
        d.1,
        ap (λ x. put x v.to (word_in Plain (with_cells s m) v.from)) c.2
            ∙ ap (put (with_cells (taken_from k s v.from w) c.0) v.to) word ∙ d.2,
      )

  move_known : (s t : Partly) (m : Cells) (v : Option Moved) → AreIn k s.changes m → moved k s v ≡ Some t
      → Comes t (move_on look Plain (with_cells s m) v)
  move_known s t m None h e = let same : s ≡ t = cc in
      subst (λ x. Comes x (with_cells s m)) same (m, h, refl)
  move_known s t m (Some v) h e = move_by s t m v _ h refl e

  abbrev over : State OWord → Cells → State OWord
  over s m = record s { cells = m; spans = spans }

  clear_over : (s : State OWord) (m : Cells) (r : Reg)
      → clear look Plain (over s m) (R r) ≡ over (clear look Plain s (R r)) m
  unfolding clear
  clear_over s m r = by_bool (is_linear (look (reg s.regs r)))
    where
      by_bool : (b : Bool) → (if b then put (over s m) (R r) (zero_word Plain) else over s m)
          ≡ over (if b then put s (R r) (zero_word Plain) else s) m
      by_bool true = refl
      by_bool false = refl

  spend_over : (s : State OWord) (m : Cells) (o : Option Reg)
      → spend look Plain (over s m) o ≡ over (spend look Plain s o) m
  spend_over s m None = refl
  spend_over s m (Some r) = clear_over s m r

  make_over : (s : State OWord) (m : Cells) (o : Option Made)
      → make Plain (over s m) o ≡ over (make Plain s o) m
  make_over s m None = refl
  make_over s m (Some x) = refl

  go_over : (s : State OWord) (m : Cells) (o : Option Word)
      → go_on Plain (over s m) o ≡ over (go_on Plain s o) m
  go_over s m None = refl
  go_over s m (Some x) = refl

  others_over : (e : Effect) (s : State OWord) (m : Cells) → others k e (over s m) ≡ over (others k e s) m
  unfolding perform
  others_over e s m =
      let one = spend look Plain s e.spent in
      let two = spend look Plain one e.also_spent in
      let three = make Plain two e.first in
      let four = make Plain three e.second in
      ap (λ x. go_on Plain (make Plain (make Plain (spend look Plain x e.also_spent) e.first) e.second)
      e.next)
      (spend_over s m e.spent)
      ∙ ap (λ x. go_on Plain (make Plain (make Plain x e.first) e.second) e.next) (spend_over one m
      e.also_spent)
      ∙ ap (λ x. go_on Plain (make Plain x e.second) e.next) (make_over two m e.first)
      ∙ ap (λ x. go_on Plain x e.next) (make_over three m e.second) ∙ go_over four m e.next

  perform_by : (s t : Partly) (m : Cells) (e : Effect) (o : Option Partly) → AreIn k s.changes m
      → moved k s e.moved ≡ o
      → option_map (with_others k e) o ≡ Some t → Comes t (perform look Plain (with_cells s m) e)
  unfolding perform
  perform_by s t m e None h is same = absurd cc
  perform_by s t m e (Some x) h is same =
      let c = move_known s x m e.moved h is in
      let last : with_others k e x ≡ t = cc in
      subst (λ y. Comes y (perform look Plain (with_cells s m) e)) last
      (c.0, c.1, ap (others k e) c.2 ∙ others_over e (blank x.regs) c.0)

  -- ---- a row

  there_known : (s : Partly) (m : Cells) (o : Option ℕ) → AreIn k s.changes m → knows k s o ≡ true
      → face_there (cell_faces look (with_cells s m)) o ≡ face_there (face_since k s) o
  unfolding cell_faces
  there_known s m None h e = refl
  there_known s m (Some a) h e = by_word (word_since k s.changes a) refl
    where
      by_word : (o : Option OWord) → word_since k s.changes a ≡ o
          → look_face look (cell m a) ≡ look_face look (word_since k s.changes a)
      by_word None x = let bad : false ≡ true = sym (ap is_some x) ∙ e in absurd cc
      by_word (Some w) x = ap (look_face look) (h a w x ∙ sym x)

  pub fetch_known : (s : Partly) (m : Cells) → AreIn k s.changes m → knows k s (at_pc k s) ≡ true
      → fetch (faces look (with_cells s m) Pc) (cell_faces look (with_cells s m)) ≡ fetched k s
  unfolding faces
  fetch_known s m h e = fetch_by (faces look (blank s.regs) Pc) _ _ (there_known s m _ h e)

  -- a row comes to what is known after it
  abbrev GoesTo : Partly → Outcome OWord → Type 0
  GoesTo t o = (m : Cells) × AreIn k t.changes m × (o ≡ went (with_cells t m))

  plan_known : (s : Partly) (m : Cells) (i : Instr) (next : Word) → AreIn k s.changes m
      → knows k s (target_in k s i) ≡ true → plan_in look (with_cells s m) i next ≡ known_plan k s i next
  unfolding plan_in faces opens
  plan_known s m i next h e =
      ap (λ c. plan i (faces look (blank s.regs)) (opens look (blank s.regs)) c next)
      (there_known s m (target_in k s i) h e)

  outcome_known : (s t : Partly) (m : Cells) (p : Plan) → AreIn k s.changes m → by_plan k s p ≡ Some t
      → GoesTo t (outcome look Plain (with_cells s m) p)
  outcome_known s t m (Fails f) h e = absurd cc
  outcome_known s t m Halts h e = absurd cc
  outcome_known s t m (Goes x) h e =
      let c = perform_by s t m x _ h refl e in (c.0, c.1, ap went c.2)

  row_by : (b : Bool) (s t : Partly) (m : Cells) (i : Instr) (next : Word) → AreIn k s.changes m
      → knows k s (target_in k s i) ≡ b → (if b then by_plan k s (known_plan k s i next) else None) ≡ Some t
      → GoesTo t (row look Plain i next (with_cells s m))
  unfolding row
  row_by true s t m i next h e is =
      let c = outcome_known s t m (known_plan k s i next) h is in
      (c.0, c.1, ap (outcome look Plain (with_cells s m)) (plan_known s m i next h e) ∙ c.2)
  row_by false s t m i next h e is = absurd cc

  pub fetched_goes : (s t : Partly) (m : Cells) (f : Fetched) → AreIn k s.changes m → by_fetched k s f ≡ Some
      t
      → GoesTo t (step_fetched look Plain (with_cells s m) f)
  fetched_goes s t m (none f) h e = absurd cc
  fetched_goes s t m (some i next) h e = row_by _ s t m i next h refl e

  -- ---- a step

  case_regs : (s : Partly) (m : Cells) (f : Fetched)
      → case_fetched (with_cells s m) f ≡ case_fetched (blank s.regs) f
  case_regs s m (some (Xjmp r1 r2) next) = refl
  case_regs s m (some _ next) = refl
  case_regs s m (none c) = refl

  pub case_known : (l : Layout) (s : Partly) (m : Cells) → AreIn k s.changes m → knows k s (at_pc k s) ≡ true
      → case_of l (with_cells s m) ≡ case_by k l s
  unfolding case_of faces
  case_known l s m h e =
      ap (case_trusted l (trusted_at l (faces look (blank s.regs) Pc)))
      (ap (case_fetched (with_cells s m)) (fetch_known s m h e) ∙ case_regs s m (fetched k s))

  module _ (l : Layout) (fs : List OpenFrame) (n : ℕ) where
    abbrev pub whole : Partly → Cells → OState
    whole s m = record { maps = with_cells s m; frames = fs; calls = n }

    abbrev pub StepsTo : Partly → Ending → Type 0
    StepsTo t e = (m : Cells) × AreIn k t.changes m × (e ≡ goes (whole t m))

    other_known : (s t : Partly) (m : Cells) → AreIn k s.changes m → knows k s (at_pc k s) ≡ true
        → by_fetched k s (fetched k s) ≡ Some t → StepsTo t (other_step (whole s m))
    unfolding other_step step_of
    other_known s t m h e is =
        let c = fetched_goes s t m (fetched k s) h is in (
          c.0,
          c.1,
          ap (λ f. with_frames fs n (step_fetched look Plain (with_cells s m) f)) (fetch_known s m h e)
              ∙ ap (with_frames fs n) c.2,
        )

    abbrev lifted : Partly → Cells → Ending → Ending
    lifted s m (goes q) = goes (whole (record s { regs = q.maps.regs }) m)
    lifted s m halts = halts
    lifted s m fails = fails

    entry_by : (s : Partly) (m : Cells) (a : ℕ) (x y : Option CapFields)
        → memory_in (faces look (blank s.regs) Pc) ≡ x → own_stack l (blank s.regs) ≡ y
        → entry_step l a (whole s m) ≡ lifted s m (entry_step l a (at_blank k s))
    unfolding entry_step own_stack need faces
    entry_by s m a None y e f = rw e refl
    entry_by s m a (Some p) None e f = rw (e, f) refl
    entry_by s m a (Some p) (Some c) e f = rw (e, f) refl

    lifted_is : (s t : Partly) (m : Cells) (e : Ending) → AreIn k s.changes m → by_ending k s e ≡ Some t
        → StepsTo t (lifted s m e)
    lifted_is s t m (goes q) h e =
        let same : record s { regs = q.maps.regs } ≡ t = cc in
        subst (λ x. StepsTo x (lifted s m (goes q))) same (m, h, refl)
    lifted_is s t m halts h e = absurd cc
    lifted_is s t m fails h e = absurd cc

    case_goes : (s t : Partly) (m : Cells) (c : Case) → AreIn k s.changes m → knows k s (at_pc k s) ≡ true
        → by_case k l s c ≡ Some t → StepsTo t (step_by l c (whole s m))
    case_goes s t m Other h e is = other_known s t m h e is
    case_goes s t m (Entry a) h e is =
        let c = lifted_is s t m (entry_step l a (at_blank k s)) h is in
        (c.0, c.1, entry_by s m a _ _ refl refl ∙ c.2)
    case_goes s t m (Call i) h e is = absurd cc
    case_goes s t m (Back r1 r2) h e is = absurd cc

    step_by_knows : (b : Bool) (s t : Partly) (m : Cells) → AreIn k s.changes m → knows k s (at_pc k s) ≡ b
        → (if b then by_case k l s (case_by k l s) else None) ≡ Some t → StepsTo t (overlay_step l (whole s
        m))
    unfolding overlay_step
    step_by_knows true s t m h e is =
        let c = case_goes s t m (case_by k l s) h e is in
        (c.0, c.1, ap (λ x. step_by l x (whole s m)) (case_known l s m h e) ∙ c.2)
    step_by_knows false s t m h e is = absurd cc

    pub step_known : (s t : Partly) (m : Cells) → AreIn k s.changes m → known_step k l s ≡ Some t
        → StepsTo t (overlay_step l (whole s m))
    step_known s t m h is = step_by_knows _ s t m h refl is
