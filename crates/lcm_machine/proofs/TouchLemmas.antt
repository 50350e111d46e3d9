-- What a step leaves of memory: the cells that it doesn't touch, and which addresses have cells.
use Rattle.std.proofs.Common.{◌≡◌, ◌≢◌, ◌⊎◌, ℕ, zero, suc, true, false, refl, sym, ap, subst, ◌∙◌, inl, inr}
use Rattle.std.specs.Prelude.{Option, Some, None, Bool, ◌&&◌, if◌then◌else◌, IsSome, is_some}
use Rattle.std.specs.Ordering.{nat_cmp}
use Rattle.std.specs.FinMap.{FinMap}
use Rattle.std.proofs.lemmas.Bool.{cases_eq}
use Rattle.cap_words.specs.declared.Word.{Word}
use Rattle.cap_words.specs.declared.Face.{Face}
use Rattle.cap_words.specs.declared.Face.TheVariants.{Number, Memory, Seals, Sealed}
use Rattle.cap_words.specs.declared.Perm.{Perm}
use Rattle.cap_words.specs.Faces.{may_run, may_read, may_write, target_of}
use Rattle.cap_words.specs.Linear.{lin_is, is_linear, zero_word}
use Rattle.lcm_isa.specs.declared.Reg.{Reg}
use Rattle.lcm_isa.specs.declared.Reg.TheVariants.{Pc}
use Rattle.lcm_isa.specs.declared.Instr.{Instr}
use Rattle.lcm_isa.specs.declared.Instr.TheVariants.{Store, Load}
use Rattle.lcm_machine.specs.declared.Step.{Step}
use Rattle.lcm_machine.specs.declared.Step.TheVariants.{Went}
use Rattle.lcm_machine.specs.declared.End.{End}
use Rattle.lcm_machine.specs.declared.Place.{Place}
use Rattle.lcm_machine.specs.declared.Place.TheVariants.{R, Cell}
use Rattle.lcm_machine.specs.Plan.{Plan, Fails, Halts, Goes}
use Rattle.lcm_machine.specs.declared.plan.Effect.{Effect}
use Rattle.lcm_machine.specs.declared.plan.Moved.{Moved}
use Rattle.lcm_machine.specs.declared.plan.Made.{Made}
use Rattle.lcm_machine.specs.Maps.{State}
use Rattle.lcm_machine.specs.Cells.{cell, set_cell}
use Rattle.lcm_machine.specs.Table.{target, is_pc}
use Rattle.lcm_machine.specs.Row.{word_in, put, clear, perform, move_on, spend, make, go_on, HasPlace}
use Rattle.lcm_machine.specs.Row.{MoveFits, faces, opens, cell_faces, face_there, plan_in, Outcome, went}
use Rattle.lcm_machine.specs.Row.{halted, failed, outcome, row, Fetched, none, some, fetch, step_fetched}
use Rattle.lcm_machine.specs.Row.{step_of}
use Rattle.lcm_machine.specs.Ends.{Meets, After}
use Rattle.lcm_machine.specs.Touched.{reached, cell_fetched, cell_used, used_by, Touches, KeepsUntouched}
use Rattle.lcm_machine.specs.Touched.{SameCells}
use Rattle.lcm_machine.specs.Run.{Run, moved, next_by, next_state, plain as plain_run}
use Rattle.lcm_machine.proofs.CellLemmas.{cell-set_other, cell-set_same}
use Rattle.lcm_machine.proofs.StateLemmas.{word_at-other, clear_has}
use Rattle.lcm_machine.proofs.Plans.{Gives-effect, ShapePlace, ShapeMoved, plan-Shape}
use Rattle.lcm_machine.proofs.RowLemmas.{plan_fits, step_at}

pub after_meets : {W : Type 0} (P : State W → Type 0) (s t : State W) (end : Step) (o : Outcome W) → After P o
    → P s → Meets s o end t → P t
after_meets P s t end (went u) k h m = rw m.1 k
after_meets P s t end halted k h m = rw m.1 h
after_meets P s t end (failed f at) k h m = rw m.1 h

-- ---- what a touched address is

reached_is : (may : Perm → Bool) (x : Face) (cells : ℕ → Option Face) (a : ℕ) → reached may x cells ≡ Some a
    → target_of x ≡ Some a
reached_is may (Memory c) cells a e =
    elim (may c.perm && is_some (face_there cells (target_of (Memory c))))
    as (λ b. (if b then target_of (Memory c) else None) ≡ Some a → target_of (Memory c) ≡ Some a)
    [ true ↦ λ h. h | false ↦ λ h. cc ] e
reached_is may (Number c) cells a e = cc
reached_is may (Seals c) cells a e = cc
reached_is may (Sealed c) cells a e = cc

-- pc names the cell that is fetched, and an instruction the cell that it uses
pub fetched_target : (x : Face) (cells : ℕ → Option Face) (a : ℕ) → cell_fetched x cells ≡ Some a
    → target_of x ≡ Some a
fetched_target (Memory c) cells a e =
    elim (lin_is c.lin)
    as (λ b. (if b then None else reached may_run (Memory c) cells) ≡ Some a
    → target_of (Memory c) ≡ Some a) [ true ↦ λ h. cc | false ↦ reached_is may_run (Memory c) cells a ] e
fetched_target (Number c) cells a e = cc
fetched_target (Seals c) cells a e = cc
fetched_target (Sealed c) cells a e = cc

pub used_target : (i : Instr) (face : Reg → Face) (cells : ℕ → Option Face) (a : ℕ)
    → cell_used i face cells ≡ Some a → target i face ≡ Some a
used_target (Store r1 r2) face cells a e = reached_is may_write (face r1) cells a e
used_target (Load r1 r2) face cells a e =
    elim (is_pc r1)
    as (λ b. (if b then None else reached may_read (face r2) cells) ≡ Some a
    → target_of (face r2) ≡ Some a) [ true ↦ λ h. cc | false ↦ reached_is may_read (face r2) cells a ] e
used_target _ face cells a e = cc

used_some : (f : Fetched) (face : Reg → Face) (cells : ℕ → Option Face) (a : ℕ)
    → used_by f face cells ≡ Some a → (i : Instr) × (next : Word) × (f ≡ some i next)
    × (target i face ≡ Some a)
used_some (none c) face cells a e = cc
used_some (some i next) face cells a e = (i, next, refl, used_target i face cells a e)

-- an address that a step touches is one that pc names, or the instruction that it names
pub touched_by : {W : Type 0} (look : W → Word) (s : State W) (a : ℕ) → Touches look s a
    → (target_of (faces look s Pc) ≡ Some a)
    ⊎ ((i : Instr) × (next : Word) × (fetch (faces look s Pc) (cell_faces look s) ≡ some i next)
    × (target i (faces look s) ≡ Some a))
touched_by look s a (inl h) = inl (fetched_target (faces look s Pc) (cell_faces look s) a h)
touched_by look s a (inr h) =
    inr (used_some (fetch (faces look s Pc) (cell_faces look s)) (faces look s) (cell_faces look s) a h)

module _ {W : Type 0} (look : W → Word) (plain : Word → W) (s : State W) where
  -- what each effect of a step's plan leaves
  abbrev pub Leaves : (State W → Type 0) → Type 0
  Leaves P = (i : Instr) (next : Word) (e : Effect) → fetch (faces look s Pc)
      (cell_faces look s) ≡ some i next → plan_in look s i next ≡ Goes e → P (perform look plain s e)

  after_plan : (P : State W → Type 0) (p : Plan) → ((e : Effect) → p ≡ Goes e → P (perform look plain s e))
      → After P (outcome look plain s p)
  after_plan P (Fails f) k = tt
  after_plan P Halts k = tt
  after_plan P (Goes e) k = k e refl

  after_fetched : (P : State W → Type 0) (f : Fetched)
      → ((i : Instr) (next : Word) (e : Effect) → f ≡ some i next → plan_in look s i next ≡ Goes e
      → P (perform look plain s e)) → After P (step_fetched look plain s f)
  unfolding row
  after_fetched P (none f) k = tt
  after_fetched P (some i next) k = after_plan P (plan_in look s i next) (λ e g. k i next e refl g)

  pub after_step : (P : State W → Type 0) → Leaves P → After P (step_of look plain s)
  unfolding step_of
  after_step P k = after_fetched P (fetch (faces look s Pc) (cell_faces look s)) k

  pub step_leaves : (P : State W → Type 0) → Leaves P → P s → (t : State W) (end : Step)
      → Meets s (step_of look plain s) end t → P t
  step_leaves P k h t end m = after_meets P s t end (step_of look plain s) (after_step P k) h m

-- an outcome that goes, and what then holds
pub after_went : {W : Type 0} (P : State W → Type 0) (o : Outcome W) (t : State W) → After P o → o ≡ went t
    → P t
after_went P (went u) t h e = let same : u ≡ t = cc in subst P same h
after_went P halted t h e = cc
after_went P (failed f at) t h e = cc

-- what is said of the state that an outcome goes to
pub after_each : {W : Type 0} (P : State W → Type 0) (o : Outcome W) → ((t : State W) → o ≡ went t → P t)
    → After P o
after_each P (went t) k = k t refl
after_each P halted k = tt
after_each P (failed f at) k = tt

pub same_as_is : {W : Type 0} (s : State W) → SameCells s s
unfolding SameCells
same_as_is s = (refl, λ q. refl)

pub there_same : {W : Type 0} (s t : State W) → SameCells s t → (q : ℕ)
    → is_some (cell t.cells q) ≡ is_some (cell s.cells q)
unfolding SameCells
there_same s t h q = h.1 q

pub untouched_as_is : {W : Type 0} (look : W → Word) (s : State W) → KeepsUntouched look s s
unfolding KeepsUntouched
untouched_as_is look s q spare = refl

-- which addresses have cells
set_cell_same : {W : Type 0} (m : FinMap nat_cmp W) (a q : ℕ) (w : W) → IsSome (cell m a)
    → is_some (cell (set_cell m a w) q) ≡ is_some (cell m q)
set_cell_same m a q w h = elim (cases_eq q a) [
  | inl same ↦ rw same (ap is_some (cell-set_same m a w) ∙ sym h)
  | inr ne ↦ ap is_some (cell-set_other m a q w ne)
]

put_same : {W : Type 0} (s : State W) (p : Place) (w : W) → HasPlace s p → (q : ℕ)
    → is_some (cell (put s p w).cells q) ≡ is_some (cell s.cells q)
put_same s (R r) w h q = refl
put_same s (Cell a) w h q = set_cell_same s.cells a q w h

module _ {W : Type 0} (look : W → Word) (plain : Word → W) where
  clear_same : (s : State W) (p : Place) → HasPlace s p → (q : ℕ)
      → is_some (cell (clear look plain s p).cells q) ≡ is_some (cell s.cells q)
  unfolding clear
  clear_same s p h q =
      elim (is_linear (look (word_in plain s p)))
      as (λ b. is_some (cell (if b then put s p (zero_word plain) else s).cells q)
      ≡ is_some (cell s.cells q)) [ true ↦ put_same s p (zero_word plain) h q | false ↦ refl ]

  move_same : (s : State W) (m : Option Moved) → MoveFits s m → (q : ℕ)
      → is_some (cell (move_on look plain s m).cells q) ≡ is_some (cell s.cells q)
  move_same s None h q = refl
  move_same s (Some m) h q =
      put_same (clear look plain s m.from) m.to _ (clear_has look plain s m.from m.to h.1) q
      ∙ clear_same s m.from h.0 q

  spend_same : (s : State W) (r : Option Reg) (q : ℕ)
      → is_some (cell (spend look plain s r).cells q) ≡ is_some (cell s.cells q)
  spend_same s None q = refl
  spend_same s (Some r) q = clear_same s (R r) tt q

  make_cells : (s : State W) (m : Option Made) → (make plain s m).cells ≡ s.cells
  make_cells s None = refl
  make_cells s (Some m) = refl

  go_cells : (s : State W) (w : Option Word) → (go_on plain s w).cells ≡ s.cells
  go_cells s None = refl
  go_cells s (Some w) = refl

  made_cells : (s : State W) (e : Effect)
      → (go_on plain (make plain (make plain s e.first) e.second) e.next).cells ≡ s.cells
  made_cells s e = go_cells _ e.next ∙ make_cells _ e.second ∙ make_cells s e.first

  put_spans : (s : State W) (p : Place) (w : W) → (put s p w).spans ≡ s.spans
  put_spans s (R r) w = refl
  put_spans s (Cell a) w = refl

  clear_spans : (s : State W) (p : Place) → (clear look plain s p).spans ≡ s.spans
  unfolding clear
  clear_spans s p =
      elim (is_linear (look (word_in plain s p)))
      as (λ b. (if b then put s p (zero_word plain) else s).spans ≡ s.spans)
      [ true ↦ put_spans s p (zero_word plain) | false ↦ refl ]

  move_spans : (s : State W) (m : Option Moved) → (move_on look plain s m).spans ≡ s.spans
  move_spans s None = refl
  move_spans s (Some m) = put_spans _ m.to _ ∙ clear_spans s m.from

  spend_spans : (s : State W) (r : Option Reg) → (spend look plain s r).spans ≡ s.spans
  spend_spans s None = refl
  spend_spans s (Some r) = clear_spans s (R r)

  make_spans : (s : State W) (m : Option Made) → (make plain s m).spans ≡ s.spans
  make_spans s None = refl
  make_spans s (Some m) = refl

  go_spans : (s : State W) (w : Option Word) → (go_on plain s w).spans ≡ s.spans
  go_spans s None = refl
  go_spans s (Some w) = refl

  perform_spans : (s : State W) (e : Effect) → (perform look plain s e).spans ≡ s.spans
  unfolding perform
  perform_spans s e =
      go_spans _ e.next ∙ make_spans _ e.second ∙ make_spans _ e.first ∙ spend_spans _ e.also_spent
      ∙ spend_spans _ e.spent ∙ move_spans s e.moved

  perform_same : (s : State W) (e : Effect) → MoveFits s e.moved → SameCells s (perform look plain s e)
  unfolding perform SameCells
  perform_same s e h = (
    perform_spans s e,
    λ q. ap (λ m. is_some (cell m q)) (made_cells _ e) ∙ spend_same _ e.also_spent q ∙ spend_same _ e.spent q
        ∙ move_same s e.moved h q,
  )

  pub step_same : (s t : State W) (end : Step) → Meets s (step_of look plain s) end t → SameCells s t
  step_same s t end m =
      step_leaves look plain s (SameCells s)
      (λ i next e f g. perform_same s e (plan_fits look plain s i next e g)) (same_as_is s) t end m

  -- a step that fetched this instruction, which met its row
  meets_step : (s t : State W) (i : Instr) (next : Word) (end : Step)
      → fetch (faces look s Pc) (cell_faces look s) ≡ some i next → Meets s (row look plain i next s) end t
      → Meets s (step_of look plain s) end t
  meets_step s t i next end f m = rw (step_at look plain s i next f) m

  pub row_same : (s t : State W) (i : Instr) (next : Word) (end : Step) → fetch (faces look s Pc)
      (cell_faces look s) ≡ some i next → Meets s (row look plain i next s) end t → SameCells s t
  row_same s t i next end f m = step_same s t end (meets_step s t i next end f m)

  -- the cells at an address that an effect moves no word from or to
  put_other : (s : State W) (p : Place) (w : W) (q : ℕ) → Cell q ≢ p
      → cell (put s p w).cells q ≡ cell s.cells q
  put_other s p w q ne = word_at-other s p (Cell q) w ne

  clear_other : (s : State W) (p : Place) (q : ℕ) → Cell q ≢ p
      → cell (clear look plain s p).cells q ≡ cell s.cells q
  unfolding clear
  clear_other s p q ne =
      elim (is_linear (look (word_in plain s p)))
      as (λ b. cell (if b then put s p (zero_word plain) else s).cells q ≡ cell s.cells q)
      [ true ↦ put_other s p (zero_word plain) q ne | false ↦ refl ]

  -- an address that no move reaches
  abbrev pub Spared : ℕ → Option Moved → Type 0
  Spared q None = Unit {0}
  Spared q (Some m) = (Cell q ≢ m.from) × (Cell q ≢ m.to)

  move_other : (s : State W) (m : Option Moved) (q : ℕ) → Spared q m
      → cell (move_on look plain s m).cells q ≡ cell s.cells q
  move_other s None q h = refl
  move_other s (Some m) q h = put_other (clear look plain s m.from) m.to _ q h.1 ∙ clear_other s m.from q h.0

  spend_other : (s : State W) (r : Option Reg) (q : ℕ) → cell (spend look plain s r).cells q ≡ cell s.cells q
  spend_other s None q = refl
  spend_other s (Some r) q = clear_other s (R r) q (λ e. cc)

  pub perform_other : (s : State W) (e : Effect) (q : ℕ) → Spared q e.moved
      → cell (perform look plain s e).cells q ≡ cell s.cells q
  unfolding perform
  perform_other s e q h =
      ap (λ m. cell m q) (made_cells _ e) ∙ spend_other _ e.also_spent q ∙ spend_other _ e.spent q
      ∙ move_other s e.moved q h

  spared_place : (t u : Option ℕ) (cells : ℕ → Option Face) (q : ℕ) → (u ≡ Some q → ⊥) → (p : Place)
      → ShapePlace t u cells p → Cell q ≢ p
  spared_place t u cells q spare (R r) h e = cc
  spared_place t u cells q spare (Cell a) h e = spare (h.2 ∙ ap Some (let k : a ≡ q = cc in k))

  pub spared : (t u : Option ℕ) (cells : ℕ → Option Face) (q : ℕ) → (u ≡ Some q → ⊥) → (m : Option Moved)
      → ShapeMoved t u cells m → Spared q m
  spared t u cells q spare None h = tt
  spared t u cells q spare (Some m) h =
      (spared_place t u cells q spare m.from h.0, spared_place t u cells q spare m.to h.1)

  plan_spares : (s : State W) (i : Instr) (next : Word) (e : Effect) (q : ℕ) → plan_in look s i next ≡ Goes e
      → (cell_used i (faces look s) (cell_faces look s) ≡ Some q → ⊥) → Spared q e.moved
  unfolding plan_in
  plan_spares s i next e q g spare =
      let k = plan-Shape (faces look s) (opens look s) (cell_faces look s) next i in
      spared (target i (faces look s)) (cell_used i (faces look s) (cell_faces look s)) (cell_faces look s)
      q spare e.moved (Gives-effect (rw g at k))

  used_at : (s : State W) (f : Fetched) (i : Instr) (next : Word) (q : ℕ) → f ≡ some i next
      → cell_used i (faces look s) (cell_faces look s) ≡ Some q
      → used_by f (faces look s) (cell_faces look s) ≡ Some q
  used_at s f i next q e h = ap (λ x. used_by x (faces look s) (cell_faces look s)) e ∙ h

  pub step_untouched : (s t : State W) (end : Step) → Meets s (step_of look plain s) end t
      → KeepsUntouched look s t
  unfolding KeepsUntouched
  step_untouched s t end m q spare =
      step_leaves look plain s (λ (u : State W). cell u.cells q ≡ cell s.cells q)
      (λ i next e f g.
      perform_other s e q (plan_spares s i next e q g (λ h. spare (inr (used_at s _ i next q f h)))))
      refl t end m

  pub row_untouched : (s t : State W) (i : Instr) (next : Word) (end : Step) → fetch (faces look s Pc)
      (cell_faces look s) ≡ some i next → Meets s (row look plain i next s) end t → KeepsUntouched look s t
  row_untouched s t i next end f m = step_untouched s t end (meets_step s t i next end f m)

  -- a row that goes, fetched or not
  after_row : (P : State W → Type 0) (s : State W) (i : Instr) (next : Word)
      → ((e : Effect) → plan_in look s i next ≡ Goes e → P (perform look plain s e))
      → After P (row look plain i next s)
  unfolding row
  after_row P s i next k = after_plan look plain s P (plan_in look s i next) k

  pub row_cells : (s t : State W) (i : Instr) (next : Word) → row look plain i next s ≡ went t → SameCells s t
  row_cells s t i next e =
      after_went (SameCells s)
      _ t (after_row (SameCells s) s i next (λ x g. perform_same s x (plan_fits look plain s i next x g))) e

  -- it changes no cell but that which its instruction uses
  pub row_unused : (s t : State W) (i : Instr) (next : Word) → row look plain i next s ≡ went t → (q : ℕ)
      → (cell_used i (faces look s) (cell_faces look s) ≡ Some q → ⊥) → cell t.cells q ≡ cell s.cells q
  row_unused s t i next e q spare =
      after_went (λ (u : State W). cell u.cells q ≡ cell s.cells q) _ t
      (after_row (λ (u : State W). cell u.cells q ≡ cell s.cells q) s i next
      (λ x g. perform_other s x q (plan_spares s i next x q g spare)))
      e

  -- which is that which it addresses
  pub row_others : (s t : State W) (i : Instr) (next : Word) → row look plain i next s ≡ went t → (q : ℕ)
      → (target i (faces look s) ≡ Some q → ⊥) → cell t.cells q ≡ cell s.cells q
  row_others s t i next e q spare =
      row_unused s t i next e q (λ h. spare (used_target i (faces look s) (cell_faces look s) q h))

  -- a step that goes fetched an instruction, whose row goes there
  pub fetched_row : (s t : State W) → step_of look plain s ≡ went t → (i : Instr) × (next : Word)
      × (fetch (faces look s Pc) (cell_faces look s) ≡ some i next) × (row look plain i next s ≡ went t)
  unfolding step_of
  fetched_row s t e = by_fetch (fetch (faces look s Pc) (cell_faces look s)) refl e
    where
      by_fetch : (f : Fetched) → fetch (faces look s Pc) (cell_faces look s) ≡ f
          → step_fetched look plain s f ≡ went t → (i : Instr) × (next : Word)
          × (fetch (faces look s Pc) (cell_faces look s) ≡ some i next) × (row look plain i next s ≡ went t)
      by_fetch (none c) m h = cc
      by_fetch (some i next) m h = (i, next, m, h)

-- the plain machine
moved_same : (s : Run) (o : Outcome Word) → After (SameCells s.maps) o → SameCells s.maps (moved o s).maps
moved_same s (went t) k = k
moved_same s halted k = same_as_is s.maps
moved_same s (failed f at) k = same_as_is s.maps

next_by_same : (s : Run) (e : Option End) → SameCells s.maps (next_by e s).maps
next_by_same s None =
    moved_same s _
    (after_step (λ w. w) (λ w. w) s.maps (SameCells s.maps)
    (λ i next e f g. perform_same (λ w. w) (λ w. w) s.maps e (plan_fits (λ w. w) (λ w. w) s.maps i next e g)))
next_by_same s (Some e) = same_as_is s.maps

pub next_state_same : (s : Run) → SameCells s.maps (next_state s).maps
unfolding next_state
next_state_same s = next_by_same s s.end

moved_untouched : (s : Run) (o : Outcome Word)
    → ((t : State Word) → o ≡ went t → KeepsUntouched (λ w. w) s.maps t)
    → KeepsUntouched (λ w. w) s.maps (moved o s).maps
moved_untouched s (went t) k = k t refl
moved_untouched s halted k = untouched_as_is (λ w. w) s.maps
moved_untouched s (failed f at) k = untouched_as_is (λ w. w) s.maps

next_by_untouched : (s : Run) (e : Option End) → KeepsUntouched (λ w. w) s.maps (next_by e s).maps
next_by_untouched s None =
    moved_untouched s (step_of (λ w. w) (λ w. w) s.maps)
    (λ t e. step_untouched (λ w. w) (λ w. w) s.maps t Went (rw e (refl, refl)))
next_by_untouched s (Some e) = untouched_as_is (λ w. w) s.maps

pub next_state_untouched : (s : Run) → KeepsUntouched (λ w. w) s.maps (next_state s).maps
unfolding next_state
next_state_untouched s = next_by_untouched s s.end

-- a run of any length
pub plain_same : (n : ℕ) (s : Run) → SameCells s.maps (plain_run n s).maps
unfolding SameCells
plain_same zero s = (refl, λ q. refl)
plain_same (suc n) s = let k = next_state_same (plain_run n s) in let h =
    plain_same n s in (k.0 ∙ h.0, λ q. k.1 q ∙ h.1 q)
