-- A step that touches none of some cells goes the same way whatever is in them, and so does a run.
use Rattle.std.proofs.Common.{◌≡◌, ℕ, zero, suc, true, false, Option, Some, None, refl, sym, ap, ◌∙◌}
use Rattle.std.proofs.Common.{IsSome, is_some, inl, inr}
use Rattle.std.specs.Prelude.{Bool, IsTrue, if◌then◌else◌, unwrap_or, not, ◌&&◌, ◌||◌}
use Rattle.std.proofs.lemmas.Bool.{cases_eq, not-true, and_parts}
use Rattle.cap_words.specs.declared.Word.{Word}
use Rattle.cap_words.specs.declared.CapFields.{CapFields}
use Rattle.cap_words.specs.declared.Perm.{Perm}
use Rattle.cap_words.specs.declared.Opened.{Opened}
use Rattle.cap_words.specs.declared.Face.{Face}
use Rattle.cap_words.specs.declared.Face.TheVariants.{Number, Memory, Seals, Sealed}
use Rattle.cap_words.specs.Face.{face_of, opened_of}
use Rattle.cap_words.specs.Faces.{target_of, memory_in, may_run, may_read, may_write, address, face_linear}
use Rattle.cap_words.specs.Linear.{lin_is, is_linear, zero_word}
use Rattle.lcm_isa.specs.declared.Reg.{Reg}
use Rattle.lcm_isa.specs.declared.Reg.TheVariants.{Pc}
use Rattle.lcm_isa.specs.declared.Operand.TheVariants.{R as InReg, Imm}
use Rattle.lcm_isa.specs.declared.Instr.{Instr}
use Rattle.lcm_isa.specs.declared.Instr.TheVariants.{Store, Load, Move}
use Rattle.lcm_machine.specs.declared.FailCause.{FailCause}
use Rattle.lcm_machine.specs.declared.FailCause.TheVariants.{F1, F8, F10}
use Rattle.lcm_machine.specs.declared.Place.{Place}
use Rattle.lcm_machine.specs.declared.Place.TheVariants.{R, Cell}
use Rattle.lcm_machine.specs.Plan.{Plan, Fails, Halts, Goes}
use Rattle.lcm_machine.specs.declared.plan.Effect.{Effect}
use Rattle.lcm_machine.specs.declared.plan.Made.{Made}
use Rattle.lcm_machine.specs.declared.plan.Moved.{Moved}
use Rattle.lcm_machine.specs.Maps.{State}
use Rattle.lcm_machine.specs.Places.{reg, set_reg}
use Rattle.lcm_machine.specs.Cells.{cell}
use Rattle.lcm_machine.specs.Table.{plan, target, ask, need, moves, is_pc}
use Rattle.lcm_machine.specs.Row.{word_in, put, clear, move_on, spend, make, go_on, perform, faces, opens}
use Rattle.lcm_machine.specs.Row.{cell_faces, look_face, face_there, plan_in, outcome, row, pc_of, pc_at}
use Rattle.lcm_machine.specs.Row.{fetch, fetch_word, Fetched, none, some, step_fetched, step_of}
use Rattle.lcm_machine.specs.Row.{Outcome, went, halted, failed}
use Rattle.lcm_machine.specs.Runs.{and_then, run_of}
use Rattle.lcm_machine.specs.Touched.{reached, cell_fetched, cell_used, used_by, Touches, Untouched}
use Rattle.lcm_machine.proofs.CellLemmas.{cell-set_same, cell-set_other}
use Rattle.lcm_machine.proofs.Plans.{Gives, Gives-effect, Shape, ShapePlace, ShapeMoved, plan-Shape}
use Rattle.lcm_machine.proofs.TouchLemmas.{after_went, perform_other, spared}
use Rattle.lcm_machine.specs.Blind.{SameBut, Keeps, HasNoMore, EndsAlike, StepsAreBlind, RunsAreBlind}

-- ---- what a step reads of the cells

-- an instruction reaches a cell that is there, where the permission allows it
reached_at : (may : Perm → Bool) (x : Face) (c : CapFields) (cells : ℕ → Option Face) (a : ℕ)
    → memory_in x ≡ Some c → may c.perm ≡ true → target_of x ≡ Some a → IsSome (cells a)
    → reached may x cells ≡ Some a
reached_at may (Memory b) c cells a m allowed t is =
    let same : b ≡ c = cc in
    ap (λ y. if y && is_some (face_there cells (target_of (Memory b))) then target_of (Memory b) else None)
    (ap (λ (d : CapFields). may d.perm) same ∙ allowed)
    ∙ ap (λ o. if is_some (face_there cells o) then o else None) t
    ∙ ap (λ y. if y then Some a else None) is
reached_at may (Number z) c cells a m allowed t is = cc
reached_at may (Seals z) c cells a m allowed t is = cc
reached_at may (Sealed z) c cells a m allowed t is = cc

fetched_at : (c : CapFields) (cells : ℕ → Option Face) (a : ℕ)
    → (not (lin_is c.lin) && may_run c.perm) ≡ true → target_of (Memory c) ≡ Some a → IsSome (cells a)
    → cell_fetched (Memory c) cells ≡ Some a
fetched_at c cells a b t is =
    let k = and_parts (not (lin_is c.lin)) (may_run c.perm) b in
    ap (λ l. if l then None else reached may_run (Memory c) cells) (not-true (lin_is c.lin) k.0)
    ∙ reached_at may_run (Memory c) c cells a refl k.1 t is

need_same : {A : Type 0} (f : FailCause) (o : Option A) (k m : A → Plan)
    → ((x : A) → o ≡ Some x → k x ≡ m x) → need f o k ≡ need f o m
unfolding need
need_same f None k m h = refl
need_same f (Some x) k m h = h x refl

ask_same : (f : FailCause) (b : Bool) (p q : Plan) → (b ≡ true → p ≡ q) → ask f b p ≡ ask f b q
unfolding ask
ask_same f true p q h = h refl
ask_same f false p q h = refl

fetch_if : (c : CapFields) (b : Bool) (o p : Option Face) → (b ≡ true → o ≡ p)
    → (if b then fetch_word c o else none F1) ≡ (if b then fetch_word c p else none F1)
fetch_if c true o p k = ap (fetch_word c) (k refl)
fetch_if c false o p k = refl

module _ (apart : ℕ → Type 0) where
  -- faces of cells that are the same but for those set apart, where the second has none that the first lacks
  abbrev FacesBut : (ℕ → Option Face) → (ℕ → Option Face) → Type 0
  FacesBut cs ct = ((a : ℕ) → ¬ (apart a) → ct a ≡ cs a) × ((a : ℕ) → apart a → IsSome (ct a) → IsSome (cs a))

  module _ (cs ct : ℕ → Option Face) (h : FacesBut cs ct) where
    same_or_none : (a : ℕ) (x y : Option Face) → cs a ≡ x → ct a ≡ y → (IsSome (cs a) → ¬ (apart a))
        → ct a ≡ cs a
    same_or_none a (Some x) y e k off = h.0 a (off (ap is_some e))
    same_or_none a None None e k off = k ∙ sym e
    same_or_none a None (Some y) e k off =
        h.0 a (λ p. let bad : is_some {T = Face} None ≡ true = sym (ap is_some e) ∙ h.1 a p (ap is_some k)
        in cc)

    there_same : (o : Option ℕ) → ((a : ℕ) → o ≡ Some a → IsSome (cs a) → ¬ (apart a))
        → face_there ct o ≡ face_there cs o
    there_same None off = refl
    there_same (Some a) off = same_or_none a (cs a) (ct a) refl refl (off a refl)

    fetch_same : (x : Face) → ((a : ℕ) → apart a → ¬ (cell_fetched x cs ≡ Some a)) → fetch x ct ≡ fetch x cs
    fetch_same (Memory c) spare =
        fetch_if c (not (lin_is c.lin) && may_run c.perm) _ _
        (λ b. there_same (target_of (Memory c)) (λ a e is p. spare a p (fetched_at c cs a b e is)))
    fetch_same (Number z) spare = refl
    fetch_same (Seals z) spare = refl
    fetch_same (Sealed z) spare = refl

    plan_same : (i : Instr) (f : Reg → Face) (w : Reg → Option Opened) (next : Word)
        → ((a : ℕ) → apart a → ¬ (cell_used i f cs ≡ Some a))
        → plan i f w (face_there ct (target i f)) next ≡ plan i f w (face_there cs (target i f)) next
    plan_same (Store r1 r2) f w next spare =
        need_same _ _ _ _
        (λ c m. ask_same _ _ _ _
        (λ may. ap (λ o. need F8 o (λ x. moves (R r2) (Cell (address c.addr)) (Some next)))
        (there_same (target_of (f r1))
        (λ a e is p. spare a p (reached_at may_write (f r1) c cs a m may e is)))))
    plan_same (Load r1 r2) f w next spare =
        ask_same _ _ _ _
        (λ free. need_same _ _ _ _
        (λ c m. ask_same _ _ _ _
        (λ may. ap (λ o. need F8 o (λ x. ask F10 (not (face_linear x) || may_write c.perm)
        (moves (Cell (address c.addr)) (R r1) (Some next))))
        (there_same (target_of (f r2))
        (λ a e is p. spare a p
        (ap (λ b. if b then None else reached may_read (f r2) cs) (not-true (is_pc r1) free)
        ∙ reached_at may_read (f r2) c cs a m may e is))))))
    plan_same (Move r1 (InReg r2)) f w next spare = refl
    plan_same (Move r1 (Imm z)) f w next spare = refl
    plan_same _ f w next spare = refl

  -- ---- what it does

  module _ {W : Type 0} (look : W → Word) (plain : Word → W) where
    abbrev Off : Place → Type 0
    Off (R r) = Unit {0}
    Off (Cell a) = ¬ (apart a)

    faces_same : (s t : State W) → SameBut apart s t → faces look t ≡ faces look s
    unfolding faces
    faces_same s t h = ap (λ m r. face_of (look (reg m r))) h.regs

    opens_same : (s t : State W) → SameBut apart s t → opens look t ≡ opens look s
    unfolding opens
    opens_same s t h = ap (λ m r. opened_of (look (reg m r))) h.regs

    is_face : (o : Option W) → is_some (look_face look o) ≡ is_some o
    is_face None = refl
    is_face (Some w) = refl

    cells_but : (s t : State W) → SameBut apart s t → HasNoMore apart s t
        → FacesBut (cell_faces look s) (cell_faces look t)
    unfolding cell_faces
    cells_but s t h more = (
      λ a off. ap (look_face look) (h.cells a off),
      λ a p is. is_face (cell s.cells a) ∙ more a p (sym (is_face (cell t.cells a)) ∙ is),
    )

    word_same : (s t : State W) (p : Place) → Off p → SameBut apart s t
        → word_in plain t p ≡ word_in plain s p
    word_same s t (R r) off h = ap (λ m. reg m r) h.regs
    word_same s t (Cell a) off h = ap (λ o. unwrap_or o (zero_word plain)) (h.cells a off)

    put_same : (s t : State W) (p : Place) (w v : W) → v ≡ w → SameBut apart s t
        → SameBut apart (put s p w) (put t p v)
    put_same s t (R r) w v e h = record {
      regs = ap (λ m. set_reg m r v) h.regs ∙ ap (set_reg s.regs r) e;
      cells = h.cells;
      spans = h.spans;
    }
    put_same s t (Cell b) w v e h = record {
      regs = h.regs;
      cells = λ a off. elim (cases_eq a b) [
        | inl same ↦ rw same (cell-set_same t.cells b v ∙ ap Some e ∙ sym (cell-set_same s.cells b w))
        | inr ne ↦ cell-set_other t.cells b a v ne ∙ h.cells a off ∙ sym (cell-set_other s.cells b a w ne)
      ];
      spans = h.spans;
    }

    clear_by : (b c : Bool) → c ≡ b → (s t : State W) (p : Place) → SameBut apart s t
        → SameBut apart (if b then put s p (zero_word plain) else s)
        (if c then put t p (zero_word plain) else t)
    clear_by true true e s t p h = put_same s t p _ _ refl h
    clear_by false false e s t p h = h
    clear_by true false e s t p h = cc
    clear_by false true e s t p h = cc

    clear_same : (s t : State W) (p : Place) → Off p → SameBut apart s t
        → SameBut apart (clear look plain s p) (clear look plain t p)
    unfolding clear
    clear_same s t p off h = clear_by _ _ (ap (λ w. is_linear (look w)) (word_same s t p off h)) s t p h

    abbrev OffMove : Option Moved → Type 0
    OffMove None = Unit {0}
    OffMove (Some m) = Off m.from

    move_same : (s t : State W) (m : Option Moved) → OffMove m → SameBut apart s t
        → SameBut apart (move_on look plain s m) (move_on look plain t m)
    move_same s t None off h = h
    move_same s t (Some m) off h =
        put_same _ _ m.to _ _ (word_same s t m.from off h) (clear_same s t m.from off h)

    spend_same : (s t : State W) (r : Option Reg) → SameBut apart s t
        → SameBut apart (spend look plain s r) (spend look plain t r)
    spend_same s t None h = h
    spend_same s t (Some r) h = clear_same s t (R r) tt h

    make_same : (s t : State W) (m : Option Made) → SameBut apart s t
        → SameBut apart (make plain s m) (make plain t m)
    make_same s t None h = h
    make_same s t (Some m) h = put_same s t (R m.reg) _ _ refl h

    go_same : (s t : State W) (w : Option Word) → SameBut apart s t
        → SameBut apart (go_on plain s w) (go_on plain t w)
    go_same s t None h = h
    go_same s t (Some w) h = put_same s t (R Pc) _ _ refl h

    perform_same : (s t : State W) (e : Effect) → OffMove e.moved → SameBut apart s t
        → SameBut apart (perform look plain s e) (perform look plain t e)
    unfolding perform
    perform_same s t e off h =
        go_same _ _ e.next
        (make_same _ _ e.second
        (make_same _ _ e.first
        (spend_same _ _ e.also_spent (spend_same _ _ e.spent (move_same s t e.moved off h)))))

    off_move : (at used : Option ℕ) (cells : ℕ → Option Face) → ((a : ℕ) → apart a → ¬ (used ≡ Some a))
        → (m : Option Moved) → ShapeMoved at used cells m → OffMove m
    off_move at used cells spare None h = tt
    off_move at used cells spare (Some m) h =
        elim (m.from) as (λ p. ShapePlace at used cells p → Off p)
        [ R r ↦ λ x. tt | Cell a ↦ λ x p. spare a p x.2 ] h.0

    outcome_same : (s t : State W) (p : Plan) (at used : Option ℕ) (cells : ℕ → Option Face)
        → ((a : ℕ) → apart a → ¬ (used ≡ Some a)) → Gives (Shape at used cells) p → SameBut apart s t
        → EndsAlike apart s t (outcome look plain s p) (outcome look plain t p)
    unfolding pc_at
    outcome_same s t (Fails c) at used cells spare g h =
        (refl, ap (λ fs. pc_of (fs Pc)) (sym (faces_same s t h)))
    outcome_same s t Halts at used cells spare g h = tt
    outcome_same s t (Goes e) at used cells spare g h =
        let shape = Gives-effect g in (
          perform_same s t e (off_move at used cells spare e.moved shape) h,
          λ a p. perform_other look plain s e a (spared look plain at used cells a (spare a p) e.moved shape),
          λ a p. perform_other look plain t e a (spared look plain at used cells a (spare a p) e.moved shape),
        )

    row_same : (s t : State W) (i : Instr) (next : Word) → SameBut apart s t → HasNoMore apart s t
        → ((a : ℕ) → apart a → ¬ (cell_used i (faces look s) (cell_faces look s) ≡ Some a))
        → EndsAlike apart s t (row look plain i next s) (row look plain i next t)
    unfolding row plan_in
    row_same s t i next h more spare =
        let cs = cell_faces look s in
        let ct = cell_faces look t in
        let one : plan i (faces look t) (opens look t) (face_there ct (target i (faces look t))) next
        ≡ plan i (faces look s) (opens look s) (face_there cs (target i (faces look s))) next =
        ap (λ fs. plan i fs (opens look t) (face_there ct (target i fs)) next) (faces_same s t h)
        ∙ ap (λ o. plan i (faces look s) o (face_there ct (target i (faces look s))) next) (opens_same s t h)
        ∙ plan_same cs ct (cells_but s t h more) i (faces look s) (opens look s) next spare in
        rw one (outcome_same s t _ (target i (faces look s)) _ cs spare
        (plan-Shape (faces look s) (opens look s) cs next i) h)

    fetched_same : (s t : State W) (x : Fetched) → SameBut apart s t → HasNoMore apart s t
        → ((a : ℕ) → apart a → ¬ (used_by x (faces look s) (cell_faces look s) ≡ Some a))
        → EndsAlike apart s t (step_fetched look plain s x) (step_fetched look plain t x)
    unfolding pc_at
    fetched_same s t (none c) h more spare = (refl, ap (λ fs. pc_of (fs Pc)) (sym (faces_same s t h)))
    fetched_same s t (some i next) h more spare = row_same s t i next h more spare

    pub fetch_blind : (s t : State W) → SameBut apart s t → HasNoMore apart s t
        → ((a : ℕ) → apart a → ¬ (Touches look s a))
        → fetch (faces look t Pc) (cell_faces look t) ≡ fetch (faces look s Pc) (cell_faces look s)
    fetch_blind s t h more spare =
        ap (λ fs. fetch (fs Pc) (cell_faces look t)) (faces_same s t h)
        ∙ fetch_same (cell_faces look s) (cell_faces look t) (cells_but s t h more) (faces look s Pc)
        (λ a p e. spare a p (inl e))

    pub step_blind : (s t : State W) → SameBut apart s t → HasNoMore apart s t
        → ((a : ℕ) → apart a → ¬ (Touches look s a))
        → EndsAlike apart s t (step_of look plain s) (step_of look plain t)
    unfolding step_of
    step_blind s t h more spare =
        rw (fetch_blind s t h more spare) (fetched_same s t _ h more (λ a p e. spare a p (inr e)))

    -- ---- so many steps

    pub more_after : (s t u v : State W) → HasNoMore apart s t → Keeps apart s u → Keeps apart t v
        → HasNoMore apart u v
    more_after s t u v more k m a p is = ap is_some (k a p) ∙ more a p (sym (ap is_some (m a p)) ∙ is)

    then_alike : (s t u v : State W) (o q : Outcome W) → Keeps apart s u → Keeps apart t v
        → EndsAlike apart u v o q → EndsAlike apart s t o q
    then_alike s t u v (went x) (went y) k m h =
        (h.0, λ a p. h.1 a p ∙ k a p, λ a p. h.2 a p ∙ m a p)
    then_alike s t u v halted halted k m h = tt
    then_alike s t u v (failed c at) (failed d to) k m h = h
    then_alike s t u v (went x) halted k m h = absurd h
    then_alike s t u v (went x) (failed d to) k m h = absurd h
    then_alike s t u v halted (went y) k m h = absurd h
    then_alike s t u v halted (failed d to) k m h = absurd h
    then_alike s t u v (failed c at) (went y) k m h = absurd h
    then_alike s t u v (failed c at) halted k m h = absurd h

    pub run_blind : (n : ℕ) (s t : State W) → SameBut apart s t → HasNoMore apart s t
        → ((a : ℕ) → apart a → Untouched look plain a n s)
        → EndsAlike apart s t (run_of look plain n s) (run_of look plain n t)
    unfolding run_of
    run_blind zero s t h more spare = (h, λ a p. refl, λ a p. refl)
    run_blind (suc n) s t h more spare =
        by_step (step_of look plain s) (step_of look plain t)
        (step_blind s t h more (λ a p. (spare a p).0)) (λ u e a p. after_went _ _ u (spare a p).1 e)
        (λ u v. run_blind n u v)
      where
        by_step : (o q : Outcome W) → EndsAlike apart s t o q
            → ((u : State W) → o ≡ went u → (a : ℕ) → apart a → Untouched look plain a n u)
            → ((u v : State W) → SameBut apart u v → HasNoMore apart u v
            → ((a : ℕ) → apart a → Untouched look plain a n u)
            → EndsAlike apart u v (run_of look plain n u) (run_of look plain n v))
            → EndsAlike apart s t (and_then o (run_of look plain n)) (and_then q (run_of look plain n))
        by_step (went u) (went v) k un again =
            then_alike s t u v _ _ k.1 k.2 (again u v k.0 (more_after s t u v more k.1 k.2) (un u refl))
        by_step halted halted k un again = tt
        by_step (failed c at) (failed d to) k un again = k
        by_step (went x) halted k un again = absurd k
        by_step (went x) (failed d to) k un again = absurd k
        by_step halted (went y) k un again = absurd k
        by_step halted (failed d to) k un again = absurd k
        by_step (failed c at) (went y) k un again = absurd k
        by_step (failed c at) halted k un again = absurd k

pub steps_are_blind : {W : Type 0} (look : W → Word) (plain : Word → W) → StepsAreBlind look plain
steps_are_blind look plain test s t h more spare =
    step_blind (λ a. IsTrue (test a)) look plain s t h more spare

pub runs_are_blind : {W : Type 0} (look : W → Word) (plain : Word → W) → RunsAreBlind look plain
runs_are_blind look plain test n s t h more spare =
    run_blind (λ a. IsTrue (test a)) look plain n s t h more spare
