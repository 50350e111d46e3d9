-- A map of words that the table can't tell apart goes through every row, the fetch and the step.
use Rattle.std.proofs.Common.{◌≡◌, ℕ, Bool, true, false, not, ◌&&◌, refl, sym, ap, ◌∙◌, pos, inl, inr}
use Rattle.std.specs.Prelude.{Option, Some, None, if◌then◌else◌, unwrap_or}
use Rattle.std.proofs.lemmas.Bool.{cases_eq}
use Rattle.cap_words.specs.declared.Word.{Word}
use Rattle.cap_words.specs.declared.Word.TheVariants.{Int, Mem, Seal, Sealed as SealedWord}
use Rattle.cap_words.specs.declared.Sealable.TheVariants.{Mem as MemIn, Seal as SealIn}
use Rattle.cap_words.specs.declared.Face.{Face}
use Rattle.cap_words.specs.declared.Face.TheVariants.{Number, Memory, Seals, Sealed}
use Rattle.cap_words.specs.declared.Opened.{Opened}
use Rattle.cap_words.specs.Face.{face_of}
use Rattle.cap_words.specs.Faces.{face_linear, target_of, may_run}
use Rattle.cap_words.specs.Linear.{is_linear, zero_word, lin_is}
use Rattle.lcm_isa.specs.declared.Reg.{Reg}
use Rattle.lcm_isa.specs.declared.Reg.TheVariants.{Pc}
use Rattle.lcm_isa.specs.declared.Operand.TheVariants.{R as InReg, Imm}
use Rattle.lcm_isa.specs.declared.Instr.{Instr}
use Rattle.lcm_isa.specs.declared.Instr.TheVariants.{Fail, Halt, Jmp, Jnz, Gettype, Geta, Getb, Gete, Getp}
use Rattle.lcm_isa.specs.declared.Instr.TheVariants.{Getlin, Move, Store, Load, Cca, Restrict, Lt, Plus}
use Rattle.lcm_isa.specs.declared.Instr.TheVariants.{Minus, Seta2b, Xjmp, Cseal, Split, Splice}
use Rattle.lcm_machine.specs.declared.Place.{Place}
use Rattle.lcm_machine.specs.declared.Place.TheVariants.{R, Cell}
use Rattle.lcm_machine.specs.declared.FailCause.TheVariants.{F1}
use Rattle.lcm_machine.specs.Plan.{Plan, Fails, Halts, Goes}
use Rattle.lcm_machine.specs.declared.plan.Effect.{Effect}
use Rattle.lcm_machine.specs.declared.plan.Made.{Made}
use Rattle.lcm_machine.specs.declared.plan.Moved.{Moved}
use Rattle.lcm_machine.specs.Maps.{State}
use Rattle.lcm_machine.specs.Places.{reg, set_reg}
use Rattle.lcm_machine.specs.Cells.{cell, set_cell}
use Rattle.lcm_machine.specs.Table.{plan, target}
use Rattle.lcm_machine.specs.Row.{word_in, put, clear, move_on, spend, make, go_on, perform, faces, opens}
use Rattle.lcm_machine.specs.Row.{cell_faces, look_face, face_there, plan_in, outcome, row, pc_of, pc_at}
use Rattle.lcm_machine.specs.Row.{fetch, fetch_word, Fetched, none, some, step_fetched, step_of}
use Rattle.lcm_machine.specs.Mapped.{mapped_or, IsMapped, KeepsPlain, SameFaces, SameContents, IsFree}
use Rattle.lcm_machine.specs.Mapped.{EndsMapped, RowCommutes, FetchCommutes, StepCommutes}
use Rattle.lcm_machine.proofs.RegLemmas.{cases_reg, reg-set_same, reg-set_other}
use Rattle.lcm_machine.proofs.CellLemmas.{cell-set_same, cell-set_other}
use Rattle.lcm_machine.proofs.Plans.{Gives, Gives-effect, Shape, ShapePlace, ShapeMoved, plan-Shape}

-- a word's linearity is that of its face
pub is_linear-face : (w : Word) → is_linear w ≡ face_linear (face_of w)
is_linear-face (Int n) = refl
is_linear-face (Mem c) = refl
is_linear-face (Seal s) = refl
is_linear-face (SealedWord o (MemIn c)) = refl
is_linear-face (SealedWord o (SealIn s)) = refl

-- a fetch reads one cell alone
pub fetch_by : (x : Face) (cells more : ℕ → Option Face)
    → face_there cells (target_of x) ≡ face_there more (target_of x) → fetch x cells ≡ fetch x more
fetch_by (Memory c) cells more e =
    ap (λ o. if not (lin_is c.lin) && may_run c.perm then fetch_word c o else none F1) e
fetch_by (Number c) cells more e = refl
fetch_by (Seals c) cells more e = refl
fetch_by (Sealed c) cells more e = refl

-- what an instruction opens
abbrev pub OpensSame : (Reg → Option Opened) → (Reg → Option Opened) → Instr → Type 0
OpensSame v w (Xjmp r1 r2) = (v r1 ≡ w r1) × (v r2 ≡ w r2)
OpensSame v w _ = Unit {0}

-- only `xjmp` opens words
pub plan-opens : (i : Instr) (f : Reg → Face) (v w : Reg → Option Opened) (t : Option Face) (next : Word)
    → OpensSame v w i → plan i f v t next ≡ plan i f w t next
plan-opens Fail f v w t next h = refl
plan-opens Halt f v w t next h = refl
plan-opens (Jmp r1) f v w t next h = refl
plan-opens (Jnz r1 r2) f v w t next h = refl
plan-opens (Gettype r1 r2) f v w t next h = refl
plan-opens (Geta r1 r2) f v w t next h = refl
plan-opens (Getb r1 r2) f v w t next h = refl
plan-opens (Gete r1 r2) f v w t next h = refl
plan-opens (Getp r1 r2) f v w t next h = refl
plan-opens (Getlin r1 r2) f v w t next h = refl
plan-opens (Move r1 (InReg r2)) f v w t next h = refl
plan-opens (Move r1 (Imm z)) f v w t next h = refl
plan-opens (Store r1 r2) f v w t next h = refl
plan-opens (Load r1 r2) f v w t next h = refl
plan-opens (Cca r1 n) f v w t next h = refl
plan-opens (Restrict r1 n) f v w t next h = refl
plan-opens (Lt r1 r2 n) f v w t next h = refl
plan-opens (Plus r1 r2 n) f v w t next h = refl
plan-opens (Minus r1 r2 n) f v w t next h = refl
plan-opens (Seta2b r1) f v w t next h = refl
plan-opens (Xjmp r1 r2) f v w t next h = rw (h.0, h.1) refl
plan-opens (Cseal r1 r2) f v w t next h = refl
plan-opens (Split r1 r2 r3 n) f v w t next h = refl
plan-opens (Splice r1 r2 r3) f v w t next h = refl

module _ {W V : Type 0} (look : W → Word) (look' : V → Word) (f : W → V) (beside : ℕ → Option V) where
  -- a word, and the one that it is mapped to, of the same face
  abbrev Pair : W → V → Type 0
  Pair w v = (v ≡ f w) × (face_of (look' v) ≡ face_of (look w))

  abbrev CellPair : Option W → Option V → Option V → Type 0
  CellPair None o e = o ≡ e
  CellPair (Some w) None e = ⊥
  CellPair (Some w) (Some v) e = Pair w v

  -- each place of one state and of the other holds a pair
  abbrev Twin : State W → State V → Type 0
  Twin s t = ((r : Reg) → Pair (reg s.regs r) (reg t.regs r))
      × ((a : ℕ) → CellPair (cell s.cells a) (cell t.cells a) (beside a)) × (t.spans ≡ s.spans)

  cell_pair : (o : Option W) (q e : Option V) → q ≡ mapped_or f o e
      → ((w : W) → o ≡ Some w → face_of (look' (f w)) ≡ face_of (look w)) → CellPair o q e
  cell_pair None q e h k = h
  cell_pair (Some w) q e h k = rw h (refl, k w refl)

  twin : (s : State W) (t : State V) → IsMapped f beside s t → SameFaces look look' f s → Twin s t
  twin s t h k = (
    λ r. (h.regs r, ap (λ v. face_of (look' v)) (h.regs r) ∙ k (R r) (reg s.regs r) refl),
    λ a. cell_pair (cell s.cells a) (cell t.cells a) (beside a) (h.cells a) (k (Cell a)),
    h.spans,
  )

  cell_mapped : (o : Option W) (q e : Option V) → CellPair o q e → q ≡ mapped_or f o e
  cell_mapped None q e h = h
  cell_mapped (Some w) None e h = absurd h
  cell_mapped (Some w) (Some v) e h = ap Some h.0

  pair_face : (w : W) (v : V) → Pair w v → face_of (look' (f w)) ≡ face_of (look w)
  pair_face w v h = ap (λ u. face_of (look' u)) (sym h.0) ∙ h.1

  cell_face : (o : Option W) (q e : Option V) → CellPair o q e → (w : W) → o ≡ Some w
      → face_of (look' (f w)) ≡ face_of (look w)
  cell_face None q e h w i = cc
  cell_face (Some x) None e h w i = absurd h
  cell_face (Some x) (Some v) e h w i = let same : x ≡ w = cc in rw (← same) (pair_face x v h)

  place_face : (s : State W) (t : State V) → Twin s t → SameFaces look look' f s
  place_face s t h (R r) w e = let same : reg s.regs r ≡ w =
      cc in rw (← same) (pair_face (reg s.regs r) (reg t.regs r) (h.0 r))
  place_face s t h (Cell a) w e = cell_face (cell s.cells a) (cell t.cells a) (beside a) (h.1 a) w e

  mapped : (s : State W) (t : State V) → Twin s t → IsMapped f beside s t × SameFaces look look' f s
  mapped s t h = (
    record {
      regs = λ r. (h.0 r).0;
      cells =
          λ a. cell_mapped (cell s.cells a) (cell t.cells a) (beside a) (h.1 a);
      spans = h.2;
    },
    place_face s t h,
  )

  put_reg : (s : State W) (t : State V) (r : Reg) (w : W) (v : V) → Pair w v → Twin s t → (d : Reg)
      → Pair (reg (set_reg s.regs r w) d) (reg (set_reg t.regs r v) d)
  put_reg s t r w v k h d =
      elim (cases_reg d r) as (λ _. Pair (reg (set_reg s.regs r w) d) (reg (set_reg t.regs r v) d)) [
        | inl same ↦ rw same (rw (reg-set_same s.regs r w, reg-set_same t.regs r v) k)
        | inr ne ↦ rw (reg-set_other s.regs r d w ne, reg-set_other t.regs r d v ne) (h.0 d)
      ]

  put_cell : (s : State W) (t : State V) (a : ℕ) (w : W) (v : V) → Pair w v → Twin s t → (q : ℕ)
      → CellPair (cell (set_cell s.cells a w) q) (cell (set_cell t.cells a v) q) (beside q)
  put_cell s t a w v k h q =
      elim (cases_eq q a)
      as (λ _. CellPair (cell (set_cell s.cells a w) q) (cell (set_cell t.cells a v) q) (beside q)) [
        | inl same ↦ rw same (rw (cell-set_same s.cells a w, cell-set_same t.cells a v) k)
        | inr ne ↦ rw (cell-set_other s.cells a q w ne, cell-set_other t.cells a q v ne) (h.1 q)
      ]

  put_twin : (s : State W) (t : State V) (p : Place) (w : W) (v : V) → Pair w v → Twin s t
      → Twin (put s p w) (put t p v)
  put_twin s t (R r) w v k h = (put_reg s t r w v k h, h.1, h.2)
  put_twin s t (Cell a) w v k h = (h.0, put_cell s t a w v k h, h.2)

  linear_pair : (w : W) (v : V) → Pair w v → is_linear (look' v) ≡ is_linear (look w)
  linear_pair w v h = is_linear-face (look' v) ∙ ap face_linear h.1 ∙ sym (is_linear-face (look w))

  faces_twin : (s : State W) (t : State V) → Twin s t → faces look' t ≡ faces look s
  unfolding faces
  faces_twin s t h = λ i r. (h.0 r).1 i

  there_pair : (o : Option W) (q e : Option V) → CellPair o q e → e ≡ None
      → look_face look' q ≡ look_face look o
  there_pair None q e h k = ap (look_face look') (h ∙ k)
  there_pair (Some w) None e h k = absurd h
  there_pair (Some w) (Some v) e h k = ap Some h.1

  there_twin : (s : State W) (t : State V) (at : Option ℕ) → IsFree beside at → Twin s t
      → face_there (cell_faces look' t) at ≡ face_there (cell_faces look s) at
  unfolding cell_faces
  there_twin s t None k h = refl
  there_twin s t (Some a) k h = there_pair (cell s.cells a) (cell t.cells a) (beside a) (h.1 a) (k a refl)

  pub fetch_mapped : (s : State W) (t : State V) → IsMapped f beside s t → SameFaces look look' f s
      → IsFree beside (target_of (faces look s Pc))
      → fetch (faces look' t Pc) (cell_faces look' t) ≡ fetch (faces look s Pc) (cell_faces look s)
  fetch_mapped s t m k free =
      let h = twin s t m k in
      ap (λ g. fetch (g Pc) (cell_faces look' t)) (faces_twin s t h)
      ∙ fetch_by (faces look s Pc) _ _ (there_twin s t (target_of (faces look s Pc)) free h)

  module _ (plain : Word → W) (plain' : Word → V) (seen : (x : Word) → look (plain x) ≡ x)
      (seen' : (x : Word) → look' (plain' x) ≡ x) (keeps : KeepsPlain plain plain' f) where
    plain_pair : (x : Word) → Pair (plain x) (plain' x)
    plain_pair x = (sym (keeps x), ap face_of (seen' x ∙ sym (seen x)))

    -- a place that is no cell beside
    abbrev FreePlace : Place → Type 0
    FreePlace (R r) = Unit {0}
    FreePlace (Cell a) = beside a ≡ None

    cell_word : (o : Option W) (q e : Option V) → CellPair o q e → e ≡ None
        → Pair (unwrap_or o (zero_word plain)) (unwrap_or q (zero_word plain'))
    cell_word None q e h k = rw (h ∙ k) (plain_pair (Int (pos 0)))
    cell_word (Some w) None e h k = absurd h
    cell_word (Some w) (Some v) e h k = h

    word_twin : (s : State W) (t : State V) (p : Place) → FreePlace p → Twin s t
        → Pair (word_in plain s p) (word_in plain' t p)
    word_twin s t (R r) k h = h.0 r
    word_twin s t (Cell a) k h = cell_word (cell s.cells a) (cell t.cells a) (beside a) (h.1 a) k

    clear_by : (b c : Bool) → c ≡ b → (s : State W) (t : State V) (p : Place) → Twin s t
        → Twin (if b then put s p (zero_word plain) else s) (if c then put t p (zero_word plain') else t)
    clear_by true true e s t p h = put_twin s t p _ _ (plain_pair (Int (pos 0))) h
    clear_by false false e s t p h = h
    clear_by true false e s t p h = cc
    clear_by false true e s t p h = cc

    clear_twin : (s : State W) (t : State V) (p : Place) → FreePlace p → Twin s t
        → Twin (clear look plain s p) (clear look' plain' t p)
    unfolding clear
    clear_twin s t p k h = clear_by _ _ (linear_pair _ _ (word_twin s t p k h)) s t p h

    abbrev FreeMove : Option Moved → Type 0
    FreeMove None = Unit {0}
    FreeMove (Some m) = FreePlace m.from

    move_twin : (s : State W) (t : State V) (m : Option Moved) → FreeMove m → Twin s t
        → Twin (move_on look plain s m) (move_on look' plain' t m)
    move_twin s t None k h = h
    move_twin s t (Some m) k h = put_twin _ _ m.to _ _ (word_twin s t m.from k h) (clear_twin s t m.from k h)

    spend_twin : (s : State W) (t : State V) (r : Option Reg) → Twin s t
        → Twin (spend look plain s r) (spend look' plain' t r)
    spend_twin s t None h = h
    spend_twin s t (Some r) h = clear_twin s t (R r) tt h

    make_twin : (s : State W) (t : State V) (m : Option Made) → Twin s t
        → Twin (make plain s m) (make plain' t m)
    make_twin s t None h = h
    make_twin s t (Some m) h = put_twin s t (R m.reg) _ _ (plain_pair m.word) h

    go_twin : (s : State W) (t : State V) (m : Option Word) → Twin s t
        → Twin (go_on plain s m) (go_on plain' t m)
    go_twin s t None h = h
    go_twin s t (Some w) h = put_twin s t (R Pc) _ _ (plain_pair w) h

    perform_twin : (s : State W) (t : State V) (e : Effect) → FreeMove e.moved → Twin s t
        → Twin (perform look plain s e) (perform look' plain' t e)
    unfolding perform
    perform_twin s t e k h =
        go_twin _ _ e.next
        (make_twin _ _ e.second
        (make_twin _ _ e.first
        (spend_twin _ _ e.also_spent (spend_twin _ _ e.spent (move_twin s t e.moved k h)))))

    free_move : (at used : Option ℕ) (cells : ℕ → Option Face) → IsFree beside at → (m : Option Moved)
        → ShapeMoved at used cells m → FreeMove m
    free_move at used cells k None h = tt
    free_move at used cells k (Some m) h = elim (m.from) as (λ p. ShapePlace at used cells p → FreePlace p)
        [ R r ↦ λ x. tt | Cell a ↦ λ x. k a x.0 ] h.0

    outcome_twin : (s : State W) (t : State V) (p : Plan) (at used : Option ℕ) (cells : ℕ → Option Face)
        → IsFree beside at → Gives (Shape at used cells) p → Twin s t
        → EndsMapped look look' f beside (outcome look plain s p) (outcome look' plain' t p)
    unfolding pc_at
    outcome_twin s t (Fails c) at used cells k g h = (refl, ap (λ fs. pc_of (fs Pc)) (sym (faces_twin s t h)))
    outcome_twin s t Halts at used cells k g h = tt
    outcome_twin s t (Goes e) at used cells k g h =
        mapped _ _ (perform_twin s t e (free_move at used cells k e.moved (Gives-effect g)) h)

    opens_same : (s : State W) (t : State V) → IsMapped f beside s t → (i : Instr)
        → SameContents look look' f s i → OpensSame (opens look' t) (opens look s) i
    unfolding opens
    opens_same s t m (Xjmp r1 r2) h = rw (m.regs r1, m.regs r2) h
    opens_same s t m Fail h = tt
    opens_same s t m Halt h = tt
    opens_same s t m (Jmp r1) h = tt
    opens_same s t m (Jnz r1 r2) h = tt
    opens_same s t m (Gettype r1 r2) h = tt
    opens_same s t m (Geta r1 r2) h = tt
    opens_same s t m (Getb r1 r2) h = tt
    opens_same s t m (Gete r1 r2) h = tt
    opens_same s t m (Getp r1 r2) h = tt
    opens_same s t m (Getlin r1 r2) h = tt
    opens_same s t m (Move r1 n) h = tt
    opens_same s t m (Store r1 r2) h = tt
    opens_same s t m (Load r1 r2) h = tt
    opens_same s t m (Cca r1 n) h = tt
    opens_same s t m (Restrict r1 n) h = tt
    opens_same s t m (Lt r1 r2 n) h = tt
    opens_same s t m (Plus r1 r2 n) h = tt
    opens_same s t m (Minus r1 r2 n) h = tt
    opens_same s t m (Seta2b r1) h = tt
    opens_same s t m (Cseal r1 r2) h = tt
    opens_same s t m (Split r1 r2 r3 n) h = tt
    opens_same s t m (Splice r1 r2 r3) h = tt

    pub row_mapped : (s : State W) (t : State V) (i : Instr) (next : Word) → IsMapped f beside s t
        → SameFaces look look' f s → SameContents look look' f s i → IsFree beside (target i (faces look s))
        → EndsMapped look look' f beside (row look plain i next s) (row look' plain' i next t)
    unfolding row plan_in
    row_mapped s t i next m k same free =
        let h = twin s t m k in
        let one : plan i (faces look' t) (opens look' t)
        (face_there (cell_faces look' t) (target i (faces look' t))) next ≡ plan i (faces look s)
        (opens look s) (face_there (cell_faces look s) (target i (faces look s))) next =
        ap (λ fs. plan i fs (opens look' t) (face_there (cell_faces look' t) (target i fs)) next)
        (faces_twin s t h)
        ∙ ap (λ c. plan i (faces look s) (opens look' t) c next)
        (there_twin s t (target i (faces look s)) free h)
        ∙ plan-opens i (faces look s) (opens look' t) (opens look s) _ next (opens_same s t m i same) in
        rw one (outcome_twin s t _ (target i (faces look s)) _ (cell_faces look s)
        free (plan-Shape (faces look s) (opens look s) (cell_faces look s) next i) h)

    fetched_mapped : (s : State W) (t : State V) (x : Fetched) → IsMapped f beside s t
        → SameFaces look look' f s
        → ((i : Instr) (next : Word) → x ≡ some i next → SameContents look look' f s i
        × IsFree beside (target i (faces look s)))
        → EndsMapped look look' f beside (step_fetched look plain s x) (step_fetched look' plain' t x)
    unfolding pc_at
    fetched_mapped s t (none c) m k q = (refl, ap (λ fs. pc_of (fs Pc)) (sym (faces_twin s t (twin s t m k))))
    fetched_mapped s t (some i next) m k q = let a = q i next refl in row_mapped s t i next m k a.0 a.1

    pub step_mapped : (s : State W) (t : State V) → IsMapped f beside s t → SameFaces look look' f s
        → IsFree beside (target_of (faces look s Pc))
        → ((i : Instr) (next : Word) → fetch (faces look s Pc) (cell_faces look s) ≡ some i next
        → SameContents look look' f s i × IsFree beside (target i (faces look s)))
        → EndsMapped look look' f beside (step_of look plain s) (step_of look' plain' t)
    unfolding step_of
    step_mapped s t m k free q = rw (fetch_mapped s t m k free) (fetched_mapped s t _ m k q)

module _ {W V : Type 0} (look : W → Word) (plain : Word → W) (look' : V → Word) (plain' : Word → V)
    (seen : (x : Word) → look (plain x) ≡ x) (seen' : (x : Word) → look' (plain' x) ≡ x) where
  pub row_commutes : RowCommutes look plain look' plain'
  row_commutes f beside s t i next keeps m k same free =
      row_mapped look look' f beside plain plain' seen seen' keeps s t i next m k same free

  pub step_commutes : StepCommutes look plain look' plain'
  step_commutes f beside s t keeps m k free q =
      step_mapped look look' f beside plain plain' seen seen' keeps s t m k free q

pub fetch_commutes : {W V : Type 0} (look : W → Word) (look' : V → Word) → FetchCommutes look look'
fetch_commutes look look' f beside s t m k free = fetch_mapped look look' f beside s t m k free
