-- A run that goes without a cell doesn't touch it where it is there.
use Rattle.std.proofs.Common.{◌≡◌, ◌≢◌, ◌⊎◌, inl, inr, ℕ, zero, suc, ◌+◌, true, false, Option, Some, None}
use Rattle.std.proofs.Common.{refl, sym, ap, ◌∙◌, subst, arith, is_some, IsSome, eq-eqb, ne_eqb}
use Rattle.std.specs.Prelude.{Bool, if◌then◌else◌, ◌==◌, not, ◌&&◌}
use Rattle.std.proofs.lemmas.Bool.{cases_eq}
use Rattle.cap_words.specs.declared.Word.{Word}
use Rattle.cap_words.specs.declared.Opened.{Opened}
use Rattle.cap_words.specs.declared.Face.{Face}
use Rattle.cap_words.specs.declared.Face.TheVariants.{Number, Memory, Seals, Sealed}
use Rattle.cap_words.specs.Face.{face_of}
use Rattle.cap_words.specs.Faces.{target_of, may_run}
use Rattle.cap_words.specs.Linear.{lin_is}
use Rattle.lcm_isa.specs.declared.Reg.{Reg}
use Rattle.lcm_isa.specs.declared.Reg.TheVariants.{Pc}
use Rattle.lcm_isa.specs.declared.Instr.{Instr}
use Rattle.lcm_isa.specs.declared.Instr.TheVariants.{Store, Load, Xjmp}
use Rattle.lcm_machine.specs.declared.FailCause.TheVariants.{F1}
use Rattle.lcm_machine.specs.Plan.{Plan, Fails, Halts, Goes}
use Rattle.lcm_machine.specs.Maps.{State}
use Rattle.lcm_machine.specs.Places.{reg}
use Rattle.lcm_machine.specs.Cells.{cell, drop_cell}
use Rattle.lcm_machine.specs.Table.{plan, target}
use Rattle.lcm_machine.specs.Mapped.{mapped_or, IsMapped, IsFree, SameFaces, SameContents, EndsMapped}
use Rattle.lcm_machine.specs.Row.{faces, cell_faces, look_face, face_there, opens, plan_in, outcome, row}
use Rattle.lcm_machine.specs.Row.{Outcome, went, halted, failed, fetch, none, some, fetch_word, step_of}
use Rattle.lcm_machine.specs.Runs.{and_then, run_of}
use Rattle.lcm_machine.specs.Ends.{After}
use Rattle.lcm_machine.specs.Touched.{Touches, Untouched, RunsAreQuiet}
use Rattle.lcm_machine.proofs.CellLemmas.{cell-drop_other, cell_dropped}
use Rattle.lcm_machine.proofs.Plans.{Gives, gives_goes, Gives-effect, Gives-ask, Gives-need}
use Rattle.lcm_machine.proofs.Commute.{step_mapped, fetch_commutes}
use Rattle.lcm_machine.proofs.TouchLemmas.{there_same, row_cells, fetched_row, touched_by, after_went}
use Rattle.lcm_machine.proofs.TouchLemmas.{after_each}

-- ---- cells that a step needs

fetch_there : (x : Face) (cells : ℕ → Option Face) (n : Instr) (next : Word) → fetch x cells ≡ some n next
    → (q : ℕ) × (target_of x ≡ Some q) × IsSome (cells q)
fetch_there (Number z) cells n next e = cc
fetch_there (Seals z) cells n next e = cc
fetch_there (Sealed z) cells n next e = cc
fetch_there (Memory c) cells n next e = by_run (not (lin_is c.lin) && may_run c.perm) e
  where
    by_target : (t : Option ℕ) → target_of (Memory c) ≡ t → fetch_word c (face_there cells t) ≡ some n next
        → (q : ℕ) × (target_of (Memory c) ≡ Some q) × IsSome (cells q)
    by_target None m h = cc
    by_target (Some q) m h = (q, m, by_face (cells q) h)
      where
        by_face : (f : Option Face) → fetch_word c f ≡ some n next → IsSome f
        by_face None k = cc
        by_face (Some f) k = refl

    by_run : (b : Bool)
        → (if b then fetch_word c (face_there cells (target_of (Memory c))) else none F1) ≡ some n next
        → (q : ℕ) × (target_of (Memory c) ≡ Some q) × IsSome (cells q)
    by_run true h = by_target (target_of (Memory c)) refl h
    by_run false h = cc

there_is : (cells : ℕ → Option Face) (t : Option ℕ) (q : ℕ) (x : Face) → t ≡ Some q
    → face_there cells t ≡ Some x → IsSome (cells q)
there_is cells None q x e h = cc
there_is cells (Some p) q x e h = let m : p ≡ q = cc in ap (λ y. is_some (cells y)) (sym m) ∙ ap is_some h

plan_there : (f : Reg → Face) (w : Reg → Option Opened) (cells : ℕ → Option Face) (next : Word) (i : Instr)
    (q : ℕ) → target i f ≡ Some q
    → Gives (λ e. IsSome (cells q)) (plan i f w (face_there cells (target i f)) next)
plan_there f w cells next (Store r1 r2) q m =
    Gives-need _ _ _
    (λ c _. Gives-ask _ _ _
    (λ _. Gives-need _ _ _ (λ x h. gives_goes (there_is cells (target_of (f r1)) q x m h))))
plan_there f w cells next (Load r1 r2) q m =
    Gives-ask _ _ _
    (λ _. Gives-need _ _ _
    (λ c _. Gives-ask _ _ _
    (λ _. Gives-need _ _ _
    (λ x h. Gives-ask _ _ _ (λ _. gives_goes (there_is cells (target_of (f r2)) q x m h))))))
plan_there f w cells next _ q m = cc

module _ {W : Type 0} (look : W → Word) (plain : Word → W) where
  pub planned : (s t : State W) (P : Type 0) (p : Plan) → Gives (λ e. P) p → outcome look plain s p ≡ went t
      → P
  planned s t P (Fails f) g e = cc
  planned s t P Halts g e = cc
  planned s t P (Goes x) g e = Gives-effect g

  has_cell : (o : Option W) → IsSome (look_face look o) → IsSome o
  has_cell None h = h
  has_cell (Some w) h = refl

  -- a load or store that goes has its cell, and so has a fetch
  pub row_there : (s t : State W) (n : Instr) (next : Word) (q : ℕ) → row look plain n next s ≡ went t
      → target n (faces look s) ≡ Some q → IsSome (cell s.cells q)
  unfolding row plan_in cell_faces
  row_there s t n next q e m =
      has_cell (cell s.cells q)
      (planned s t (IsSome (look_face look (cell s.cells q)))
      _ (plan_there (faces look s) (opens look s) (λ y. look_face look (cell s.cells y)) next n q m) e)

  pub pc_there : (s : State W) (n : Instr) (next : Word)
      → fetch (faces look s Pc) (cell_faces look s) ≡ some n next → (q : ℕ)
      × (target_of (faces look s Pc) ≡ Some q) × IsSome (cell s.cells q)
  unfolding cell_faces
  pc_there s n next e = let k = fetch_there (faces look s Pc) (λ y. look_face look (cell s.cells y))
      n next e in (k.0, k.1, has_cell (cell s.cells k.0) k.2)

-- ---- a state without a cell, and one with it

-- the one lacks the cell at an address, and has all else of the other
pub record Less {W : Type 0} (a : ℕ) (s t : State W) : Type 0 where
  pub regs : (r : Reg) → reg t.regs r ≡ reg s.regs r
  pub here : cell s.cells a ≡ None
  pub others : (q : ℕ) → q ≢ a → cell t.cells q ≡ cell s.cells q
  pub spans : t.spans ≡ s.spans

-- a state without the cell
abbrev pub lacking : {W : Type 0} → ℕ → State W → State W
lacking a t = record t { cells = drop_cell t.cells a }

pub lacks : {W : Type 0} (a : ℕ) (t : State W) → Less a (lacking a t) t
lacks a t =
    record {
      regs = λ r. refl;
      here = cell_dropped t.cells a;
      others =
          λ q ne. sym (cell-drop_other t.cells a q ne);
      spans = refl;
    }

mapped_none : {W : Type 0} (o : Option W) → mapped_or (λ w. w) o None ≡ o
mapped_none None = refl
mapped_none (Some w) = refl

module _ {W : Type 0} (look : W → Word) (plain : Word → W) (seen : (x : Word) → look (plain x) ≡ x) (a : ℕ)
  where
    beside_of : Option W → ℕ → Option W
    beside_of o q = if q == a then o else None

    as_mapped : (s t : State W) → Less a s t → IsMapped (λ w. w) (beside_of (cell t.cells a)) s t
    unfolding beside_of
    as_mapped s t h = record {
      regs = h.regs;
      cells = λ q.
          elim (cases_eq q a)
          as (λ _. cell t.cells q ≡ mapped_or (λ w. w) (cell s.cells q)
          (if q == a then cell t.cells a else None)) [
            | inl e ↦ rw (e, h.here, eq-eqb a a refl) refl
            | inr ne ↦ rw (ne_eqb q a ne) (h.others q ne ∙ sym (mapped_none (cell s.cells q)))
          ];
      spans = h.spans;
    }

    empty : (s : State W) (q : ℕ) → cell s.cells a ≡ None → q ≡ a → IsSome (cell s.cells q) → ⊥
    empty s q gone e is = let bad : is_some {T = W} None ≡ true =
        sym (ap is_some (ap (cell s.cells) e ∙ gone)) ∙ is in cc

    free_at : (s : State W) (o : Option W) (q : ℕ) → cell s.cells a ≡ None → IsSome (cell s.cells q)
        → beside_of o q ≡ None
    unfolding beside_of
    free_at s o q gone is = elim (cases_eq q a) as (λ _. (if q == a then o else None) ≡ None)
        [ inl e ↦ absurd (empty s q gone e is) | inr ne ↦ rw (ne_eqb q a ne) refl ]

    of_mapped : (s t : State W) (o : Option W) → IsMapped (λ w. w) (beside_of o) s t → cell s.cells a ≡ None
        → Less a s t
    unfolding beside_of
    of_mapped s t o m gone = record {
      regs = m.regs;
      here = gone;
      others = λ q ne. m.cells q ∙ ap (λ b. mapped_or (λ w. w) (cell s.cells q) (if b then o else None))
          (ne_eqb q a ne) ∙ mapped_none (cell s.cells q);
      spans = m.spans;
    }

    same_faces : (s : State W) → SameFaces look look (λ w. w) s
    same_faces s p w e = refl

    contents : (s : State W) (i : Instr) → SameContents look look (λ w. w) s i
    contents s (Xjmp r1 r2) = (refl, refl)
    contents s _ = tt

    same_face : (s t : State W) → Less a s t → (r : Reg) → faces look t r ≡ faces look s r
    unfolding faces
    same_face s t h r = ap (λ w. face_of (look w)) (h.regs r)

    same_target : (s t : State W) → Less a s t → (i : Instr)
        → target i (faces look t) ≡ target i (faces look s)
    same_target s t h (Store r1 r2) = ap target_of (same_face s t h r1)
    same_target s t h (Load r1 r2) = ap target_of (same_face s t h r2)
    same_target s t h _ = refl

    -- one step
    less_step : (s t u : State W) → Less a s t → step_of look plain s ≡ went u → (Touches look t a → ⊥)
        × ((v : State W) → step_of look plain t ≡ went v → Less a u v)
    less_step s t u h e =
        let f = fetched_row look plain s u e in
        let o = cell t.cells a in
        let m = as_mapped s t h in
        let p = pc_there look plain s f.0 f.1 f.2 in
        let free_pc : IsFree (beside_of o) (target_of (faces look s Pc)) = (λ q eq.
        (let same : Some p.0 ≡ Some q = sym p.1 ∙ eq in let k : p.0 ≡ q =
        cc in subst (λ y. beside_of o y ≡ None) k (free_at s o p.0 h.here p.2))) in
        let free_target : (i : Instr) (next : Word)
        → fetch (faces look s Pc) (cell_faces look s) ≡ some i next
        → SameContents look look (λ w. w) s i × IsFree (beside_of o) (target i (faces look s)) =
        (λ i next g. (
          contents s i,
          λ q eq.
              (let same : some f.0 f.1 ≡ some i next = sym f.2 ∙ g in let k : f.0 ≡ i =
              cc in free_at s o q h.here
              (row_there look plain s u f.0 f.1 q f.3 (ap (λ y. target y (faces look s)) k ∙ eq))),
        )) in
        let ends = step_mapped look look (λ w. w) (beside_of o) plain plain seen seen (λ x. refl)
        s t m (same_faces s) free_pc free_target in
        let got = fetch_commutes look look (λ w. w) (beside_of o) s t m (same_faces s) free_pc in
        let gone : cell u.cells a ≡ None =
        none_of (cell u.cells a)
        (there_same s u (row_cells look plain s u f.0 f.1 f.3) a ∙ ap is_some h.here) in (
          λ x. untouched f.0 f.1 f.2 f.3 p.0 p.1 p.2 got (touched_by look t a x),
          λ v ev.
              of_mapped u v o (after ends v ev) gone,
        )
      where
        untouched : (n : Instr) (next : Word) → fetch (faces look s Pc) (cell_faces look s) ≡ some n next
            → row look plain n next s ≡ went u → (q : ℕ) → target_of (faces look s Pc) ≡ Some q
            → IsSome (cell s.cells q)
            → fetch (faces look t Pc) (cell_faces look t) ≡ fetch (faces look s Pc) (cell_faces look s)
            → (target_of (faces look t Pc) ≡ Some a)
            ⊎ ((i : Instr) × (more : Word) × (fetch (faces look t Pc) (cell_faces look t) ≡ some i more)
            × (target i (faces look t) ≡ Some a)) → ⊥
        untouched n next f row_is q tq is got (inl x) =
            (let same : Some q ≡ Some a =
            sym tq ∙ sym (ap target_of (same_face s t h Pc)) ∙ x in let k : q ≡ a =
            cc in empty s q h.here k is)
        untouched n next f row_is q tq is got (inr x) =
            (let same : some n next ≡ some x.0 x.1 = sym f ∙ sym got ∙ x.2 in let k : n ≡ x.0 = cc in
            empty s a h.here refl
            (row_there look plain s u n next a row_is
            (ap (λ y. target y (faces look s)) k ∙ sym (same_target s t h x.0) ∙ x.3)))

        none_of : (x : Option W) → is_some x ≡ false → x ≡ None
        none_of None q = refl
        none_of (Some x) q = cc

        after : EndsMapped look look (λ w. w) (beside_of (cell t.cells a)) (step_of look plain s)
            (step_of look plain t) → (v : State W) → step_of look plain t ≡ went v
            → IsMapped (λ w. w) (beside_of (cell t.cells a)) u v
        after x v ev =
            (let y : EndsMapped look look (λ w. w) (beside_of (cell t.cells a)) (went u) (went v) =
            subst (λ z. EndsMapped look look (λ w. w) (beside_of (cell t.cells a)) (went u) z)
            ev (subst
            (λ z. EndsMapped look look (λ w. w) (beside_of (cell t.cells a)) z (step_of look plain t))
            e x) in y.0)

    -- so many steps
    pub quiet : (n : ℕ) (s t u : State W) → Less a s t → run_of look plain n s ≡ went u
        → Untouched look plain a n t
    unfolding run_of
    quiet zero s t u h e = tt
    quiet (suc n) s t u h e = by_step (step_of look plain s) refl e (λ x. quiet n x)
      where
        by_step : (r : Outcome W) → step_of look plain s ≡ r → and_then r (run_of look plain n) ≡ went u
            → ((x y z : State W) → Less a x y → run_of look plain n x ≡ went z → Untouched look plain a n y)
            → (Touches look t a → ⊥) × After (Untouched look plain a n) (step_of look plain t)
        by_step (went x) m k more =
            (let one =
            less_step s t x h m in (
              one.0,
              after_each (Untouched look plain a n) (step_of look plain t)
                  (λ v ev. more x v u (one.1 v ev) k),
            ))
        by_step halted m k more = cc
        by_step (failed c at) m k more = cc

pub runs_are_quiet : {W : Type 0} (look : W → Word) (plain : Word → W) → ((x : Word) → look (plain x) ≡ x)
    → RunsAreQuiet look plain
runs_are_quiet look plain seen a n s t e = quiet look plain seen a n (lacking a s) s t (lacks a s) e

-- runs in a row that don't touch a cell
pub untouched_then : {W : Type 0} (look : W → Word) (plain : Word → W) (a n m : ℕ) (s u : State W)
    → Untouched look plain a n s → run_of look plain n s ≡ went u → Untouched look plain a m u
    → Untouched look plain a (n + m) s
unfolding run_of
untouched_then {W = W} look plain a zero m s u h e k =
    let q : s ≡ u = cc in
    let z : m ≡ 0 + m = omega arith in
    subst (λ x. Untouched look plain a x s) z (subst (λ y. Untouched look plain a m y) (sym q) k)
untouched_then {W = W} look plain a (suc n) m s u h e k =
    let z : suc (n + m) ≡ suc n + m = omega arith in
    subst (λ x. Untouched look plain a x s)
    z (
      h.0,
      after_each (Untouched look plain a (n + m)) (step_of look plain s)
          (λ v ev. untouched_then look plain a n m v u
          (after_went (Untouched look plain a n) (step_of look plain s) v h.1 ev) (by_step v ev) k),
    )
  where
    by_step : (v : State W) → step_of look plain s ≡ went v → run_of look plain n v ≡ went u
    by_step v ev =
        (let q : and_then (went v) (run_of look plain n) ≡ went u =
        subst (λ r. and_then r (run_of look plain n) ≡ went u) ev e in q)
