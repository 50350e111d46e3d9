-- What was noted of a state before a step, put back after it, gives that state again.
use Rattle.std.proofs.Common.{◌≡◌, ◌≢◌, ℕ, ◌≤◌, refl, sym, ap, ◌∙◌, inl, inr, ◌⊎◌, arith}
use Rattle.std.specs.Prelude.{Option, Some, None, is_some}
use Rattle.std.specs.Ordering.{nat_cmp}
use Rattle.std.specs.FinMap.{FinMap}
use Rattle.std.proofs.lemmas.Bool.{cases_eq}
use Rattle.cap_words.specs.declared.Word.{Word}
use Rattle.lcm_isa.specs.declared.Reg.{Reg}
use Rattle.lcm_isa.specs.declared.Reg.TheVariants.{Pc}
use Rattle.lcm_isa.specs.declared.Instr.{Instr}
use Rattle.lcm_machine.specs.declared.End.{End}
use Rattle.lcm_machine.specs.declared.undo.Changed.{Changed}
use Rattle.lcm_machine.specs.Maps.{Regs, State}
use Rattle.lcm_machine.specs.Places.{reg, set_reg}
use Rattle.lcm_machine.specs.Cells.{cell, set_cell}
use Rattle.lcm_machine.specs.Plan.{Plan, Fails, Halts, Goes}
use Rattle.lcm_machine.specs.Table.{target}
use Rattle.lcm_machine.specs.Row.{Outcome, went, halted, failed, faces, opens, cell_faces, face_there, fetch}
use Rattle.lcm_machine.specs.Row.{Fetched, none, some, plan_in, outcome, perform, row, step_fetched, step_of}
use Rattle.lcm_machine.specs.Touched.{SameCells}
use Rattle.lcm_machine.specs.Run.{Run, moved, next_by, next_state}
use Rattle.lcm_machine.specs.Back.{old_reg, old_regs, old_cell, IsCellThere, back, CanUndo, changed_by}
use Rattle.lcm_machine.specs.Back.{changed_in, target_in, noted_reg, noted_at, noted_cell, notes}
use Rattle.lcm_machine.proofs.RegLemmas.{cases_reg, reg-set_same, reg-set_other, same_regs}
use Rattle.lcm_machine.proofs.CellLemmas.{cell-set_same, cell-set_other, same_cells}
use Rattle.lcm_machine.proofs.Plans.{Gives-effect}
use Rattle.lcm_machine.proofs.TouchLemmas.{there_same, row_cells, row_others}
use Rattle.lcm_machine.proofs.Altered.{IsChanged, perform_leaves, plan-Names}

-- ---- registers

module _ (rs : Regs Word) where
  -- each register is as in rs, or is still to be put back
  abbrev Still : Regs Word → (Reg → Type 0) → Type 0
  Still now X = (r : Reg) → (reg now r ≡ reg rs r) ⊎ X r

  set_back : (now : Regs Word) (q : Reg) (X : Reg → Type 0) → Still now (λ r. (q ≡ r) ⊎ X r)
      → Still (set_reg now q (reg rs q)) X
  set_back now q X h r = elim (cases_reg r q) as (λ _. (reg (set_reg now q (reg rs q)) r ≡ reg rs r) ⊎ X r) [
    | inl same ↦ inl (ap (reg (set_reg now q (reg rs q))) same ∙ reg-set_same now q (reg rs q)
        ∙ ap (reg rs) (sym same))
    | inr ne ↦ elim (h r) as (λ _. (reg (set_reg now q (reg rs q)) r ≡ reg rs r) ⊎ X r) [
      | inl e ↦ inl (reg-set_other now q r (reg rs q) ne ∙ e)
      | inr (inl e) ↦ absurd (ne (sym e))
      | inr (inr x) ↦ inr x
    ]
  ]

  is_none : (X : Reg → Type 0) (now : Regs Word) → Still now (λ r. (None ≡ Some r) ⊎ X r) → Still now X
  is_none X now h r = elim (h r) as (λ _. (reg now r ≡ reg rs r) ⊎ X r) [
    | inl e ↦ inl e
    | inr (inl e) ↦ cc
    | inr (inr x) ↦ inr x
  ]

  is_some_reg : (X : Reg → Type 0) (now : Regs Word) (q : Reg) → Still now (λ r. (Some q ≡ Some r) ⊎ X r)
      → Still now (λ r. (q ≡ r) ⊎ X r)
  is_some_reg X now q h r = elim (h r) as (λ _. (reg now r ≡ reg rs r) ⊎ ((q ≡ r) ⊎ X r)) [
    | inl e ↦ inl e
    | inr (inl e) ↦ (let same : q ≡ r = cc in inr (inl same))
    | inr (inr x) ↦ inr (inr x)
  ]

  put_one : (now : Regs Word) (o : Option Reg) (X : Reg → Type 0) → Still now (λ r. (o ≡ Some r) ⊎ X r)
      → Still (old_reg now (noted_reg rs o)) X
  put_one now None X h = is_none X now h
  put_one now (Some q) X h = set_back now q X (is_some_reg X now q h)

  none_left : (now : Regs Word) → Still now (λ r. ⊥) → now ≡ rs
  none_left now h =
      same_regs now rs (λ r. elim (h r) as (λ _. reg now r ≡ reg rs r) [ inl e ↦ e | inr e ↦ absurd e ])

  regs_back : (now : Regs Word) (c : Changed) → Still now (IsChanged c)
      → old_regs now (reg rs Pc) (noted_reg rs c.first) (noted_reg rs c.second) (noted_reg rs c.third) ≡ rs
  regs_back now c h =
      none_left _ (put_one _ c.third (λ r. ⊥)
      (put_one _ c.second (λ r. (c.third ≡ Some r) ⊎ ⊥)
      (put_one _ c.first (λ r. (c.second ≡ Some r) ⊎ ((c.third ≡ Some r) ⊎ ⊥))
      (set_back now Pc (λ r. (c.first ≡ Some r) ⊎ ((c.second ≡ Some r) ⊎ ((c.third ≡ Some r) ⊎ ⊥))) h))))

-- ---- cells

module _ (m now : FinMap nat_cmp Word) (there : (q : ℕ) → is_some (cell now q) ≡ is_some (cell m q)) where
  gone : (o p : Option Word) → is_some o ≡ is_some p → p ≡ None → o ≡ None
  gone None p e h = refl
  gone (Some w) None e h = cc
  gone (Some w) (Some v) e h = cc

  cell_back_at : (a : ℕ) (p : Option Word) → cell m a ≡ p → ((q : ℕ) → q ≢ a → cell now q ≡ cell m q)
      → old_cell now (noted_at a p) ≡ m
  cell_back_at a None e h = same_cells now m (λ q. elim (cases_eq q a) as (λ _. cell now q ≡ cell m q) [
    | inl same ↦ rw same (gone (cell now a) (cell m a) (there a) e ∙ sym e)
    | inr ne ↦ h q ne
  ])
  cell_back_at a (Some w) e h =
      same_cells (set_cell now a w) m (λ q.
      elim (cases_eq q a) as (λ _. cell (set_cell now a w) q ≡ cell m q) [
        | inl same ↦ rw same (cell-set_same now a w ∙ sym e)
        | inr ne ↦ cell-set_other now a q w ne ∙ h q ne
      ])

  cell_back : (o : Option ℕ) → ((q : ℕ) → (o ≡ Some q → ⊥) → cell now q ≡ cell m q)
      → old_cell now (noted_cell m o) ≡ m
  cell_back None h = same_cells now m (λ q. h q (λ e. cc))
  cell_back (Some a) h = cell_back_at a (cell m a) refl (λ q ne. h q (λ e. let same : q ≡ a = cc in ne same))

  is_there_at : (a : ℕ) (p : Option Word) → cell m a ≡ p → IsCellThere now (noted_at a p)
  is_there_at a None e = tt
  is_there_at a (Some w) e = there a ∙ ap is_some e

  is_there : (o : Option ℕ) → IsCellThere now (noted_cell m o)
  is_there None = tt
  is_there (Some a) = is_there_at a (cell m a) refl

-- ---- a step

decide_or : {A B : Type 0} → A ⊎ (A → ⊥) → B ⊎ (B → ⊥) → (A ⊎ B) ⊎ (A ⊎ B → ⊥)
decide_or (inl a) k = inl (inl a)
decide_or (inr h) (inl b) = inl (inr b)
decide_or (inr h) (inr k) = inr (λ x. elim x [ inl a ↦ h a | inr b ↦ k b ])

decide_some : (o : Option Reg) (r : Reg) → (o ≡ Some r) ⊎ (o ≡ Some r → ⊥)
decide_some None r = inr (λ e. cc)
decide_some (Some q) r = elim (cases_reg q r) as (λ _. (Some q ≡ Some r) ⊎ (Some q ≡ Some r → ⊥)) [
  | inl same ↦ inl (ap Some same)
  | inr ne ↦ inr (λ e. let k : q ≡ r = cc in ne k)
]

decide_changed : (c : Changed) (r : Reg) → IsChanged c r ⊎ (IsChanged c r → ⊥)
decide_changed c r =
    decide_or (cases_reg Pc r) (decide_or (decide_some c.first r)
    (decide_or (decide_some c.second r) (decide_or (decide_some c.third r) (inr (λ x. x)))))

spans_same : {W : Type 0} (s t : State W) → SameCells s t → t.spans ≡ s.spans
unfolding SameCells
spans_same s t h = h.0

-- registers and memory as they were, and the noted cell there
record GoesBack (s t : State Word) (f : Fetched) : Type 0 where
  regs : old_regs t.regs (reg s.regs Pc) (noted_reg s.regs (changed_in f).first)
      (noted_reg s.regs (changed_in f).second) (noted_reg s.regs (changed_in f).third) ≡ s.regs
  cells : old_cell t.cells (noted_cell s.cells (target_in f s)) ≡ s.cells
  spans : t.spans ≡ s.spans
  there : IsCellThere t.cells (noted_cell s.cells (target_in f s))

module _ (s : State Word) where
  stays_back : (f : Fetched) → GoesBack s s f
  stays_back f = record {
    regs = regs_back s.regs s.regs (changed_in f) (λ r. inl refl);
    cells = cell_back s.cells s.cells (λ q. refl) (target_in f s) (λ q h. refl);
    spans = refl;
    there = is_there s.cells s.cells (λ q. refl) (target_in f s);
  }

  row_still : (i : Instr) (next : Word) (p : Plan) (t : State Word) → plan_in (λ w. w) s i next ≡ p
      → outcome (λ w. w) (λ w. w) s p ≡ went t → Still s.regs t.regs (IsChanged (changed_by i))
  unfolding plan_in
  row_still i next (Fails c) t h e r = cc
  row_still i next Halts t h e r = cc
  row_still i next (Goes x) t h e r =
      let names =
      Gives-effect (rw h at (plan-Names (faces (λ w. w) s) (opens (λ w. w) s)
      (face_there (cell_faces (λ w. w) s) (target i (faces (λ w. w) s))) next i)) in
      let same : perform (λ w. w) (λ w. w) s x ≡ t = cc in
      elim (decide_changed (changed_by i) r) as
      (λ _. (reg t.regs r ≡ reg s.regs r) ⊎ IsChanged (changed_by i) r) [
        | inl y ↦ inr y
        | inr n ↦ inl (ap (λ u. reg u.regs r) (sym same)
            ∙ perform_leaves (λ w. w) (λ w. w) (IsChanged (changed_by i)) r n s x names)
      ]

  row_back : (i : Instr) (next : Word) (t : State Word) → row (λ w. w) (λ w. w) i next s ≡ went t
      → GoesBack s t (some i next)
  unfolding row
  row_back i next t h =
      let same = row_cells (λ w. w) (λ w. w) s t i next h in
      let there = there_same s t same in
      record {
        regs = regs_back s.regs t.regs (changed_by i) (row_still i next (plan_in (λ w. w) s i next) t refl h);
        cells =
            cell_back s.cells t.cells there
            (target i (faces (λ w. w) s))
            (row_others (λ w. w) (λ w. w) s t i next h);
        spans = spans_same s t same;
        there = is_there s.cells t.cells there (target i (faces (λ w. w) s));
      }

  fetched_back : (f : Fetched) (t : State Word) → step_fetched (λ w. w) (λ w. w) s f ≡ went t → GoesBack s t f
  fetched_back (none c) t h = cc
  fetched_back (some i next) t h = row_back i next t h

abbrev fetched_in : State Word → Fetched
fetched_in s = fetch (faces (λ w. w) s Pc) (cell_faces (λ w. w) s)

step_back : (s t : State Word) → step_of (λ w. w) (λ w. w) s ≡ went t → GoesBack s t (fetched_in s)
unfolding step_of
step_back s t h = fetched_back s (fetched_in s) t h

moved_back : (s : Run) (o : Outcome Word) → step_of (λ w. w) (λ w. w) s.maps ≡ o
    → GoesBack s.maps (moved o s).maps (fetched_in s.maps)
moved_back s (went t) h = step_back s.maps t h
moved_back s halted h = stays_back s.maps (fetched_in s.maps)
moved_back s (failed c at) h = stays_back s.maps (fetched_in s.maps)

next_back : (s : Run) (e : Option End) → GoesBack s.maps (next_by e s).maps (fetched_in s.maps)
next_back s None = moved_back s (step_of (λ w. w) (λ w. w) s.maps) refl
next_back s (Some e) = stays_back s.maps (fetched_in s.maps)

goes_back : (s t : Run) → GoesBack s.maps t.maps (fetched_in s.maps) → back t (notes s.maps s.count s.end) ≡ s
unfolding back notes
goes_back s t g =
    λ i. record {
      maps = record { regs = g.regs i; cells = g.cells i; spans = g.spans i };
      count = s.count;
      end = s.end;
    }

-- after a step, what was noted before it leads back
pub stepped_back : (s : Run) → back (next_state s) (notes s.maps s.count s.end) ≡ s
unfolding next_state
stepped_back s = goes_back s (next_state s) (next_back s s.end)

count_moved : (o : Outcome Word) (s : Run) → s.count ≤ (moved o s).count
count_moved (went t) s = omega arith
count_moved halted s = omega arith
count_moved (failed c at) s = omega arith

count_by : (e : Option End) (s : Run) → s.count ≤ (next_by e s).count
count_by None s = count_moved (step_of (λ w. w) (λ w. w) s.maps) s
count_by (Some e) s = omega arith

can_go_back : (s t : Run) → GoesBack s.maps t.maps (fetched_in s.maps) → s.count ≤ t.count
    → CanUndo t (notes s.maps s.count s.end)
unfolding CanUndo notes
can_go_back s t g le = (g.there, le)

pub stepped_can : (s : Run) → CanUndo (next_state s) (notes s.maps s.count s.end)
unfolding next_state
stepped_can s = can_go_back s (next_state s) (next_back s s.end) (count_by s.end s)
