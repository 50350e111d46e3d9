-- What a step does, it may; and each cell that it neither stores to nor empties stays.
use Rattle.std.proofs.Common.{◌≡◌, ◌⊎◌, inl, inr, ℕ, ◌≤◌, ℤ, pos, negsuc, Bool, true, false, not, ◌&&◌, ◌||◌}
use Rattle.std.proofs.Common.{refl, sym, ap, subst, ◌∙◌, leb-true}
use Rattle.std.specs.Prelude.{Option, Some, None, is_some, nat_le, if◌then◌else◌}
use Rattle.std.proofs.lemmas.Bool.{and_parts, cases_eq}
use Rattle.cap_words.specs.declared.Word.{Word}
use Rattle.cap_words.specs.declared.CapFields.{CapFields}
use Rattle.cap_words.specs.declared.SealFields.{SealFields}
use Rattle.cap_words.specs.declared.Perm.{Perm}
use Rattle.cap_words.specs.declared.Perm.TheVariants.{No, R as ReadOnly, Rw, Rx, Rwx}
use Rattle.cap_words.specs.declared.Face.{Face}
use Rattle.cap_words.specs.declared.Face.TheVariants.{Number, Memory, Seals, Sealed}
use Rattle.cap_words.specs.Face.{face_of}
use Rattle.cap_words.specs.Linear.{is_linear, lin_is, zero_word}
use Rattle.cap_words.specs.Faces.{may_read, may_run, may_write, seals_at, address, covers, target_of}
use Rattle.cap_words.specs.Faces.{is_below, seals_in, memory_in, face_linear}
use Rattle.lcm_isa.specs.declared.Reg.{Reg}
use Rattle.lcm_isa.specs.declared.Reg.TheVariants.{Pc}
use Rattle.lcm_isa.specs.declared.Instr.{Instr}
use Rattle.lcm_isa.specs.declared.Instr.TheVariants.{Store, Load, Cseal}
use Rattle.lcm_machine.specs.declared.Place.TheVariants.{Cell}
use Rattle.lcm_machine.specs.Maps.{State}
use Rattle.lcm_machine.specs.Cells.{cell, set_cell}
use Rattle.lcm_machine.specs.Plan.{Plan, Fails, Halts, Goes}
use Rattle.lcm_machine.specs.Table.{is_pc, plan, target}
use Rattle.lcm_machine.specs.Row.{faces, cell_faces, look_face, face_there, fetch, some, step_fetched}
use Rattle.lcm_machine.specs.Row.{step_of, opens, plan_in, outcome, row, went, perform, put, clear}
use Rattle.lcm_machine.specs.Ends.{After}
use Rattle.lcm_machine.specs.Touched.{reached, cell_fetched, cell_used}
use Rattle.lcm_machine.specs.Acts.{IsNext, GoesTo, Lets, DoesAsItMay, ChangesNoOther, WritesWhereItMay}
use Rattle.lcm_machine.proofs.Plans.{Gives, gives_goes, Gives-ask, Gives-need, Gives-by_cap, memory_is}
use Rattle.lcm_machine.proofs.Plans.{load_cell}
use Rattle.lcm_machine.proofs.CellLemmas.{cell-set_other}
use Rattle.lcm_machine.proofs.TouchLemmas.{after_went, fetched_row, row_unused, used_target}
use Rattle.lcm_machine.proofs.Commute.{is_linear-face}
use Rattle.lcm_machine.proofs.Quiet.{planned}

-- ---- which cell a word leads to

-- the address that a capability leads to is in its range
pub covered : (c : CapFields) (a : ℕ) → target_of (Memory c) ≡ Some a → (c.base ≤ a) × (a ≤ c.end)
covered c a e = by_addr c.addr (covers c c.addr) refl e
  where
    by_addr : (z : ℤ) (b : Bool) → covers c z ≡ b → (if b then Some (address z) else None) ≡ Some a
        → (c.base ≤ a) × (a ≤ c.end)
    by_addr z false h e = cc
    by_addr (negsuc n) true h e = cc
    by_addr (pos n) true h e =
        let same : n ≡ a = cc in
        let k = and_parts (nat_le c.base n) (nat_le n c.end) h in (
          subst (λ m. c.base ≤ m) same (leb-true c.base n k.0),
          subst (λ m. m ≤ c.end) same (leb-true n c.end k.1),
        )

-- what a permission below another lets run, that one lets run too
pub below_runs : (p q : Perm) → is_below p q ≡ true → may_run p ≡ true → may_run q ≡ true
below_runs No q h e = cc
below_runs ReadOnly q h e = cc
below_runs Rw q h e = cc
below_runs Rx q h e = h
below_runs Rwx q h e = (and_parts (may_write q) (may_run q) h).1

lets_reached : (may : Perm → Bool) (x : Face) (cells : ℕ → Option Face) (a : ℕ)
    → reached may x cells ≡ Some a → Lets may x a
lets_reached may (Number z) cells a e = cc
lets_reached may (Seals z) cells a e = cc
lets_reached may (Sealed z) cells a e = cc
lets_reached may (Memory c) cells a e = by_test (may c.perm && is_some there) refl e
  where
    there : Option Face
    there = face_there cells (target_of (Memory c))

    by_test : (b : Bool) → (may c.perm && is_some there) ≡ b
        → (if b then target_of (Memory c) else None) ≡ Some a → Lets may (Memory c) a
    by_test false h e = cc
    by_test true h e = let k = covered c a e in (c, refl, (and_parts (may c.perm) _ h).0, k.0, k.1)

lets_fetched : (x : Face) (cells : ℕ → Option Face) (a : ℕ) → cell_fetched x cells ≡ Some a → Lets may_run x a
lets_fetched (Number z) cells a e = cc
lets_fetched (Seals z) cells a e = cc
lets_fetched (Sealed z) cells a e = cc
lets_fetched (Memory c) cells a e =
    elim (lin_is c.lin) as
    (λ b. (if b then None else reached may_run (Memory c) cells) ≡ Some a → Lets may_run (Memory c) a)
    [ true ↦ λ h. cc | false ↦ λ h. lets_reached may_run (Memory c) cells a h ] e

lets_loaded : (r : Reg) (x : Face) (cells : ℕ → Option Face) (a : ℕ)
    → (if is_pc r then None else reached may_read x cells) ≡ Some a → Lets may_read x a
lets_loaded r x cells a e =
    elim (is_pc r) as (λ b. (if b then None else reached may_read x cells) ≡ Some a → Lets may_read x a)
    [ true ↦ λ h. cc | false ↦ λ h. lets_reached may_read x cells a h ] e

-- ---- seals

pub in_seals : (q : SealFields) (z : ℤ) → seals_at q z ≡ true → (q.base ≤ address z) × (address z ≤ q.end)
in_seals q (pos n) e =
    let k = and_parts (nat_le q.base n) (nat_le n q.end) e in (leb-true q.base n k.0, leb-true n q.end k.1)
in_seals q (negsuc n) e = cc

-- ---- which instruction uses a cell

load_or : (i : Instr) → ((r1 : Reg) × (r2 : Reg) × (i ≡ Load r1 r2)) ⊎ ((r1 r2 : Reg) → i ≡ Load r1 r2 → ⊥)
load_or (Load r1 r2) = inl (r1, r2, refl)
load_or _ = inr (λ r1 r2 e. cc)

store_of : (i : Instr) (f : Reg → Face) (cells : ℕ → Option Face) (a : ℕ) → cell_used i f cells ≡ Some a
    → ((r1 r2 : Reg) → i ≡ Load r1 r2 → ⊥) → (r1 : Reg) × (r2 : Reg) × (i ≡ Store r1 r2)
store_of (Load r1 r2) f cells a e never = absurd (never r1 r2 refl)
store_of (Store r1 r2) f cells a e never = (r1, r2, refl)
store_of _ f cells a e never = cc

-- ---- a step

module _ {W : Type 0} (look : W → Word) (plain : Word → W) (s : State W) where
  cell_shown : (o : Option W) (x : Face) → look_face look o ≡ Some x → (w : W) × (o ≡ Some w)
  cell_shown None x e = cc
  cell_shown (Some w) x e = (w, refl)

  -- what a plan says that goes
  row_tells : (i : Instr) (next : Word) (P : Type 0) (t : State W)
      → Gives (λ _. P)
      (plan i (faces look s) (opens look s) (face_there (cell_faces look s) (target i (faces look s))) next)
      → row look plain i next s ≡ went t → P
  unfolding row plan_in
  row_tells i next P t g e = planned look plain s t P _ g e

  -- the row of the instruction that pc names
  row_of : (i : Instr) (t : State W) → GoesTo look plain s t → (n : IsNext look s i)
      → row look plain i n.0 s ≡ went t
  unfolding step_of
  row_of i t e n = ap (step_fetched look plain s) (sym n.1) ∙ e

  -- a load that goes uses the cell that it addresses
  load_used : (r1 r2 : Reg) (next : Word) (t : State W) (a : ℕ) → row look plain (Load r1 r2) next s ≡ went t
      → target_of (faces look s r2) ≡ Some a
      → cell_used (Load r1 r2) (faces look s) (cell_faces look s) ≡ Some a
  load_used r1 r2 next t a e at = row_tells (Load r1 r2) next _ t
      (Gives-ask _ _ _ (λ free. Gives-need _ _ _ (λ c m. Gives-ask _ _ _ (λ may. Gives-need _ _ _ (λ x there.
      Gives-ask _ _ _ (λ _. gives_goes (used free c m may x there))))))) e
    where
      used : not (is_pc r1) ≡ true → (c : CapFields) → memory_in (faces look s r2) ≡ Some c
          → may_read c.perm ≡ true → (x : Face)
          → face_there (cell_faces look s) (target_of (faces look s r2)) ≡ Some x
          → cell_used (Load r1 r2) (faces look s) (cell_faces look s) ≡ Some a
      used free c m may x there =
          let k =
          load_cell (faces look s) (opens look s) (cell_faces look s) next r1 free _ c m may x there in
          k.2 ∙ sym k.0 ∙ at

  -- and where its word is linear, it may write there
  load_may : (r1 r2 : Reg) (next : Word) (t : State W) (a : ℕ) (w : W)
      → row look plain (Load r1 r2) next s ≡ went t → target_of (faces look s r2) ≡ Some a
      → cell s.cells a ≡ Some w → is_linear (look w) ≡ true → Lets may_write (faces look s r2) a
  unfolding cell_faces
  load_may r1 r2 next t a w e at here lin = row_tells (Load r1 r2) next _ t
      (Gives-ask _ _ _ (λ _. Gives-need _ _ _ (λ c m. Gives-ask _ _ _ (λ _. Gives-need _ _ _ (λ x there.
      Gives-ask _ _ _ (λ may. gives_goes (writes c m x there may))))))) e
    where
      writes : (c : CapFields) → memory_in (faces look s r2) ≡ Some c → (x : Face)
          → face_there (cell_faces look s) (target_of (faces look s r2)) ≡ Some x
          → (not (face_linear x) || may_write c.perm) ≡ true → Lets may_write (faces look s r2) a
      writes c m x there may =
          let is = memory_is (faces look s r2) c m in
          let seen : Some (face_of (look w)) ≡ Some x =
          ap (look_face look) (sym here) ∙ sym (ap (face_there (cell_faces look s)) at) ∙ there in
          let face : face_of (look w) ≡ x = cc in
          let linear : face_linear x ≡ true =
          ap face_linear (sym face) ∙ sym (is_linear-face (look w)) ∙ lin in
          let k = covered c a (ap target_of (sym is) ∙ at) in
          (c, is, ap (λ b. not b || may_write c.perm) (sym linear) ∙ may, k.0, k.1)

  -- taking a word out of a cell leaves the others, and all where the word isn't linear
  clear_leaves : (b a : ℕ) (w : W) → cell s.cells b ≡ Some w → (b ≡ a → is_linear (look w) ≡ true → ⊥)
      → cell (clear look plain s (Cell b)).cells a ≡ cell s.cells a
  unfolding clear
  clear_leaves b a w here linear =
      rw here (by_lin (is_linear (look w)) refl)
    where
      by_lin : (l : Bool) → is_linear (look w) ≡ l
          → cell (if l then put s (Cell b) (zero_word plain) else s).cells a ≡ cell s.cells a
      by_lin false l = refl
      by_lin true l =
          elim (cases_eq a b) as (λ _. cell (set_cell s.cells b (zero_word plain)) a ≡ cell s.cells a) [
            | inl same ↦ absurd (linear (sym same) l)
            | inr ne ↦ cell-set_other s.cells b a _ ne
          ]

  after_plan : (Q : State W → Type 0) (p : Plan) → Gives (λ e. Q (perform look plain s e)) p
      → After Q (outcome look plain s p)
  after_plan Q (Fails f) h = tt
  after_plan Q Halts h = tt
  after_plan Q (Goes x) (gives_goes h) = h

  target_some : (y : Face) (c : CapFields) (cells : ℕ → Option Face) (x : Face) → y ≡ Memory c
      → face_there cells (target_of y) ≡ Some x
      → (target_of y ≡ Some (address c.addr)) × (cells (address c.addr) ≡ Some x)
  target_some y c cells x is h =
      let k = by_test (ap (λ z. face_there cells (target_of z)) (sym is) ∙ h) in (ap target_of is ∙ k.0, k.1)
    where
      by_test : face_there cells (target_of (Memory c)) ≡ Some x
          → (target_of (Memory c) ≡ Some (address c.addr)) × (cells (address c.addr) ≡ Some x)
      by_test = elim (covers c c.addr) as
          (λ b. face_there cells (if b then Some (address c.addr) else None) ≡ Some x
          → ((if b then Some (address c.addr) else None) ≡ Some (address c.addr))
          × (cells (address c.addr) ≡ Some x))
          [ true ↦ λ e. (refl, e) | false ↦ λ e. cc ]

  -- a load takes from its cell at most a linear word
  load_leaves : (r1 r2 : Reg) (next : Word) (t : State W) (a : ℕ)
      → row look plain (Load r1 r2) next s ≡ went t
      → ((w : W) → target_of (faces look s r2) ≡ Some a → cell s.cells a ≡ Some w
      → is_linear (look w) ≡ true → ⊥)
      → cell t.cells a ≡ cell s.cells a
  unfolding row plan_in perform cell_faces
  load_leaves r1 r2 next t a e linear =
      after_went (λ (u : State W). cell u.cells a ≡ cell s.cells a) _ t
      (after_plan (λ (u : State W). cell u.cells a ≡ cell s.cells a) _
      (Gives-ask _ _ _ (λ _. Gives-need _ _ _ (λ c m. Gives-ask _ _ _ (λ _. Gives-need _ _ _ (λ x there.
      Gives-ask _ _ _ (λ _. gives_goes (leaves c m x there)))))))) e
    where
      leaves : (c : CapFields) → memory_in (faces look s r2) ≡ Some c → (x : Face)
          → face_there (cell_faces look s) (target_of (faces look s r2)) ≡ Some x
          → cell (clear look plain s (Cell (address c.addr))).cells a ≡ cell s.cells a
      leaves c m x there =
          let k = target_some (faces look s r2) c (cell_faces look s) x (memory_is _ c m) there in
          let w = cell_shown (cell s.cells (address c.addr)) x k.1 in
          clear_leaves (address c.addr) a w.0 w.1
          (λ same lin. linear w.0 (k.0 ∙ ap Some same) (ap (cell s.cells) (sym same) ∙ w.1) lin)

  -- a `cseal` that goes has its seal in the range
  cseal_may : (r1 r2 : Reg) (next : Word) (t : State W) (q : SealFields)
      → row look plain (Cseal r1 r2) next s ≡ went t → faces look s r2 ≡ Seals q → seals_at q q.cur ≡ true
  cseal_may r1 r2 next t q e shown = row_tells (Cseal r1 r2) next _ t
      (Gives-ask _ _ _ (λ _. Gives-by_cap (faces look s r1) _ _
      (λ c m. Gives-need _ _ _ (λ p is. Gives-ask _ _ _ (λ at. gives_goes (same p is at))))
      (λ c m. Gives-need _ _ _ (λ p is. Gives-ask _ _ _ (λ at. gives_goes (same p is at)))))) e
    where
      same : (p : SealFields) → seals_in (faces look s r2) ≡ Some p → seals_at p p.cur ≡ true
          → seals_at q q.cur ≡ true
      same p is at =
          let k : Some p ≡ Some q = sym is ∙ ap seals_in shown in
          let one : p ≡ q = cc in
          subst (λ (y : SealFields). seals_at y y.cur ≡ true) one at

  pub does_as_it_may : DoesAsItMay look plain s
  does_as_it_may = record {
    fetches = λ a f. (Pc, lets_fetched (faces look s Pc) (cell_faces look s) a f);
    loads = λ a l. (l.1, lets_loaded l.0 (faces look s l.1) (cell_faces look s) a l.2.1);
    stores = λ a l. (l.0, lets_reached may_write (faces look s l.0) (cell_faces look s) a l.2.1);
    empties = λ a l. (
        let x = l.0 in
        let e = row_of (Load x.0 x.1) l.4 l.5 x.2.0 in
        let at = used_target (Load x.0 x.1) (faces look s) (cell_faces look s) a x.2.1 in
        (x.1, load_may x.0 x.1 x.2.0.0 l.4 a l.1 e at l.2 l.3)
        );
    seals = λ n l. (
        let e = row_of (Cseal l.0 l.1) l.6 l.7 l.2 in
        let k = in_seals l.3 l.3.cur (cseal_may l.0 l.1 l.2.0 l.6 l.3 e l.4) in
        (l.1, l.3, l.4, subst (λ m. l.3.base ≤ m) l.5 k.0, subst (λ m. m ≤ l.3.end) l.5 k.1)
        );
  }

  pub changes_no_other : ChangesNoOther look plain s
  changes_no_other t a e not_stored not_emptied =
      let k = fetched_row look plain s t e in
      elim (load_or k.0) as (λ _. cell t.cells a ≡ cell s.cells a) [
        | inl l ↦ (
            let row_is = sym (ap (λ i. row look plain i k.1 s) l.2) ∙ k.3 in
            loaded l.0 l.1 k.1 (k.2 ∙ ap (λ i. some i k.1) l.2) row_is
            )
        | inr never ↦ row_unused look plain s t k.0 k.1 k.3 a (λ u. stored k.0 k.1 k.2 u never)
      ]
    where
      loaded : (r1 r2 : Reg) (next : Word)
          → fetch (faces look s Pc) (cell_faces look s) ≡ some (Load r1 r2) next
          → row look plain (Load r1 r2) next s ≡ went t → cell t.cells a ≡ cell s.cells a
      loaded r1 r2 next f r = load_leaves r1 r2 next t a r (λ w at here lin.
          not_emptied ((r1, r2, ((next, f), load_used r1 r2 next t a r at)), w, here, lin, t, e))

      stored : (i : Instr) (next : Word) → fetch (faces look s Pc) (cell_faces look s) ≡ some i next
          → cell_used i (faces look s) (cell_faces look s) ≡ Some a
          → ((r1 r2 : Reg) → i ≡ Load r1 r2 → ⊥) → ⊥
      stored i next f u never =
          let x = store_of i (faces look s) (cell_faces look s) a u never in
          not_stored (
            x.0,
            x.1,
            (
              (next, f ∙ ap (λ j. some j next) x.2),
              sym (ap (λ j. cell_used j (faces look s) (cell_faces look s)) x.2) ∙ u,
            ),
          )

  pub writes_where_it_may : WritesWhereItMay look plain s
  writes_where_it_may t a e never =
      changes_no_other t a e (λ l. never (does_as_it_may.stores a l))
      (λ l. never (does_as_it_may.empties a l))
