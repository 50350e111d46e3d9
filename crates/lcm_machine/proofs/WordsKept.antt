-- A closed property of all words is kept by every instruction, by `xjmp` where what it opens has it.
use Rattle.std.proofs.Common.{◌≡◌, inl, inr, ℕ, pos, true, false, refl, sym, ap, ◌∙◌}
use Rattle.std.specs.Prelude.{Option, Some, None, IsTrue, if◌then◌else◌, unwrap_or}
use Rattle.std.proofs.lemmas.Bool.{and_parts, eqb-true, cases_eq}
use Rattle.cap_words.specs.declared.Word.{Word}
use Rattle.cap_words.specs.declared.Word.TheVariants.{Mem, Seal}
use Rattle.cap_words.specs.declared.CapFields.{CapFields}
use Rattle.cap_words.specs.declared.SealFields.{SealFields}
use Rattle.cap_words.specs.declared.Face.{Face}
use Rattle.cap_words.specs.Face.{face_of}
use Rattle.cap_words.specs.Faces.{memory_in, seals_in, same_kind}
use Rattle.cap_words.specs.Linear.{is_linear, zero_word}
use Rattle.lcm_isa.specs.declared.Reg.{Reg}
use Rattle.lcm_isa.specs.declared.Reg.TheVariants.{Pc}
use Rattle.lcm_isa.specs.declared.Operand.TheVariants.{R as InReg, Imm}
use Rattle.lcm_isa.specs.declared.Instr.{Instr}
use Rattle.lcm_isa.specs.declared.Instr.TheVariants.{Fail, Halt, Jmp, Jnz, Gettype, Geta, Getb, Gete, Getp}
use Rattle.lcm_isa.specs.declared.Instr.TheVariants.{Getlin, Move, Store, Load, Cca, Restrict, Lt, Plus}
use Rattle.lcm_isa.specs.declared.Instr.TheVariants.{Minus, Seta2b, Xjmp, Cseal, Split, Splice}
use Rattle.lcm_machine.specs.declared.Place.{Place}
use Rattle.lcm_machine.specs.declared.Place.TheVariants.{R, Cell}
use Rattle.lcm_machine.specs.Plan.{Plan, Fails, Halts, Goes}
use Rattle.lcm_machine.specs.declared.plan.Effect.{Effect}
use Rattle.lcm_machine.specs.declared.plan.Moved.{Moved}
use Rattle.lcm_machine.specs.declared.plan.Made.{Made}
use Rattle.lcm_machine.specs.Maps.{State}
use Rattle.lcm_machine.specs.Places.{reg, set_reg}
use Rattle.lcm_machine.specs.Cells.{cell, set_cell}
use Rattle.lcm_machine.specs.Table.{plan, makes}
use Rattle.lcm_machine.specs.Touched.{cell_used}
use Rattle.lcm_machine.specs.Row.{word_in, put, clear, move_on, spend, make, go_on, perform, faces}
use Rattle.lcm_machine.specs.Row.{cell_faces, opens, plan_in, outcome, row, fetch, Fetched, none, some}
use Rattle.lcm_machine.specs.Row.{step_fetched, step_of}
use Rattle.lcm_machine.proofs.Plans.{Shape, ShapeMoved, ShapePlace, plan-Shape, Gives, Gives-effect}
use Rattle.lcm_machine.proofs.Plans.{gives_fails, gives_halts, gives_goes, Gives-ask, Gives-need}
use Rattle.lcm_machine.proofs.Plans.{Gives-by_cap, Gives-if}
use Rattle.lcm_machine.proofs.RegLemmas.{cases_reg, reg-set_same, reg-set_other}
use Rattle.lcm_machine.proofs.CellLemmas.{cell-set_same, cell-set_other}
use Rattle.lcm_machine.specs.Ends.{After}
use Rattle.lcm_machine.specs.Closed.{Closed, AllAre, OpensTo, StepsWithin, StepsKeepClosed}
use Rattle.lcm_machine.proofs.RowLemmas.{look_memory, look_seals, fetch_normal}

-- ---- what an effect keeps

-- places that aren't set apart
abbrev pub PlaceIn : (ℕ → Type 0) → Place → Type 0
PlaceIn Q (R r) = Unit {0}
PlaceIn Q (Cell a) = Q a

abbrev pub MoveIn : (ℕ → Type 0) → Option Moved → Type 0
MoveIn Q None = Unit {0}
MoveIn Q (Some m) = PlaceIn Q m.from

-- the words that an effect makes have it
abbrev MadeIs : {W : Type 0} → (Word → W) → (W → Type 0) → Option Made → Type 0
MadeIs plain S None = Unit {0}
MadeIs plain S (Some m) = S (plain m.word)

abbrev NextIs : {W : Type 0} → (Word → W) → (W → Type 0) → Option Word → Type 0
NextIs plain S None = Unit {0}
NextIs plain S (Some w) = S (plain w)

abbrev pub Makes : {W : Type 0} → (Word → W) → (W → Type 0) → Effect → Type 0
Makes plain S e = MadeIs plain S e.first × MadeIs plain S e.second × NextIs plain S e.next

module _ {W : Type 0} (look : W → Word) (plain : Word → W) (S : W → Type 0) (Q : ℕ → Type 0)
    (zero_is : S (zero_word plain)) where
  put_all : (s : State W) (p : Place) (w : W) → S w → AllAre S Q s → AllAre S Q (put s p w)
  put_all s (R r) w h a = (
    λ d. elim (cases_reg d r) as (λ _. S (reg (set_reg s.regs r w) d)) [
      | inl same ↦ rw same (rw (reg-set_same s.regs r w) h)
      | inr ne ↦ rw (reg-set_other s.regs r d w ne) (a.0 d)
    ],
    a.1,
  )
  put_all s (Cell b) w h a = (
    a.0,
    λ q v k e. elim (cases_eq q b) as (λ _. S v) [
      | inl same ↦ (
          let here = ap (cell (set_cell s.cells b w)) same ∙ cell-set_same s.cells b w in
          let m : Some w ≡ Some v = sym here ∙ e in
          let n : w ≡ v = cc in
          rw (← n) h
          )
      | inr ne ↦ a.1 q v k (sym (cell-set_other s.cells b q w ne) ∙ e)
    ],
  )

  or_zero : (o : Option W) → ((w : W) → o ≡ Some w → S w) → S (unwrap_or o (zero_word plain))
  or_zero None h = zero_is
  or_zero (Some w) h = h w refl

  word_is : (s : State W) (p : Place) → PlaceIn Q p → AllAre S Q s → S (word_in plain s p)
  word_is s (R r) k a = a.0 r
  word_is s (Cell q) k a = or_zero (cell s.cells q) (λ w e. a.1 q w k e)

  clear_all : (s : State W) (p : Place) → AllAre S Q s → AllAre S Q (clear look plain s p)
  unfolding clear
  clear_all s p a =
      elim (is_linear (look (word_in plain s p))) as
      (λ b. AllAre S Q (if b then put s p (zero_word plain) else s))
      [ true ↦ put_all s p (zero_word plain) zero_is a | false ↦ a ]

  move_all : (s : State W) (m : Option Moved) → MoveIn Q m → AllAre S Q s
      → AllAre S Q (move_on look plain s m)
  move_all s None k a = a
  move_all s (Some m) k a = put_all _ m.to _ (word_is s m.from k a) (clear_all s m.from a)

  spend_all : (s : State W) (r : Option Reg) → AllAre S Q s → AllAre S Q (spend look plain s r)
  spend_all s None a = a
  spend_all s (Some r) a = clear_all s (R r) a

  make_all : (s : State W) (m : Option Made) → MadeIs plain S m → AllAre S Q s → AllAre S Q (make plain s m)
  make_all s None h a = a
  make_all s (Some m) h a = put_all s (R m.reg) _ h a

  go_all : (s : State W) (m : Option Word) → NextIs plain S m → AllAre S Q s → AllAre S Q (go_on plain s m)
  go_all s None h a = a
  go_all s (Some w) h a = put_all s (R Pc) _ h a

  pub perform_all : (s : State W) (e : Effect) → MoveIn Q e.moved → Makes plain S e → AllAre S Q s
      → AllAre S Q (perform look plain s e)
  unfolding perform
  perform_all s e k h a =
      let moved = move_all s e.moved k a in
      let taken = spend_all _ e.also_spent (spend_all _ e.spent moved) in
      go_all _ e.next h.2 (make_all _ e.second h.1 (make_all _ e.first h.0 taken))

-- ---- closed properties

module _ {W : Type 0} (look : W → Word) (plain : Word → W) (S : W → Type 0) (Q : ℕ → Type 0)
    (closed : Closed look plain S) where
  module _ (s : State W) (all : AllAre S Q s) (next : Word) (next_is : S (plain next)) where
    there : (r : Reg) → S (reg s.regs r)
    there r = all.0 r

    memory_look : (r : Reg) (c : CapFields) → memory_in (faces look s r) ≡ Some c
        → look (reg s.regs r) ≡ Mem c
    unfolding faces
    memory_look r c e = look_memory (look (reg s.regs r)) c e

    seals_look : (r : Reg) (c : SealFields) → seals_in (faces look s r) ≡ Some c
        → look (reg s.regs r) ≡ Seal c
    unfolding faces
    seals_look r c e = look_seals (look (reg s.regs r)) c e

    -- an effect that gives one register a word
    made_is : (r : Reg) (w : Word) → S (plain w) → Gives (Makes plain S) (makes r w next)
    made_is r w h = gives_goes (h, tt, next_is)

    plan-Makes : (n : Instr) → OpensTo look plain S s n → (t : Option Face)
        → Gives (Makes plain S) (plan n (faces look s) (opens look s) t next)
    plan-Makes Fail x t = gives_fails
    plan-Makes Halt x t = gives_halts
    plan-Makes (Jmp r1) x t = gives_goes (tt, tt, tt)
    plan-Makes (Jnz r1 r2) x t =
        Gives-need _ _ _ (λ z e. Gives-if _ _ _ (gives_goes (tt, tt, next_is)) (gives_goes (tt, tt, tt)))
    plan-Makes (Gettype r1 r2) x t = Gives-ask _ _ _ (λ _. made_is _ _ (closed.ints _))
    plan-Makes (Geta r1 r2) x t = Gives-ask _ _ _ (λ _. made_is _ _ (closed.ints _))
    plan-Makes (Getb r1 r2) x t = Gives-ask _ _ _ (λ _. made_is _ _ (closed.ints _))
    plan-Makes (Gete r1 r2) x t = Gives-ask _ _ _ (λ _. made_is _ _ (closed.ints _))
    plan-Makes (Getp r1 r2) x t = Gives-ask _ _ _ (λ _. made_is _ _ (closed.ints _))
    plan-Makes (Getlin r1 r2) x t = Gives-ask _ _ _ (λ _. made_is _ _ (closed.ints _))
    plan-Makes (Move r1 (InReg r2)) x t = Gives-ask _ _ _ (λ _. gives_goes (tt, tt, next_is))
    plan-Makes (Move r1 (Imm z)) x t = Gives-ask _ _ _ (λ _. made_is _ _ (closed.ints z))
    plan-Makes (Store r1 r2) x t =
        Gives-need _ _ _
        (λ c m. Gives-ask _ _ _ (λ _. Gives-need _ _ _ (λ y h. gives_goes (tt, tt, next_is))))
    plan-Makes (Load r1 r2) x t =
        Gives-ask _ _ _
        (λ _. Gives-need _ _ _
        (λ c m. Gives-ask _ _ _
        (λ _. Gives-need _ _ _ (λ y h. Gives-ask _ _ _ (λ _. gives_goes (tt, tt, next_is))))))
    plan-Makes (Cca r1 n) x t = Gives-ask _ _ _ (λ _. Gives-by_cap (faces look s r1) _ _
        (λ c e. Gives-need _ _ _
        (λ z _. Gives-ask _ _ _
        (λ _. made_is _ _ (closed.moved (reg s.regs r1) c _ (memory_look r1 c (ap memory_in e)) (there r1)))))
        (λ c e. Gives-need _ _ _
        (λ z _. Gives-ask _ _ _
        (λ _. made_is _ _ (closed.turned (reg s.regs r1) c _ (seals_look r1 c (ap seals_in e)) (there r1))))))
    plan-Makes (Restrict r1 n) x t =
        Gives-ask _ _ _
        (λ _. Gives-need _ _ _ (λ c m. Gives-need _ _ _ (λ z _. Gives-need _ _ _ (λ q _. Gives-ask _ _ _ (λ b.
        made_is _ _ (closed.lessened (reg s.regs r1) c q (memory_look r1 c m) b (there r1)))))))
    plan-Makes (Lt r1 r2 n) x t =
        Gives-ask _ _ _
        (λ _. Gives-need _ _ _ (λ y e. Gives-need _ _ _ (λ z _. made_is _ _ (closed.ints _))))
    plan-Makes (Plus r1 r2 n) x t =
        Gives-ask _ _ _
        (λ _. Gives-need _ _ _
        (λ y e. Gives-need _ _ _ (λ z _. Gives-ask _ _ _ (λ _. made_is _ _ (closed.ints _)))))
    plan-Makes (Minus r1 r2 n) x t =
        Gives-ask _ _ _
        (λ _. Gives-need _ _ _
        (λ y e. Gives-need _ _ _ (λ z _. Gives-ask _ _ _ (λ _. made_is _ _ (closed.ints _)))))
    plan-Makes (Seta2b r1) x t = Gives-ask _ _ _ (λ _. Gives-by_cap (faces look s r1) _ _
        (λ c e. made_is _ _ (closed.moved (reg s.regs r1) c _ (memory_look r1 c (ap memory_in e)) (there r1)))
        (λ c e. made_is _ _ (closed.turned (reg s.regs r1) c _ (seals_look r1 c (ap seals_in e)) (there r1))))
    plan-Makes (Xjmp r1 r2) x t =
        Gives-need _ _ _
        (λ a ea. Gives-need _ _ _
        (λ b eb. Gives-ask _ _ _
        (λ q. Gives-need _ _ _ (λ c m. Gives-ask _ _ _ (λ _. Gives-ask _ _ _ (λ _. Gives-ask _ _ _ (λ _.
        (let k = x a b c ea eb (eqb-true a.seal b.seal q) m in gives_goes (k.0, k.1, tt)))))))))
    plan-Makes (Cseal r1 r2) x t = Gives-ask _ _ _ (λ _. Gives-by_cap (faces look s r1) _ _
        (λ c e. Gives-need _ _ _
        (λ q m. Gives-ask _ _ _
        (λ b. made_is _ _ (closed.sealed_memory (reg s.regs r1) (reg s.regs r2) c q
        (memory_look r1 c (ap memory_in e)) (seals_look r2 q m) b (there r1) (there r2)))))
        (λ c e. Gives-need _ _ _
        (λ q m. Gives-ask _ _ _
        (λ b. made_is _ _ (closed.sealed_seals (reg s.regs r1) (reg s.regs r2) c q
        (seals_look r1 c (ap seals_in e)) (seals_look r2 q m) b (there r1) (there r2))))))
    plan-Makes (Split r1 r2 r3 n) x t =
        Gives-ask _ _ _
        (λ _. Gives-ask _ _ _ (λ _. Gives-need _ _ _ (λ c m. Gives-need _ _ _ (λ z _. Gives-ask _ _ _ (λ b.
        gives_goes (
          closed.cut_low (reg s.regs r3) c z (memory_look r3 c m)
              b (there r3),
          closed.cut_high (reg s.regs r3) c z (memory_look r3 c m) b (there r3),
          next_is,
        ))))))
    plan-Makes (Splice r1 r2 r3) x t =
        Gives-ask _ _ _ (λ _. Gives-need _ _ _ (λ a ma. Gives-need _ _ _ (λ b mb. Gives-ask _ _ _ (λ q.
        (let p = and_parts (same_kind a b) _ q in
        gives_goes (
          closed.joined (reg s.regs r2) (reg s.regs r3) a b (memory_look r2 a ma) (memory_look r3 b mb)
              p.0 (eqb-true _ _ p.1) (there r2) (there r3),
          tt,
          next_is,
        ))))))

    move_in : (at used : Option ℕ) (cells : ℕ → Option Face) → ((a : ℕ) → used ≡ Some a → Q a)
        → (m : Option Moved) → ShapeMoved at used cells m → MoveIn Q m
    move_in at used cells k None h = tt
    move_in at used cells k (Some m) h = elim (m.from) as (λ p. ShapePlace at used cells p → PlaceIn Q p)
        [ R r ↦ λ x. tt | Cell a ↦ λ x. k a x.2 ] h.0

    after : (p : Plan) (at used : Option ℕ) (cells : ℕ → Option Face) → ((a : ℕ) → used ≡ Some a → Q a)
        → Gives (Shape at used cells) p → Gives (Makes plain S) p
        → After (AllAre S Q) (outcome look plain s p)
    after (Fails f) at used cells k g h = tt
    after Halts at used cells k g h = tt
    after (Goes e) at used cells k g h =
        perform_all look plain S Q (closed.ints (pos 0))
        s e (move_in at used cells k e.moved (Gives-effect g)) (Gives-effect h) all

    pub row_keeps : (n : Instr) → OpensTo look plain S s n
        → ((a : ℕ) → cell_used n (faces look s) (cell_faces look s) ≡ Some a → Q a)
        → After (AllAre S Q) (row look plain n next s)
    unfolding row plan_in
    row_keeps n x k = after _ _ (cell_used n (faces look s) (cell_faces look s)) (cell_faces look s)
        k (plan-Shape (faces look s) (opens look s) (cell_faces look s) next n) (plan-Makes n x _)

  -- pc's word at the next address has it too
  next_kept : (s : State W) → AllAre S Q s → (x : Word) → look (reg s.regs Pc) ≡ x → (cells : ℕ → Option Face)
      (n : Instr) (next : Word) → fetch (face_of x) cells ≡ some n next → S (plain next)
  next_kept s all x e cells n next f = let k =
      fetch_normal x cells n next f in rw k.3 (closed.moved (reg s.regs Pc) k.0 _ (e ∙ k.1) (all.0 Pc))

  fetched_keeps : (s : State W) → AllAre S Q s → (f : Fetched)
      → ((n : Instr) (next : Word) → f ≡ some n next → S (plain next)
      × (OpensTo look plain S s n
      × ((a : ℕ) → cell_used n (faces look s) (cell_faces look s) ≡ Some a → Q a)))
      → After (AllAre S Q) (step_fetched look plain s f)
  fetched_keeps s all (none c) k = tt
  fetched_keeps s all (some n next) k = let h = k n next refl in row_keeps s all next h.0 n h.1.0 h.1.1

  pub step_keeps : (s : State W) → AllAre S Q s → StepsWithin look plain S Q s
      → After (AllAre S Q) (step_of look plain s)
  unfolding step_of faces
  step_keeps s all k =
      fetched_keeps s all _
      (λ n next e. (next_kept s all (look (reg s.regs Pc)) refl (cell_faces look s) n next e, k n next e))

pub steps_keep_closed : {W : Type 0} (look : W → Word) (plain : Word → W) → StepsKeepClosed look plain
steps_keep_closed look plain test apart s closed all k =
    step_keeps look plain (λ w. IsTrue (test w)) (λ a. apart a ≡ false) closed s all k
