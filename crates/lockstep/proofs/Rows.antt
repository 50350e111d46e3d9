-- Two states whose words are related go through every row alike, where the words that it makes are related.
use Rattle.std.proofs.Common.{◌≡◌, ℕ, Bool, true, false, refl, sym, ap, ◌∙◌, inl, inr}
use Rattle.std.specs.Prelude.{Option, Some, None, is_some, if◌then◌else◌, unwrap_or}
use Rattle.std.proofs.lemmas.Bool.{cases_eq}
use Rattle.cap_words.specs.declared.Word.{Word}
use Rattle.cap_words.specs.declared.Word.TheVariants.{Sealed as SealedWord}
use Rattle.cap_words.specs.declared.SealFields.{SealFields}
use Rattle.cap_words.specs.declared.Face.{Face}
use Rattle.cap_words.specs.declared.Opened.{Opened}
use Rattle.cap_words.specs.declared.Content.{Content}
use Rattle.cap_words.specs.declared.Content.TheVariants.{Mem as MemC, Seal as SealC}
use Rattle.cap_words.specs.Face.{face_of}
use Rattle.cap_words.specs.Faces.{address, seals_at, face_linear, target_of, seals_in}
use Rattle.cap_words.specs.Linear.{is_linear, zero_word}
use Rattle.lcm_isa.specs.declared.Reg.{Reg}
use Rattle.lcm_isa.specs.declared.Reg.TheVariants.{Pc}
use Rattle.lcm_isa.specs.declared.Operand.TheVariants.{R as InReg, Imm}
use Rattle.lcm_isa.specs.declared.Instr.{Instr}
use Rattle.lcm_isa.specs.declared.Instr.TheVariants.{Fail, Halt, Jmp, Jnz, Gettype, Geta, Getb, Gete, Getp}
use Rattle.lcm_isa.specs.declared.Instr.TheVariants.{Getlin, Move, Store, Load, Cca, Restrict, Lt, Plus}
use Rattle.lcm_isa.specs.declared.Instr.TheVariants.{Minus, Seta2b, Xjmp, Cseal, Split, Splice}
use Rattle.lcm_machine.specs.declared.Place.{Place}
use Rattle.lcm_machine.specs.declared.Place.TheVariants.{R, Cell}
use Rattle.lcm_machine.specs.Plan.{Plan, Fails, Halts, Goes}
use Rattle.lcm_machine.specs.declared.plan.Effect.{Effect}
use Rattle.lcm_machine.specs.declared.plan.Made.{Made}
use Rattle.lcm_machine.specs.declared.plan.Moved.{Moved}
use Rattle.lcm_machine.specs.Maps.{State}
use Rattle.lcm_machine.specs.Places.{reg, set_reg}
use Rattle.lcm_machine.specs.Cells.{cell, set_cell}
use Rattle.lcm_machine.specs.Table.{plan, target, unsealed}
use Rattle.lcm_machine.specs.Row.{word_in, put, clear, move_on, spend, make, go_on, perform, faces, opens}
use Rattle.lcm_machine.specs.Row.{cell_faces, look_face, face_there, plan_in, outcome, row, pc_of, pc_at}
use Rattle.lcm_machine.specs.Row.{fetch, Outcome, went, halted, failed}
use Rattle.lcm_machine.proofs.Offers.{cases_reg, reg-set_same, reg-set_other, cell-set_same, cell-set_other}
use Rattle.lcm_machine.proofs.Offers.{is_linear-face, fetch_by, OpensSame, plan-opens, Gives, Gives-effect}
use Rattle.lcm_machine.proofs.Offers.{Gives-ask, Gives-need, Gives-by_cap, Gives-if, gives_fails, gives_halts}
use Rattle.lcm_machine.proofs.Offers.{gives_goes, Shape, ShapePlace, ShapeMoved, plan-Shape}
use Rattle.overlay_machine.specs.declared.words.OWord.{OWord}
use Rattle.lockstep.specs.Related.{CellPair, Twin}

-- ---- the words that a row makes: none is sealed but under a seal that a register has

abbrev pub Fresh : (Reg → Face) → Word → Type 0
Fresh f (SealedWord n x) =
    (r : Reg) × (q : SealFields) × (seals_in (f r) ≡ Some q) × (seals_at q q.cur ≡ true) × (n ≡ address q.cur)
Fresh f _ = Unit {0}

abbrev pub FreshMade : (Reg → Face) → Option Made → Type 0
FreshMade f None = Unit {0}
FreshMade f (Some m) = Fresh f m.word

abbrev pub FreshNext : (Reg → Face) → Option Word → Type 0
FreshNext f None = Unit {0}
FreshNext f (Some w) = Fresh f w

abbrev pub Makes : (Reg → Face) → Effect → Type 0
Makes f e = FreshMade f e.first × FreshMade f e.second × FreshNext f e.next

unsealed_fresh : (f : Reg → Face) (c : Content) → Fresh f (unsealed c)
unsealed_fresh f (MemC c) = tt
unsealed_fresh f (SealC s) = tt

module _ (f : Reg → Face) (w : Reg → Option Opened) (t : Option Face) (next : Word) (nx : Fresh f next) where
  pub plan-makes : (i : Instr) → Gives (Makes f) (plan i f w t next)
  plan-makes Fail = gives_fails
  plan-makes Halt = gives_halts
  plan-makes (Jmp r1) = gives_goes (tt, tt, tt)
  plan-makes (Jnz r1 r2) = Gives-need _ _ _ (λ z e.
      Gives-if _ _ _ (gives_goes (tt, tt, nx)) (gives_goes (tt, tt, tt)))
  plan-makes (Gettype r1 r2) = Gives-ask _ _ _ (λ _. gives_goes (tt, tt, nx))
  plan-makes (Geta r1 r2) = Gives-ask _ _ _ (λ _. gives_goes (tt, tt, nx))
  plan-makes (Getb r1 r2) = Gives-ask _ _ _ (λ _. gives_goes (tt, tt, nx))
  plan-makes (Gete r1 r2) = Gives-ask _ _ _ (λ _. gives_goes (tt, tt, nx))
  plan-makes (Getp r1 r2) = Gives-ask _ _ _ (λ _. gives_goes (tt, tt, nx))
  plan-makes (Restrict r1 n) =
      Gives-ask _ _ _ (λ _. Gives-need _ _ _ (λ c m. Gives-need _ _ _ (λ z _. Gives-need _ _ _ (λ q _.
      Gives-ask _ _ _ (λ _. gives_goes (tt, tt, nx))))))
  plan-makes (Minus r1 r2 n) = Gives-ask _ _ _ (λ _. Gives-need _ _ _ (λ x e. Gives-need _ _ _ (λ z _.
      Gives-ask _ _ _ (λ _. gives_goes (tt, tt, nx)))))
  plan-makes (Seta2b r1) =
      Gives-ask _ _ _
      (λ _. Gives-by_cap (f r1) _ _ (λ c e. gives_goes (tt, tt, nx)) (λ c e. gives_goes (tt, tt, nx)))
  plan-makes (Cseal r1 r2) = Gives-ask _ _ _ (λ _. Gives-by_cap (f r1) _ _
      (λ c e. Gives-need _ _ _ (λ q m. Gives-ask _ _ _ (λ b. gives_goes ((r2, q, m, b, refl), tt, nx))))
      (λ c e. Gives-need _ _ _ (λ q m. Gives-ask _ _ _ (λ b. gives_goes ((r2, q, m, b, refl), tt, nx)))))
  plan-makes (Getlin r1 r2) = Gives-ask _ _ _ (λ _. gives_goes (tt, tt, nx))
  plan-makes (Move r1 (InReg r2)) = Gives-ask _ _ _ (λ _. gives_goes (tt, tt, nx))
  plan-makes (Move r1 (Imm z)) = Gives-ask _ _ _ (λ _. gives_goes (tt, tt, nx))
  plan-makes (Store r1 r2) = Gives-need _ _ _ (λ c m. Gives-ask _ _ _ (λ may.
      Gives-need _ _ _ (λ x h. gives_goes (tt, tt, nx))))
  plan-makes (Load r1 r2) = Gives-ask _ _ _ (λ free. Gives-need _ _ _ (λ c m. Gives-ask _ _ _ (λ may.
      Gives-need _ _ _ (λ x h. Gives-ask _ _ _ (λ _. gives_goes (tt, tt, nx))))))
  plan-makes (Cca r1 n) = Gives-ask _ _ _ (λ _. Gives-by_cap (f r1) _ _
      (λ c e. Gives-need _ _ _ (λ z _. Gives-ask _ _ _ (λ _. gives_goes (tt, tt, nx))))
      (λ c e. Gives-need _ _ _ (λ z _. Gives-ask _ _ _ (λ _. gives_goes (tt, tt, nx)))))
  plan-makes (Plus r1 r2 n) = Gives-ask _ _ _ (λ _. Gives-need _ _ _ (λ x e. Gives-need _ _ _ (λ z _.
      Gives-ask _ _ _ (λ _. gives_goes (tt, tt, nx)))))
  plan-makes (Lt r1 r2 n) = Gives-ask _ _ _ (λ _. Gives-need _ _ _ (λ x e. Gives-need _ _ _ (λ z _.
      gives_goes (tt, tt, nx))))
  plan-makes (Xjmp r1 r2) = Gives-need _ _ _ (λ a e1. Gives-need _ _ _ (λ b e2.
      Gives-ask _ _ _ (λ _. Gives-need _ _ _ (λ c e. Gives-ask _ _ _ (λ _. Gives-ask _ _ _ (λ _.
      Gives-ask _ _ _ (λ _. gives_goes (tt, unsealed_fresh f b.content, tt))))))))
  plan-makes (Split r1 r2 r3 n) = Gives-ask _ _ _ (λ _. Gives-ask _ _ _ (λ _. Gives-need _ _ _ (λ c e.
      Gives-need _ _ _ (λ z _. Gives-ask _ _ _ (λ _. gives_goes (tt, tt, nx))))))
  plan-makes (Splice r1 r2 r3) = Gives-ask _ _ _ (λ _. Gives-need _ _ _ (λ a e. Gives-need _ _ _ (λ b h.
      Gives-ask _ _ _ (λ _. gives_goes (tt, tt, nx)))))

-- ---- related states

module _ (Rel : OWord → OWord → Type 0) (Free : ℕ → Type 0) where
  -- they end alike, and where they go on the new states are related again
  abbrev pub EndsTwin : Outcome OWord → Outcome OWord → Type 0
  EndsTwin (went s) (went t) = Twin Rel Free s t
  EndsTwin halted halted = Unit {0}
  EndsTwin (failed c at) (failed d to) = (c ≡ d) × (at ≡ to)
  EndsTwin _ _ = ⊥

module _ (look : OWord → Word) (plain : Word → OWord) (Rel : OWord → OWord → Type 0) (Free : ℕ → Type 0)
    (face_is : (w v : OWord) → Rel w v → face_of (look v) ≡ face_of (look w)) where
  abbrev T : State OWord → State OWord → Type 0
  T = Twin Rel Free

  abbrev CP : Option OWord → Option OWord → Type 0
  CP = CellPair Rel Free

  put_reg : (s t : State OWord) (r : Reg) (w v : OWord) → Rel w v → T s t → (d : Reg)
      → Rel (reg (set_reg s.regs r w) d) (reg (set_reg t.regs r v) d)
  put_reg s t r w v k h d =
      elim (cases_reg d r) as (λ _. Rel (reg (set_reg s.regs r w) d) (reg (set_reg t.regs r v) d)) [
        | inl same ↦ rw same (rw (reg-set_same s.regs r w, reg-set_same t.regs r v) k)
        | inr ne ↦ rw (reg-set_other s.regs r d w ne, reg-set_other t.regs r d v ne) (h.0 d)
      ]

  put_cell : (s t : State OWord) (a : ℕ) (w v : OWord) → Rel w v → T s t → (q : ℕ) → Free q
      → CP (cell (set_cell s.cells a w) q) (cell (set_cell t.cells a v) q)
  put_cell s t a w v k h q fr =
      elim (cases_eq q a)
      as (λ _. CP (cell (set_cell s.cells a w) q) (cell (set_cell t.cells a v) q)) [
        | inl same ↦ rw same (rw (cell-set_same s.cells a w, cell-set_same t.cells a v) k)
        | inr ne ↦ rw (cell-set_other s.cells a q w ne, cell-set_other t.cells a q v ne) (h.1 q fr)
      ]

  pub put_twin : (s t : State OWord) (p : Place) (w v : OWord) → Rel w v → T s t
      → T (put s p w) (put t p v)
  put_twin s t (R r) w v k h = (put_reg s t r w v k h, h.1)
  put_twin s t (Cell a) w v k h = (h.0, put_cell s t a w v k h)

  pub linear_pair : (w v : OWord) → Rel w v → is_linear (look v) ≡ is_linear (look w)
  linear_pair w v h =
      is_linear-face (look v) ∙ ap face_linear (face_is w v h) ∙ sym (is_linear-face (look w))

  pub faces_twin : (s t : State OWord) → T s t → faces look t ≡ faces look s
  unfolding faces
  faces_twin s t h = λ i r. face_is (reg s.regs r) (reg t.regs r) (h.0 r) i

  there_pair : (o q : Option OWord) → CP o q → is_some o ≡ true → is_some q ≡ true
      → look_face look q ≡ look_face look o
  there_pair None q h k m = absurd (let bad : false ≡ true = k in cc)
  there_pair (Some w) None h k m = absurd (let bad : false ≡ true = m in cc)
  there_pair (Some w) (Some v) h k m = ap Some (face_is w v h)

  -- a free address at which both have a cell
  abbrev pub HaveBoth : State OWord → State OWord → ℕ → Type 0
  HaveBoth s t a = Free a × (is_some (cell s.cells a) ≡ true) × (is_some (cell t.cells a) ≡ true)

  -- an address that is named is such a one
  abbrev pub IsFree : State OWord → State OWord → Option ℕ → Type 0
  IsFree s t at = (a : ℕ) → at ≡ Some a → HaveBoth s t a

  there_twin : (s t : State OWord) (at : Option ℕ) → IsFree s t at → T s t
      → face_there (cell_faces look t) at ≡ face_there (cell_faces look s) at
  unfolding cell_faces
  there_twin s t None k h = refl
  there_twin s t (Some a) k h = let f = k a refl in
      there_pair (cell s.cells a) (cell t.cells a) (h.1 a f.0) f.1 f.2

  pub fetch_twin : (s t : State OWord) → T s t → IsFree s t (target_of (faces look s Pc))
      → fetch (faces look t Pc) (cell_faces look t) ≡ fetch (faces look s Pc) (cell_faces look s)
  fetch_twin s t h free =
      ap (λ g. fetch (g Pc) (cell_faces look t)) (faces_twin s t h)
      ∙ fetch_by (faces look s Pc) _ _ (there_twin s t (target_of (faces look s Pc)) free h)

  module _ (zero : Rel (zero_word plain) (zero_word plain)) where
    -- a place that is a register, or a free cell
    abbrev FreePlace : State OWord → State OWord → Place → Type 0
    FreePlace s t (R r) = Unit {0}
    FreePlace s t (Cell a) = HaveBoth s t a

    cell_word : (o q : Option OWord) → CP o q → is_some o ≡ true → is_some q ≡ true
        → Rel (unwrap_or o (zero_word plain)) (unwrap_or q (zero_word plain))
    cell_word None q h k m = absurd (let bad : false ≡ true = k in cc)
    cell_word (Some w) None h k m = absurd (let bad : false ≡ true = m in cc)
    cell_word (Some w) (Some v) h k m = h

    word_twin : (s t : State OWord) (p : Place) → FreePlace s t p → T s t
        → Rel (word_in plain s p) (word_in plain t p)
    word_twin s t (R r) k h = h.0 r
    word_twin s t (Cell a) k h = cell_word (cell s.cells a) (cell t.cells a) (h.1 a k.0) k.1 k.2

    clear_by : (b c : Bool) → c ≡ b → (s t : State OWord) (p : Place) → T s t
        → T (if b then put s p (zero_word plain) else s) (if c then put t p (zero_word plain) else t)
    clear_by true true e s t p h = put_twin s t p _ _ zero h
    clear_by false false e s t p h = h
    clear_by true false e s t p h = cc
    clear_by false true e s t p h = cc

    pub clear_twin : (s t : State OWord) (p : Place) → FreePlace s t p → T s t
        → T (clear look plain s p) (clear look plain t p)
    unfolding clear
    clear_twin s t p k h = clear_by _ _ (linear_pair _ _ (word_twin s t p k h)) s t p h

    abbrev FreeMove : State OWord → State OWord → Option Moved → Type 0
    FreeMove s t None = Unit {0}
    FreeMove s t (Some m) = FreePlace s t m.from

    move_twin : (s t : State OWord) (m : Option Moved) → FreeMove s t m → T s t
        → T (move_on look plain s m) (move_on look plain t m)
    move_twin s t None k h = h
    move_twin s t (Some m) k h = put_twin _ _ m.to _ _ (word_twin s t m.from k h) (clear_twin s t m.from k h)

    spend_twin : (s t : State OWord) (r : Option Reg) → T s t
        → T (spend look plain s r) (spend look plain t r)
    spend_twin s t None h = h
    spend_twin s t (Some r) h = clear_twin s t (R r) tt h

    -- the words that are made are related to themselves
    abbrev MadeOwn : Option Made → Type 0
    MadeOwn None = Unit {0}
    MadeOwn (Some m) = Rel (plain m.word) (plain m.word)

    abbrev NextOwn : Option Word → Type 0
    NextOwn None = Unit {0}
    NextOwn (Some w) = Rel (plain w) (plain w)

    make_twin : (s t : State OWord) (m : Option Made) → MadeOwn m → T s t
        → T (make plain s m) (make plain t m)
    make_twin s t None k h = h
    make_twin s t (Some m) k h = put_twin s t (R m.reg) _ _ k h

    go_twin : (s t : State OWord) (m : Option Word) → NextOwn m → T s t
        → T (go_on plain s m) (go_on plain t m)
    go_twin s t None k h = h
    go_twin s t (Some w) k h = put_twin s t (R Pc) _ _ k h

    perform_twin : (s t : State OWord) (e : Effect) → FreeMove s t e.moved
        → MadeOwn e.first × MadeOwn e.second × NextOwn e.next → T s t
        → T (perform look plain s e) (perform look plain t e)
    unfolding perform
    perform_twin s t e k m h =
        go_twin _ _ e.next m.2
        (make_twin _ _ e.second m.1
        (make_twin _ _ e.first m.0
        (spend_twin _ _ e.also_spent (spend_twin _ _ e.spent (move_twin s t e.moved k h)))))

    free_move : (s t : State OWord) (at used : Option ℕ) (cells : ℕ → Option Face) → IsFree s t at
        → (m : Option Moved) → ShapeMoved at used cells m → FreeMove s t m
    free_move s t at used cells k None h = tt
    free_move s t at used cells k (Some m) h = elim (m.from)
        as (λ p. ShapePlace at used cells p → FreePlace s t p)
        [ R r ↦ λ x. tt | Cell a ↦ λ x. k a x.0 ] h.0

    outcome_twin : (s t : State OWord) (p : Plan) (at used : Option ℕ) (cells : ℕ → Option Face)
        → IsFree s t at → Gives (Shape at used cells) p
        → Gives (λ e. MadeOwn e.first × MadeOwn e.second × NextOwn e.next) p → T s t
        → EndsTwin Rel Free (outcome look plain s p) (outcome look plain t p)
    unfolding pc_at
    outcome_twin s t (Fails c) at used cells k g m h =
        (refl, ap (λ fs. pc_of (fs Pc)) (sym (faces_twin s t h)))
    outcome_twin s t Halts at used cells k g m h = tt
    outcome_twin s t (Goes e) at used cells k g m h =
        perform_twin s t e (free_move s t at used cells k e.moved (Gives-effect g)) (Gives-effect m) h

    module _ (s t : State OWord) (fresh : (w : Word) → Fresh (faces look s) w → Rel (plain w) (plain w)) where
      made_own : (m : Option Made) → FreshMade (faces look s) m → MadeOwn m
      made_own None h = tt
      made_own (Some m) h = fresh m.word h

      next_own : (m : Option Word) → FreshNext (faces look s) m → NextOwn m
      next_own None h = tt
      next_own (Some w) h = fresh w h

      gives_own : (p : Plan) → Gives (Makes (faces look s)) p
          → Gives (λ e. MadeOwn e.first × MadeOwn e.second × NextOwn e.next) p
      gives_own (Fails c) g = gives_fails
      gives_own Halts g = gives_halts
      gives_own (Goes e) g =
          let m = Gives-effect g in
          gives_goes (made_own e.first m.0, made_own e.second m.1, next_own e.next m.2)

      -- what a row does where it opens the same in both
      pub row_twin : (i : Instr) (next : Word) → Fresh (faces look s) next → T s t
          → OpensSame (opens look t) (opens look s) i → IsFree s t (target i (faces look s))
          → EndsTwin Rel Free (row look plain i next s) (row look plain i next t)
      unfolding row plan_in
      row_twin i next nx h same free =
          let one : plan i (faces look t) (opens look t)
          (face_there (cell_faces look t) (target i (faces look t))) next ≡ plan i (faces look s)
          (opens look s) (face_there (cell_faces look s) (target i (faces look s))) next =
          ap (λ fs. plan i fs (opens look t) (face_there (cell_faces look t) (target i fs)) next)
          (faces_twin s t h)
          ∙ ap (λ c. plan i (faces look s) (opens look t) c next)
          (there_twin s t (target i (faces look s)) free h)
          ∙ plan-opens i (faces look s) (opens look t) (opens look s) _ next same in
          rw one (outcome_twin s t _ (target i (faces look s)) _ (cell_faces look s)
          free (plan-Shape (faces look s) (opens look s) (cell_faces look s) next i)
          (gives_own _ (plan-makes (faces look s) (opens look s) _ next nx i)) h)
