-- An instruction that goes leaves registers that fit the row after it.
use Rattle.std.proofs.Common.{◌≡◌, ◌≢◌, ℕ, zero, suc, ◌+◌, ◌<◌, ◌≤◌, ◌⊎◌, inl, inr, Bool, true, false, List}
use Rattle.std.proofs.Common.{[], ◌∷◌, length, get_or, Option, Some, None, refl, sym, ap, ◌∙◌, subst, arith}
use Rattle.std.proofs.Common.{ℤ, pos, negsuc, ◌+ℤ◌}
use Rattle.std.specs.Prelude.{if◌then◌else◌, unwrap_or, not, nat_le, ◌==◌}
use Rattle.std.specs.Ordering.{nat_cmp}
use Rattle.std.specs.FinMap.{FinMap}
use Rattle.std.proofs.lemmas.Bool.{cases_eq, leb-true, not-true, and_parts}
use Rattle.cap_words.specs.declared.Word.{Word}
use Rattle.cap_words.specs.declared.Word.TheVariants.{Int, Mem}
use Rattle.cap_words.specs.declared.CapFields.{CapFields}
use Rattle.cap_words.specs.declared.SealFields.{SealFields}
use Rattle.cap_words.specs.declared.Opened.{Opened}
use Rattle.cap_words.specs.declared.Face.{Face}
use Rattle.cap_words.specs.declared.Face.TheVariants.{Memory, Seals}
use Rattle.cap_words.specs.Linear.{is_linear, zero_word}
use Rattle.cap_words.specs.Face.{face_of, opened_of}
use Rattle.cap_words.specs.Faces.{covers, address, target_of, may_run}
use Rattle.component_file.specs.declared.component.Kind.{Kind}
use Rattle.component_file.specs.declared.component.Kind.TheVariants as kind
use Rattle.lcm_isa.specs.declared.Reg.{Reg}
use Rattle.lcm_isa.specs.declared.Reg.TheVariants.{Pc, Rcode, Rdata, Stk, Dat, T1, T2, C1, C2, A0, A1, A2, A3}
use Rattle.lcm_isa.specs.declared.Reg.TheVariants.{G0, G1, G2}
use Rattle.lcm_isa.specs.declared.Operand.{Operand}
use Rattle.lcm_isa.specs.declared.Operand.TheVariants.{R as InReg, Imm}
use Rattle.lcm_isa.specs.declared.Instr.{Instr}
use Rattle.lcm_isa.specs.declared.Instr.TheVariants.{Fail, Halt, Jmp, Jnz, Gettype, Geta, Getb, Gete, Getp}
use Rattle.lcm_isa.specs.declared.Instr.TheVariants.{Getlin, Move, Store, Load, Cca, Restrict, Lt, Plus}
use Rattle.lcm_isa.specs.declared.Instr.TheVariants.{Minus, Seta2b, Xjmp, Cseal, Split, Splice}
use Rattle.lcm_machine.specs.declared.Place.TheVariants.{R, Cell}
use Rattle.lcm_machine.specs.Plan.{Plan, Goes}
use Rattle.lcm_machine.specs.declared.plan.Effect.{Effect}
use Rattle.lcm_machine.specs.Maps.{Regs, State}
use Rattle.lcm_machine.specs.Places.{reg, set_reg}
use Rattle.lcm_machine.specs.Cells.{cell, set_cell}
use Rattle.lcm_machine.specs.Table.{is_pc, is_zero, target, makes, moves, jumps, goes_on, memory_content}
use Rattle.lcm_machine.specs.Table.{unsealed, runs_in, no_effect, made}
use Rattle.lcm_machine.specs.Table as table
use Rattle.lcm_machine.specs.Row.{word_in, put, clear, perform, opens, faces, cell_faces, face_there, plan_in}
use Rattle.lcm_machine.proofs.Offers.{cases_reg, reg-set_same, reg-set_other, cell-set_other, cell-set_same}
use Rattle.lcm_machine.proofs.Offers.{Gives, gives_fails, gives_halts, gives_goes, Gives-ask, Gives-need}
use Rattle.lcm_machine.proofs.Offers.{Gives-by_cap, Gives-if, memory_is, covered}
use Rattle.call_sequence.specs.Kinds.{Row, kind_of, set_kind, below_any}
use Rattle.call_sequence.specs.declared.flow.Flow.{Flow}
use Rattle.call_sequence.specs.declared.flow.Flow.TheVariants.{Flows as flows}
use Rattle.call_sequence.specs.Flow.{flow, ask, source, is_area, on, into, taken, take_from, led, in_code}
use Rattle.call_sequence.specs.Flow.{led_to, by_target, cca_of, handed, shows_nothing}
use Rattle.std.specs.List.{list_all}
use Rattle.std.proofs.Math.IntN.{+ℤ_assoc}
use Rattle.call_sequence.specs.Holds.{Ranges, data_cap, part_stack_cap, code_at, Up, HasKind, HasKinds, PcAt}
use Rattle.call_sequence.specs.Holds.{SafeCells, SameOthers}
use Rattle.call_sequence.proofs.Fitting.{fits_new, fits_set, fits_keep, fits_pc, is_safe}

-- ---- what a flow that isn't broken says

ask_flows : (rule : ℕ) (b : Bool) (f : Flow) (t : Option ℕ) (a : Option Row) → ask rule b f ≡ flows t a
    → (b ≡ true) × (f ≡ flows t a)
unfolding ask
ask_flows rule true f t a e = (refl, e)
ask_flows rule false f t a e = cc

module _ {W : Type 0} (look : W → Word) (plain : Word → W) (look_plain : (x : Word) → look (plain x) ≡ x)
    (Safe : W → Type 0) (Has Open : ℕ → Type 0) (part : Ranges)
    (safe_int : (w : W) (z : ℤ) → look w ≡ Int z → Safe w)
    (safe_stk : (w : W) (end : ℕ) (at : ℤ) → look w ≡ Mem (part_stack_cap part end at) → Up Has part end
    → Safe w)
    (open_data : (a : ℕ) → part.data_base ≤ a → a ≤ part.data_last → Open a)
    (open_stack : (a : ℕ) → Has a → Open a) where
  abbrev Kinded : Kind → W → Type 0
  Kinded k w = HasKind look Safe Has part k w

  abbrev FitsRow : Row → Regs W → Type 0
  FitsRow row rs = HasKinds look Safe Has part row rs

  safe_zero : Safe (zero_word plain)
  safe_zero = safe_int (zero_word plain) (pos 0) (look_plain (Int (pos 0)))

  int_kind : (z : ℤ) → Kinded kind.Int (plain (Int z))
  int_kind z = (z, look_plain (Int z))

  -- ---- a taking

  -- what a place is left with
  left : W → W
  left w = if is_linear (look w) then zero_word plain else w

  left_kind : (k : Kind) (w : W) → Kinded k w
      → Kinded (taken k) (if is_linear (look w) then zero_word plain else w)
  left_kind kind.Any w h = by_lin (is_linear (look w))
    where
      by_lin : (b : Bool) → Safe (if b then zero_word plain else w)
      by_lin true = safe_zero
      by_lin false = h
  left_kind kind.Int w h = rw h.1 h
  left_kind kind.DataCap w h = rw h.1 h
  left_kind kind.Stk w h = rw h.2 (int_kind (pos 0))
  left_kind (kind.Pc o) w h = rw h h
  left_kind kind.Top w h = tt

  -- the registers after a taking
  cleared_regs : (s : State W) (r : Reg) (b : Bool) (d : Reg) → d ≢ r
      → reg (if b then put s (R r) (zero_word plain) else s).regs d ≡ reg s.regs d
  cleared_regs s r true d ne = reg-set_other s.regs r d (zero_word plain) ne
  cleared_regs s r false d ne = refl

  cleared_reg : (s : State W) (r : Reg) (b : Bool)
      → reg (if b then put s (R r) (zero_word plain) else s).regs r
      ≡ (if b then zero_word plain else reg s.regs r)
  cleared_reg s r true = reg-set_same s.regs r (zero_word plain)
  cleared_reg s r false = refl

  cleared_cells : (s : State W) (r : Reg) (b : Bool)
      → (if b then put s (R r) (zero_word plain) else s).cells ≡ s.cells
  cleared_cells s r true = refl
  cleared_cells s r false = refl

  -- a taking from a register of the row
  fits_taken : (row : Row) (s : State W) (r : Reg) → is_pc r ≡ false → FitsRow row s.regs
      → FitsRow (set_kind row r (taken (kind_of row r))) (clear look plain s (R r)).regs
  unfolding clear
  fits_taken row s r p f =
      fits_new look Safe Has part row s.regs _ r (taken (kind_of row r))
      p f (λ d q ne. cleared_regs s r (is_linear (look (reg s.regs r))) d ne)
      (rw (cleared_reg s r (is_linear (look (reg s.regs r))))
      (left_kind (kind_of row r) (reg s.regs r) (f.each r p)))

  -- the word of pc stays
  clear_pc : (s : State W) (o : ℕ) (r : Reg) → r ≡ Pc → PcAt look part o s.regs → clear look plain s (R r) ≡ s
  unfolding clear
  clear_pc s o r e h = rw (e, h) refl

  is_pc_is : (r : Reg) → is_pc r ≡ true → r ≡ Pc
  is_pc_is r e = elim (cases_reg r Pc) as (λ _. r ≡ Pc) [ inl m ↦ m | inr ne ↦ absurd (no_pc r ne e) ]
    where
      no_pc : (r : Reg) → r ≢ Pc → is_pc r ≡ true → ⊥
      no_pc Pc ne e = ne refl
      no_pc r ne e = cc

  -- a taking from any register of a row at an offset
  fits_take : (row : Row) (s : State W) (o : ℕ) (r : Reg) → PcAt look part o s.regs → FitsRow row s.regs
      → FitsRow (take_from row r) (clear look plain s (R r)).regs
  fits_take row s o r h f = by_pc (is_pc r) refl
    where
      by_pc : (b : Bool) → is_pc r ≡ b
          → FitsRow (if b then row else set_kind row r (taken (kind_of row r)))
          (clear look plain s (R r)).regs
      by_pc true e = rw (clear_pc s o r (is_pc_is r e) h) f
      by_pc false e = fits_taken row s r e f

  source_kind : (row : Row) (s : State W) (o : ℕ) (r : Reg) → PcAt look part o s.regs → FitsRow row s.regs
      → Kinded (source o row r) (reg s.regs r)
  source_kind row s o r h f = by_pc (is_pc r) refl
    where
      by_pc : (b : Bool) → is_pc r ≡ b → Kinded (if b then kind.Pc o else kind_of row r) (reg s.regs r)
      by_pc true e = rw (is_pc_is r e) h
      by_pc false e = f.each r e

  take_cells : (s : State W) (r : Reg) → (clear look plain s (R r)).cells ≡ s.cells
  unfolding clear
  take_cells s r = cleared_cells s r (is_linear (look (reg s.regs r)))

  -- ---- where an instruction lands

  pub data Lands (this : Instr) (o : ℕ) (row : Row) (s s' : State W) : Option ℕ → Option Row → Type 0 where
    lands_on : {t : Option ℕ} {q : Row} → PcAt look part (o + 1) s'.regs → FitsRow q s'.regs
        → Lands this o row s s' t (Some q)
    lands_at : {t : ℕ} {after : Option Row} → PcAt look part t s'.regs → FitsRow row s'.regs
        → Lands this o row s s' (Some t) after
    crosses : (r1 r2 : Reg) (code half : Opened) (c : CapFields) → this ≡ Xjmp r1 r2 → Safe (reg s.regs r1)
        → Safe (reg s.regs r2)
        → opened_of (look (reg s.regs r1)) ≡ Some code → opened_of (look (reg s.regs r2)) ≡ Some half
        → (code.seal == half.seal) ≡ true → memory_content code.content ≡ Some c
        → may_run c.perm ≡ true → not (runs_in half.content) ≡ true → reg s'.regs Pc ≡ plain (Mem c)
        → reg s'.regs Dat ≡ plain (unsealed half.content)
        → ((d : Reg) → is_pc d ≡ false → d ≢ Dat → Safe (reg s'.regs d)) → Lands this o row s s' None None

  pub record Kept (this : Instr) (o : ℕ) (row : Row) (t : Option ℕ) (after : Option Row)
      (s s' : State W) : Type 0 where
    pub lands : Lands this o row s s' t after
    pub safe_cells : SafeCells Safe Open s'.cells
    pub others : SameOthers Open s.cells s'.cells

  -- pc's word at the next address
  abbrev after_pc : ℕ → Word
  after_pc o = Mem (record (code_at part o) { addr = pos (part.code_base + o) +ℤ pos 1 })

  next_at : (o : ℕ) (rs : Regs W) → PcAt look part (o + 1) (set_reg rs Pc (plain (after_pc o)))
  next_at o rs = let e : part.code_base + o + 1 ≡ part.code_base + (o + 1) =
      omega arith in look_plain (after_pc o) ∙ ap (λ a. Mem (record (code_at part o) { addr = pos a })) e

  module _ (this : Instr) (o : ℕ) (row : Row) (s : State W) (at_pc : PcAt look part o s.regs)
      (f : FitsRow row s.regs) (safe : SafeCells Safe Open s.cells) where
    abbrev Done : Option ℕ → Option Row → Effect → Type 0
    Done t after e = Kept this o row t after s (perform look plain s e)

    -- a register gets a new word
    done_makes : (r : Reg) (k : Kind) (w : Word) → is_pc r ≡ false → Kinded k (plain w)
        → Gives (Done None (Some (set_kind row r k))) (makes r w (after_pc o))
    unfolding perform
    done_makes r k w p h = gives_goes (record {
      lands = lands_on (next_at o (set_reg s.regs r (plain w)))
          (fits_pc look Safe Has part _ (set_reg s.regs r (plain w))
          _ (fits_set look Safe Has part row s.regs r k (plain w) p f h));
      safe_cells = safe;
      others = λ a h. refl;
    })

    -- a register gets a new word of its own kind
    done_keeps : (r : Reg) (w : Word) → (is_pc r ≡ false → Kinded (kind_of row r) (plain w))
        → Gives (Done None (Some row)) (makes r w (after_pc o))
    unfolding perform
    done_keeps r w h = gives_goes (record {
      lands = lands_on (next_at o (set_reg s.regs r (plain w)))
          (fits_pc look Safe Has part row (set_reg s.regs r (plain w))
          _ (fits_keep look Safe Has part row s.regs r (plain w) f h));
      safe_cells = safe;
      others = λ a h. refl;
    })

    -- pc goes on
    done_on : (t : Option ℕ) → Gives (Done t (Some row)) (goes_on (after_pc o))
    unfolding perform
    done_on t = gives_goes (record {
      lands = lands_on (next_at o s.regs) (fits_pc look Safe Has part row s.regs _ f);
      safe_cells = safe;
      others = λ a h. refl;
    })

    -- a word is moved
    done_moves : (r q : Reg) → is_pc r ≡ false
        → Gives (Done None (Some (set_kind (take_from row q) r (source o row q))))
        (moves (R q) (R r) (Some (after_pc o)))
    unfolding perform
    done_moves r q p = gives_goes (record {
      lands = lands_on (next_at o (set_reg (clear look plain s (R q)).regs r (reg s.regs q)))
          (fits_pc look Safe Has part _ (set_reg (clear look plain s (R q)).regs r (reg s.regs q)) _
          (fits_set look Safe Has part (take_from row q) (clear look plain s (R q)).regs r (source o row q)
          (reg s.regs q) p (fits_take row s o q at_pc f) (source_kind row s o q at_pc f)));
      safe_cells = rw (take_cells s q) safe;
      others = λ a h. rw (take_cells s q) refl;
    })

    -- a jump to an offset
    stays_code : (r : Reg) (t : ℕ) → look (reg s.regs r) ≡ Mem (code_at part t) → clear look plain s (R r) ≡ s
    unfolding clear
    stays_code r t h = rw h refl

    done_jumps : (r : Reg) (t : ℕ) (after : Option Row) → source o row r ≡ kind.Pc t
        → Gives (Done (Some t) after) (jumps r)
    unfolding perform
    done_jumps r t after e =
        let k : look (reg s.regs r) ≡ Mem (code_at part t) =
        (let m = source_kind row s o r at_pc f in rw e at m) in
        gives_goes (record {
          lands = rw (stays_code r t k)
              (lands_at (ap look (reg-set_same s.regs Pc (reg s.regs r)) ∙ k)
              (fits_pc look Safe Has part row s.regs (reg s.regs r) f));
          safe_cells = rw (stays_code r t k) safe;
          others = λ a h. rw (stays_code r t k) refl;
        })

    -- ---- cells

    covers_at : (c : CapFields) (z : ℤ) → covers c z ≡ true → (c.base ≤ address z) × (address z ≤ c.end)
    covers_at c (pos a) h = (
      leb-true c.base a (and_parts (nat_le c.base a) (nat_le a c.end) h).0,
      leb-true a c.end
          (and_parts (nat_le c.base a) (nat_le a c.end) h).1,
    )
    covers_at c (negsuc a) h = cc

    there_at : (c : CapFields) (cells : ℕ → Option Face) (x : Face)
        → face_there cells (target_of (Memory c)) ≡ Some x
        → (covers c c.addr ≡ true) × (cells (address c.addr) ≡ Some x)
    there_at c cells x = by_cover (covers c c.addr)
      where
        by_cover : (b : Bool) → face_there cells (if b then Some (address c.addr) else None) ≡ Some x
            → (b ≡ true) × (cells (address c.addr) ≡ Some x)
        by_cover true e = (refl, e)
        by_cover false e = cc

    -- a capability over own data or the stack covers addresses that untrusted code may reach
    open_area : (k : Kind) (w : W) (c : CapFields) (a : ℕ) → is_area k ≡ true → Kinded k w
        → face_of (look w) ≡ Memory c → c.base ≤ a → a ≤ c.end → Open a
    open_area kind.DataCap w c a g h e low high =
        let m : Memory (data_cap part h.0) ≡ Memory c = sym (ap face_of h.1) ∙ e in
        let n : data_cap part h.0 ≡ c = cc in
        open_data a (let P : CapFields → Type 0 = λ x. x.base ≤ a in subst P (sym n) low)
        (let P : CapFields → Type 0 = λ x. a ≤ x.end in subst P (sym n) high)
    open_area kind.Stk w c a g h e low high =
        let m : Memory (part_stack_cap part h.0 h.1) ≡ Memory c = sym (ap face_of h.2) ∙ e in
        let n : part_stack_cap part h.0 h.1 ≡ c = cc in
        open_stack a
        (h.3.1 a (let P : CapFields → Type 0 = λ x. x.base ≤ a in subst P (sym n) low)
        (let P : CapFields → Type 0 = λ x. a ≤ x.end in subst P (sym n) high))
    open_area kind.Any w c a g h e low high = cc
    open_area kind.Int w c a g h e low high = cc
    open_area (kind.Pc p) w c a g h e low high = cc
    open_area kind.Top w c a g h e low high = cc

    -- a safe word is set where untrusted code may reach
    set_safe : (m : FinMap nat_cmp W) (a : ℕ) (w : W) → Safe w → SafeCells Safe Open m
        → SafeCells Safe Open (set_cell m a w)
    set_safe m a w h g b v k e = elim (cases_eq b a) as (λ _. Safe v) [
      | inl same ↦
          (let n : Some w ≡ Some v = sym (cell-set_same m a w) ∙ ap (cell (set_cell m a w)) (sym same)
          ∙ e in let x : w ≡ v = cc in rw (← x) h)
      | inr ne ↦ g b v k (sym (cell-set_other m a b w ne) ∙ e)
    ]

    set_others : (m : FinMap nat_cmp W) (a : ℕ) (w : W) → Open a → SameOthers Open m (set_cell m a w)
    set_others m a w h b closed = cell-set_other m a b w (λ e. closed (rw e h))

    -- the cell that a capability over own data or the stack goes to
    reached : (r : Reg) (c : CapFields) (x : Face) → is_area (source o row r) ≡ true
        → face_of (look (reg s.regs r)) ≡ Memory c
        → face_there (cell_faces look s) (target_of (face_of (look (reg s.regs r)))) ≡ Some x
        → Open (address c.addr)
    reached r c x g e h =
        let k : face_there (cell_faces look s) (target_of (Memory c)) ≡ Some x =
        ap (λ y. face_there (cell_faces look s) (target_of y)) (sym e) ∙ h in
        let w = covers_at c c.addr (there_at c (cell_faces look s) x k).0 in
        open_area (source o row r) (reg s.regs r) c (address c.addr) g (source_kind row s o r at_pc f)
        e w.0 w.1

    -- a safe word is stored
    done_store : (r : Reg) (a : ℕ) → Open a → Safe (reg s.regs r)
        → Gives (Done None (Some (take_from row r))) (moves (R r) (Cell a) (Some (after_pc o)))
    unfolding perform
    done_store r a op h = gives_goes (record {
      lands = lands_on (next_at o (clear look plain s (R r)).regs)
          (fits_pc look Safe Has part _ (clear look plain s (R r)).regs _ (fits_take row s o r at_pc f));
      safe_cells = rw (take_cells s r) (set_safe s.cells a (reg s.regs r) h safe);
      others = rw (take_cells s r) (set_others s.cells a (reg s.regs r) op);
    })

    -- a word is loaded
    loaded : (a : ℕ) → Open a → Safe (word_in plain s (Cell a))
    loaded a op = by_cell (cell s.cells a) refl
      where
        by_cell : (w : Option W) → cell s.cells a ≡ w → Safe (unwrap_or w (zero_word plain))
        by_cell None e = safe_zero
        by_cell (Some w) e = safe a w op e

    emptied_regs : (a : ℕ) (b : Bool) → (if b then put s (Cell a) (zero_word plain) else s).regs ≡ s.regs
    emptied_regs a true = refl
    emptied_regs a false = refl

    emptied_safe : (a : ℕ) (b : Bool)
        → SafeCells Safe Open (if b then put s (Cell a) (zero_word plain) else s).cells
    emptied_safe a true = set_safe s.cells a (zero_word plain) safe_zero safe
    emptied_safe a false = safe

    emptied_others : (a : ℕ) (b : Bool) → Open a
        → SameOthers Open s.cells (if b then put s (Cell a) (zero_word plain) else s).cells
    emptied_others a true op = set_others s.cells a (zero_word plain) op
    emptied_others a false op = λ x h. refl

    done_load : (r : Reg) (a : ℕ) → is_pc r ≡ false → Open a
        → Gives (Done None (Some (set_kind row r kind.Any))) (moves (Cell a) (R r) (Some (after_pc o)))
    unfolding perform clear
    done_load r a p op =
        let lin = is_linear (look (word_in plain s (Cell a))) in
        gives_goes (record {
          lands = rw (emptied_regs a lin) (lands_on (next_at o (set_reg s.regs r (word_in plain s (Cell a))))
              (fits_pc look Safe Has part _ (set_reg s.regs r (word_in plain s (Cell a)))
              _ (fits_set look Safe Has part row s.regs r kind.Any _ p f (loaded a op))));
          safe_cells = emptied_safe a lin;
          others = emptied_others a lin op;
        })

    safe_source : (r : Reg) → below_any (source o row r) ≡ true → Safe (reg s.regs r)
    safe_source r b = is_safe look Safe Has part safe_int safe_stk (source o row r) (reg s.regs r)
        b (source_kind row s o r at_pc f)

    -- ---- the instructions

    as_flow : (t : Option ℕ) (a : Option Row) (u : Option ℕ) (b : Option Row) (p : Plan)
        → flows t a ≡ flows u b → Gives (Done t a) p → Gives (Done u b) p
    as_flow t a u b p e h =
        let m : t ≡ u = cc in
        let n : a ≡ b = cc in
        subst (λ x. Gives (Done x b) p) m (subst (λ y. Gives (Done t y) p) n h)

    -- an integer is made
    ints : (r : Reg) (z : ℤ)
        → Gives (Done None (Some (set_kind row r kind.Int))) (table.into r (makes r (Int z) (after_pc o)))
    ints r z = Gives-ask _ _ _ (λ p. done_makes r kind.Int (Int z) (not-true (is_pc r) p) (int_kind z))

    abbrev Flows : Instr → Option ℕ → Option Row → Type 0
    Flows i t a = flow i o row ≡ flows t a

    abbrev Keeps : Instr → Type 0
    Keeps i = (t : Option ℕ) (a : Option Row) → flow i o row ≡ flows t a
        → Gives (Done t a) (plan_in look s i (after_pc o))

    -- what is left of a flow into a register, after its tests
    into_flows : (r : Reg) (b : Bool) (x : Flow) (t : Option ℕ) (a : Option Row)
        → into r (ask 6 b x) ≡ flows t a → x ≡ flows t a
    into_flows r b x t a e = (ask_flows 6 b x t a (ask_flows 5 (not (is_pc r)) (ask 6 b x) t a e).1).1

    kept_gettype : (r1 r2 : Reg) → Keeps (Gettype r1 r2)
    unfolding flow plan_in
    kept_gettype r1 r2 t a e = as_flow _ _ t a _ (into_flows r1 _ _ t a e) (ints r1 _)

    kept_lt : (r1 r2 : Reg) (n : Operand) → Keeps (Lt r1 r2 n)
    unfolding flow plan_in
    kept_lt r1 r2 n t a e = as_flow _ _ t a _ (into_flows r1 _ _ t a e) (
        Gives-ask _ _ _ (λ p. Gives-need _ _ _ (λ x _. Gives-need _ _ _ (λ z _.
        done_makes r1 kind.Int _ (not-true (is_pc r1) p) (int_kind _)))))

    kept_plus : (r1 r2 : Reg) (n : Operand) → Keeps (Plus r1 r2 n)
    unfolding flow plan_in
    kept_plus r1 r2 n t a e = as_flow _ _ t a _ (into_flows r1 _ _ t a e) (
        Gives-ask _ _ _ (λ p. Gives-need _ _ _ (λ x _. Gives-need _ _ _ (λ z _. Gives-ask _ _ _ (λ _.
        done_makes r1 kind.Int _ (not-true (is_pc r1) p) (int_kind _))))))

    kept_move : (r1 r2 : Reg) → Keeps (Move r1 (InReg r2))
    unfolding flow plan_in
    kept_move r1 r2 t a e = as_flow _ _ t a _ (into_flows r1 _ _ t a e) (
        Gives-ask _ _ _ (λ p. done_moves r1 r2 (not-true (is_pc r1) p)))

    kept_load : (r1 r2 : Reg) → Keeps (Load r1 r2)
    unfolding flow plan_in faces
    kept_load r1 r2 t a e =
        let area =
        (ask_flows 6 (is_area (source o row r2)) _ t a (ask_flows 5 (not (is_pc r1)) _ t a e).1).0 in
        as_flow _ _ t a _ (into_flows r1 _ _ t a e) (
        Gives-ask _ _ _
        (λ p. Gives-need _ _ _
        (λ c m. Gives-ask _ _ _ (λ _. Gives-need _ _ _ (λ x h. Gives-ask _ _ _ (λ _.
        done_load r1 (address c.addr) (not-true (is_pc r1) p)
        (reached r2 c x area (memory_is (face_of (look (reg s.regs r2))) c m) h)))))))

    kept_geta : (r1 r2 : Reg) → Keeps (Geta r1 r2)
    unfolding flow plan_in
    kept_geta r1 r2 t a e = as_flow _ _ t a _ (into_flows r1 _ _ t a e) (ints r1 _)

    kept_getb : (r1 r2 : Reg) → Keeps (Getb r1 r2)
    unfolding flow plan_in
    kept_getb r1 r2 t a e = as_flow _ _ t a _ (into_flows r1 _ _ t a e) (ints r1 _)

    kept_gete : (r1 r2 : Reg) → Keeps (Gete r1 r2)
    unfolding flow plan_in
    kept_gete r1 r2 t a e = as_flow _ _ t a _ (into_flows r1 _ _ t a e) (ints r1 _)

    kept_getp : (r1 r2 : Reg) → Keeps (Getp r1 r2)
    unfolding flow plan_in
    kept_getp r1 r2 t a e = as_flow _ _ t a _ (into_flows r1 _ _ t a e) (ints r1 _)

    kept_getlin : (r1 r2 : Reg) → Keeps (Getlin r1 r2)
    unfolding flow plan_in
    kept_getlin r1 r2 t a e = as_flow _ _ t a _ (into_flows r1 _ _ t a e) (ints r1 _)

    kept_minus : (r1 r2 : Reg) (n : Operand) → Keeps (Minus r1 r2 n)
    unfolding flow plan_in
    kept_minus r1 r2 n t a e = as_flow _ _ t a _ (into_flows r1 _ _ t a e) (
        Gives-ask _ _ _ (λ p. Gives-need _ _ _ (λ x _. Gives-need _ _ _ (λ z _. Gives-ask _ _ _ (λ _.
        done_makes r1 kind.Int _ (not-true (is_pc r1) p) (int_kind _))))))

    kept_set : (r1 : Reg) (z : ℤ) → Keeps (Move r1 (Imm z))
    unfolding flow plan_in
    kept_set r1 z t a e = as_flow _ _ t a _ (ask_flows 5 (not (is_pc r1)) _ t a e).1 (ints r1 z)

    kept_store : (r1 r2 : Reg) → Keeps (Store r1 r2)
    unfolding flow plan_in faces
    kept_store r1 r2 t a e =
        let tests = ask_flows 6 _ _ t a e in
        let area = (and_parts (is_area (source o row r1)) _ tests.0).0 in
        let may = (and_parts (is_area (source o row r1)) _ tests.0).1 in
        as_flow _ _ t a _ tests.1 (
        Gives-need _ _ _ (λ c m. Gives-ask _ _ _ (λ _. Gives-need _ _ _ (λ x h.
        done_store r2 (address c.addr)
        (reached r1 c x area (memory_is (face_of (look (reg s.regs r1))) c m) h) (safe_source r2 may)))))

    kept_fail : Keeps Fail
    unfolding plan_in
    kept_fail t a e = gives_fails

    kept_halt : Keeps Halt
    unfolding plan_in
    kept_halt t a e = gives_halts

    by_target_flows : (k : Kind) (g : ℕ → Flow) (t : Option ℕ) (a : Option Row) → by_target k g ≡ flows t a
        → (p : ℕ) × (k ≡ kind.Pc p) × (g p ≡ flows t a)
    by_target_flows (kind.Pc p) g t a e = (p, refl, e)
    by_target_flows kind.Any g t a e = cc
    by_target_flows kind.Int g t a e = cc
    by_target_flows kind.DataCap g t a e = cc
    by_target_flows kind.Stk g t a e = cc
    by_target_flows kind.Top g t a e = cc

    kept_jmp : (r1 : Reg) → Keeps (Jmp r1)
    unfolding flow plan_in
    kept_jmp r1 t a e =
        let k = by_target_flows (source o row r1) _ t a e in
        as_flow (Some k.0) None t a _ k.2 (done_jumps r1 k.0 None k.1)

    kept_jnz : (r1 r2 : Reg) → Keeps (Jnz r1 r2)
    unfolding flow plan_in
    kept_jnz r1 r2 t a e =
        let k = by_target_flows (source o row r1) _ t a (ask_flows 6 _ _ t a e).1 in
        as_flow (Some k.0) (Some row) t a _ k.2 (
        Gives-need _ _ _
        (λ z _. Gives-if (is_zero z) _ _ (done_on (Some k.0)) (done_jumps r1 k.0 (Some row) k.1)))

    -- ---- cca

    moved_area : (k : Kind) (w : W) (c : CapFields) (z : ℤ) → is_area k ≡ true → Kinded k w
        → face_of (look w) ≡ Memory c → Kinded k (plain (Mem (record c { addr = z })))
    moved_area kind.DataCap w c z g h e =
        let m : Memory (data_cap part h.0) ≡ Memory c = sym (ap face_of h.1) ∙ e in
        let n : data_cap part h.0 ≡ c = cc in
        (z, look_plain (Mem (record c { addr = z })) ∙ ap (λ x. Mem (record x { addr = z })) (sym n))
    moved_area kind.Stk w c z g h e =
        let m : Memory (part_stack_cap part h.0 h.1) ≡ Memory c = sym (ap face_of h.2) ∙ e in
        let n : part_stack_cap part h.0 h.1 ≡ c = cc in (
          h.0,
          z,
          look_plain (Mem (record c { addr = z }))
              ∙ ap (λ x. Mem (record x { addr = z })) (sym n),
          h.3,
        )
    moved_area kind.Any w c z g h e = cc
    moved_area kind.Int w c z g h e = cc
    moved_area (kind.Pc p) w c z g h e = cc
    moved_area kind.Top w c z g h e = cc

    area_seals : (k : Kind) (w : W) (q : SealFields) → is_area k ≡ true → Kinded k w
        → face_of (look w) ≡ Seals q → ⊥
    area_seals kind.DataCap w q g h e = let m : Memory (data_cap part h.0) ≡ Seals q =
        sym (ap face_of h.1) ∙ e in cc
    area_seals kind.Stk w q g h e = let m : Memory (part_stack_cap part h.0 h.1) ≡ Seals q =
        sym (ap face_of h.2) ∙ e in cc
    area_seals kind.Any w q g h e = cc
    area_seals kind.Int w q g h e = cc
    area_seals (kind.Pc p) w q g h e = cc
    area_seals kind.Top w q g h e = cc

    -- an address of the code, moved
    in_code_is : (y : ℤ) (p : ℕ) → in_code y ≡ Some p → y ≡ pos p
    in_code_is (pos n) p e = by_size (nat_le n 65535) e
      where
        by_size : (b : Bool) → (if b then Some n else None) ≡ Some p → pos n ≡ pos p
        by_size true e = cc
        by_size false e = cc
    in_code_is (negsuc n) p e = cc

    moved_code : (q p : ℕ) (z : ℤ) → led q z ≡ Some p
        → pos (part.code_base + q) +ℤ z ≡ pos (part.code_base + p)
    moved_code q p z e = +ℤ_assoc (pos part.code_base) (pos q) z
        ∙ ap (λ y. pos part.code_base +ℤ y) (in_code_is (pos q +ℤ z) p e)

    kept_cca : (r1 : Reg) (n : Operand) → Keeps (Cca r1 n)
    unfolding flow plan_in faces
    kept_cca r1 n t a e = by_kind (kind_of row r1) refl (into_flows r1 _ _ t a e)
      where
        by_area : (k : Kind) → is_area k ≡ true → kind_of row r1 ≡ k → on row ≡ flows t a
            → Gives (Done t a) (plan_in look s (Cca r1 n) (after_pc o))
        by_area k g m x =
            as_flow None (Some row) t a _ x (Gives-ask _ _ _ (λ p.
            let h : Kinded k (reg s.regs r1) = rw m at (f.each r1 (not-true (is_pc r1) p)) in
            Gives-by_cap _ _ _
            (λ c w. Gives-need _ _ _ (λ z _. Gives-ask _ _ _ (λ _.
            done_keeps r1 (Mem (record c { addr = c.addr +ℤ z }))
            (λ _. rw m (moved_area k (reg s.regs r1) c (c.addr +ℤ z) g h w)))))
            (λ q w. absurd (area_seals k (reg s.regs r1) q g h w))))

        by_code : (q p : ℕ) (z : ℤ) → kind_of row r1 ≡ kind.Pc q → n ≡ Imm z → led q z ≡ Some p
            → Gives (Done None (Some (set_kind row r1 (kind.Pc p)))) (plan_in look s (Cca r1 n) (after_pc o))
        by_code q p z m i l = rw i (Gives-ask _ _ _ (λ np.
            let h : look (reg s.regs r1) ≡ Mem (code_at part q) =
            rw m at (f.each r1 (not-true (is_pc r1) np)) in
            Gives-by_cap _ _ _
            (λ c w.
            let k : Memory (code_at part q) ≡ Memory c = sym (ap face_of h) ∙ w in
            let same : code_at part q ≡ c = cc in
            Gives-need _ _ _ (λ y ey. Gives-ask _ _ _ (λ _.
            let yz : z ≡ y = cc in
            done_makes r1 (kind.Pc p) (Mem (record c { addr = c.addr +ℤ y })) (not-true (is_pc r1) np)
            (look_plain (Mem (record c { addr = c.addr +ℤ y }))
            ∙ ap (λ (x : CapFields). Mem (record x { addr = x.addr +ℤ y })) (sym same)
            ∙ ap (λ v. Mem (record (code_at part q) { addr = pos (part.code_base + q) +ℤ v })) (sym yz)
            ∙ ap (λ v. Mem (record (code_at part q) { addr = v })) (moved_code q p z l)))))
            (λ y w. let k : Memory (code_at part q) ≡ Seals y = sym (ap face_of h) ∙ w in cc)))

        by_led : (q : ℕ) (z : ℤ) (l : Option ℕ) → led q z ≡ l → kind_of row r1 ≡ kind.Pc q → n ≡ Imm z
            → led_to row r1 l ≡ flows t a → Gives (Done t a) (plan_in look s (Cca r1 n) (after_pc o))
        by_led q z (Some p) l m i x =
            as_flow None (Some (set_kind row r1 (kind.Pc p))) t a _ x (by_code q p z m i l)
        by_led q z None l m i x = cc

        by_operand : (q : ℕ) (v : Operand) → n ≡ v → kind_of row r1 ≡ kind.Pc q
            → cca_of row r1 (kind.Pc q) v ≡ flows t a
            → Gives (Done t a) (plan_in look s (Cca r1 n) (after_pc o))
        by_operand q (Imm z) i m x = by_led q z (led q z) refl m i x
        by_operand q (InReg r) i m x = cc

        by_kind : (k : Kind) → kind_of row r1 ≡ k → cca_of row r1 k n ≡ flows t a
            → Gives (Done t a) (plan_in look s (Cca r1 n) (after_pc o))
        by_kind kind.DataCap m x = by_area kind.DataCap refl m x
        by_kind kind.Stk m x = by_area kind.Stk refl m x
        by_kind (kind.Pc q) m x = by_operand q n refl m x
        by_kind kind.Any m x = cc
        by_kind kind.Int m x = cc
        by_kind kind.Top m x = cc

    -- ---- xjmp

    all_get : (test : Reg → Bool) (rs : List Reg) (i : ℕ) → list_all test rs ≡ true → i < length rs
        → test (get_or rs i Dat) ≡ true
    all_get test [] i h lt = absurd (omega arith)
    all_get test (r ∷ rs) zero h lt = (and_parts (test r) (list_all test rs) h).0
    all_get test (r ∷ rs) (suc i) h lt =
        all_get test rs i (and_parts (test r) (list_all test rs) h).1 (omega arith)

    handed_at : shows_nothing row ≡ true → (i : ℕ) → i < 14
        → below_any (kind_of row (get_or handed i Dat)) ≡ true
    unfolding shows_nothing
    handed_at h i lt = all_get (λ r. below_any (kind_of row r)) handed i h lt

    shows_at : shows_nothing row ≡ true → (d : Reg) → is_pc d ≡ false → d ≢ Dat
        → below_any (kind_of row d) ≡ true
    shows_at h Pc p ne = cc
    shows_at h Dat p ne = absurd (ne refl)
    shows_at h Rcode p ne = handed_at h 0 (omega arith)
    shows_at h Rdata p ne = handed_at h 1 (omega arith)
    shows_at h Stk p ne = handed_at h 2 (omega arith)
    shows_at h T1 p ne = handed_at h 3 (omega arith)
    shows_at h T2 p ne = handed_at h 4 (omega arith)
    shows_at h C1 p ne = handed_at h 5 (omega arith)
    shows_at h C2 p ne = handed_at h 6 (omega arith)
    shows_at h A0 p ne = handed_at h 7 (omega arith)
    shows_at h A1 p ne = handed_at h 8 (omega arith)
    shows_at h A2 p ne = handed_at h 9 (omega arith)
    shows_at h A3 p ne = handed_at h 10 (omega arith)
    shows_at h G0 p ne = handed_at h 11 (omega arith)
    shows_at h G1 p ne = handed_at h 12 (omega arith)
    shows_at h G2 p ne = handed_at h 13 (omega arith)

    cleared_safe : (r d : Reg) → Safe (reg s.regs d) → Safe (reg (clear look plain s (R r)).regs d)
    unfolding clear
    cleared_safe r d h =
        elim (cases_reg d r)
        as (λ _. Safe
        (reg (if is_linear (look (reg s.regs r)) then put s (R r) (zero_word plain) else s).regs d)) [
          | inl e ↦
              (let k : Safe (reg s.regs r) =
              rw e at h in rw (e, cleared_reg s r (is_linear (look (reg s.regs r))))
              (left_kind kind.Any (reg s.regs r) k))
          | inr ne ↦ rw (cleared_regs s r (is_linear (look (reg s.regs r))) d ne) h
        ]

    not_pc : (d : Reg) → is_pc d ≡ false → d ≢ Pc
    not_pc d p e = let k : is_pc d ≡ true = ap is_pc e in let g : true ≡ false = sym k ∙ p in cc

    done_cross : (r1 r2 : Reg) (code half : Opened) (c : CapFields) → this ≡ Xjmp r1 r2
        → below_any (source o row r1) ≡ true → below_any (source o row r2) ≡ true → shows_nothing row ≡ true
        → opened_of (look (reg s.regs r1)) ≡ Some code → opened_of (look (reg s.regs r2)) ≡ Some half
        → (code.seal == half.seal) ≡ true → memory_content code.content ≡ Some c → may_run c.perm ≡ true
        → not (runs_in half.content) ≡ true
        → Gives (Done None None)
        (Goes (record no_effect
        { spent = Some r2; first = made Pc (Mem c); second = made Dat (unsealed half.content) }))
    unfolding perform
    done_cross r1 r2 code half c is b1 b2 shows e1 e2 same m run half_data = gives_goes (record {
      lands = crosses r1 r2 code half c is (safe_source r1 b1) (safe_source r2 b2)
          e1 e2 same m run half_data refl refl
          (λ d p ne.
          rw (
            reg-set_other (set_reg (clear look plain s (R r2)).regs Pc (plain (Mem c)))
                Dat d (plain (unsealed half.content))
                ne,
            reg-set_other (clear look plain s (R r2)).regs Pc d (plain (Mem c)) (not_pc d p),
          )
          (cleared_safe r2 d
          (is_safe look Safe Has part safe_int safe_stk (kind_of row d) (reg s.regs d)
          (shows_at shows d p ne) (f.each d p))));
      safe_cells = rw (take_cells s r2) safe;
      others = λ a h. rw (take_cells s r2) refl;
    })

    kept_xjmp : (r1 r2 : Reg) → this ≡ Xjmp r1 r2 → Keeps (Xjmp r1 r2)
    unfolding flow plan_in opens
    kept_xjmp r1 r2 is t a e =
        let first = ask_flows 6 _ _ t a e in
        let b1 = (and_parts (below_any (source o row r1)) _ first.0).0 in
        let b2 = (and_parts (below_any (source o row r1)) _ first.0).1 in
        let second = ask_flows 10 _ _ t a first.1 in
        as_flow None None t a _ second.1 (
        Gives-need _ _ _
        (λ code e1.
        Gives-need _ _ _
        (λ half e2.
        Gives-ask _ _ _
        (λ same. Gives-need _ _ _
        (λ c m. Gives-ask _ _ _ (λ _. Gives-ask _ _ _ (λ run. Gives-ask _ _ _ (λ half_data.
        done_cross r1 r2 code half c is b1 b2 second.0 e1 e2 same m run half_data))))))))

    -- ---- every instruction

    pub kept : (i : Instr) → this ≡ i → Keeps i
    unfolding flow
    kept Fail is = kept_fail
    kept Halt is = kept_halt
    kept (Jmp r1) is = kept_jmp r1
    kept (Jnz r1 r2) is = kept_jnz r1 r2
    kept (Gettype r1 r2) is = kept_gettype r1 r2
    kept (Geta r1 r2) is = kept_geta r1 r2
    kept (Getb r1 r2) is = kept_getb r1 r2
    kept (Gete r1 r2) is = kept_gete r1 r2
    kept (Getp r1 r2) is = kept_getp r1 r2
    kept (Getlin r1 r2) is = kept_getlin r1 r2
    kept (Move r1 (InReg r2)) is = kept_move r1 r2
    kept (Move r1 (Imm z)) is = kept_set r1 z
    kept (Store r1 r2) is = kept_store r1 r2
    kept (Load r1 r2) is = kept_load r1 r2
    kept (Cca r1 n) is = kept_cca r1 n
    kept (Lt r1 r2 n) is = kept_lt r1 r2 n
    kept (Plus r1 r2 n) is = kept_plus r1 r2 n
    kept (Minus r1 r2 n) is = kept_minus r1 r2 n
    kept (Xjmp r1 r2) is = kept_xjmp r1 r2 is
    kept (Restrict r1 n) is = λ t a e. cc
    kept (Seta2b r1) is = λ t a e. cc
    kept (Cseal r1 r2) is = λ t a e. cc
    kept (Split r1 r2 r3 n) is = λ t a e. cc
    kept (Splice r1 r2 r3) is = λ t a e. cc

    -- ---- what a cross-part jump, a load and a store stand on

    pub xjmp_shows : (r1 r2 : Reg) (t : Option ℕ) (a : Option Row) → flow (Xjmp r1 r2) o row ≡ flows t a
        → ((d : Reg) → is_pc d ≡ false → d ≢ Dat → Safe (reg s.regs d)) × Safe (reg s.regs r1)
        × Safe (reg s.regs r2)
    unfolding flow
    xjmp_shows r1 r2 t a e =
        let first = ask_flows 6 _ _ t a e in
        let b1 = (and_parts (below_any (source o row r1)) _ first.0).0 in
        let b2 = (and_parts (below_any (source o row r1)) _ first.0).1 in
        let second = ask_flows 10 _ _ t a first.1 in (
          (λ d p ne. is_safe look Safe Has part safe_int safe_stk (kind_of row d) (reg s.regs d)
              (shows_at second.0 d p ne) (f.each d p)),
          safe_source r1 b1,
          safe_source r2 b2,
        )

    abbrev pub InArea : ℕ → Type 0
    InArea a = ((part.data_base ≤ a) × (a ≤ part.data_last)) ⊎ Has a

    area_in : (k : Kind) (w : W) (a : ℕ) → is_area k ≡ true → Kinded k w
        → target_of (face_of (look w)) ≡ Some a → InArea a
    area_in kind.DataCap w a g h e =
        inl (covered (data_cap part h.0) a (sym (ap (λ x. target_of (face_of x)) h.1) ∙ e))
    area_in kind.Stk w a g h e = let k =
        covered (part_stack_cap part h.0 h.1) a (sym (ap (λ x. target_of (face_of x)) h.2) ∙ e) in
        inr (h.3.1 a k.0 k.1)
    area_in kind.Any w a g h e = cc
    area_in kind.Int w a g h e = cc
    area_in (kind.Pc q) w a g h e = cc
    area_in kind.Top w a g h e = cc

    pub target_in : (i : Instr) (t : Option ℕ) (b : Option Row) (a : ℕ) → flow i o row ≡ flows t b
        → target i (faces look s) ≡ Some a → InArea a
    unfolding flow faces
    target_in (Store r1 r2) t b a e m =
        area_in (source o row r1) (reg s.regs r1)
        a (and_parts (is_area (source o row r1)) _ (ask_flows 6 _ _ t b e).0).0
        (source_kind row s o r1 at_pc f) m
    target_in (Load r1 r2) t b a e m =
        area_in (source o row r2) (reg s.regs r2)
        a (ask_flows 6 _ _ t b (ask_flows 5 _ _ t b e).1).0 (source_kind row s o r2 at_pc f) m
    target_in _ t b a e m = cc
