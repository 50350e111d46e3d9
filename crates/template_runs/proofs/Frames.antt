-- The words of a prologue and of an epilogue: a slot is pushed, and taken off again.
use Rattle.std.proofs.Common.{◌≡◌, ◌≢◌, ℕ, zero, suc, ◌+◌, ◌-◌, ◌<◌, ◌≤◌, ℤ, pos, negsuc, ◌+ℤ◌, ◌-ℤ◌, List}
use Rattle.std.proofs.Common.{[], ◌∷◌, ◌++◌, length, Option, Some, None, Bool, true, false, refl, sym, ap}
use Rattle.std.proofs.Common.{◌∙◌, arith, length-append}
use Rattle.std.specs.Prelude.{slice_get, IsSome}
use Rattle.std.proofs.lemmas.Int.{ints}
use Rattle.std.proofs.lemmas.Bool.{lt-leb}
use Rattle.cap_words.specs.declared.Word.TheVariants.{Int, Mem}
use Rattle.cap_words.specs.declared.CapFields.{CapFields}
use Rattle.cap_words.specs.Linear.{is_linear, zero_word, left_of}
use Rattle.cap_words.specs.Faces.{covers}
use Rattle.lcm_isa.specs.declared.Reg.{Reg}
use Rattle.lcm_isa.specs.declared.Reg.TheVariants.{Pc, Stk, T1}
use Rattle.lcm_isa.specs.declared.Operand.TheVariants.{Imm}
use Rattle.lcm_isa.specs.declared.Instr.{Instr}
use Rattle.lcm_isa.specs.declared.Instr.TheVariants.{Load, Store, Cca}
use Rattle.lcm_machine.specs.declared.FailCause.{FailCause}
use Rattle.lcm_machine.specs.declared.Place.TheVariants.{R, Cell}
use Rattle.lcm_machine.specs.Maps.{State, Regs}
use Rattle.lcm_machine.specs.Places.{reg, set_reg}
use Rattle.lcm_machine.specs.Cells.{cell, set_cell}
use Rattle.lcm_machine.specs.Table.{fits_64}
use Rattle.lcm_machine.specs.Row.{put, row, Outcome, went, halted, failed}
use Rattle.lcm_machine.specs.Refusals.{HasFailed}
use Rattle.lcm_machine.proofs.Offers.{cell-set_same, cell-set_other, is_linear-face, stays, left, cca_goes}
use Rattle.lcm_machine.proofs.Offers.{load_goes, load_linear_goes, store_goes, store_fails}
use Rattle.call_sequence.specs.Holds.{data_cap, part_stack_cap}
use Rattle.linked_starts.specs.Parts.{PartSeen}
use Rattle.overlay_machine.specs.declared.words.OWord.{OWord}
use Rattle.overlay_machine.specs.declared.words.OWord.TheVariants.{Plain}
use Rattle.overlay_machine.specs.Words.{look}
use Rattle.overlay_machine.specs.State.{OpenFrame, OState, Cells, framed}
use Rattle.overlay_machine.specs.Link.{Link, IsTrusted, ranges_of}
use Rattle.overlay_machine.specs.Linked.{IsLink}
use Rattle.overlay_machine.proofs.Offers.{stack_small, stack_cells}
use Rattle.template_runs.proofs.Numbers.{fits_small, fits_less}
use Rattle.template_runs.specs.Public.{IsPublic}
use Rattle.template_runs.specs.Runs.{RunsOn, Failing}
use Rattle.template_runs.proofs.Valid.{Valid, zero_public}
use Rattle.template_runs.proofs.Steps.{At, Placed, Code, next_pc, go, go_set, stop}
use Rattle.template_runs.proofs.Slots.{Holds, holds_get, holds_other, holds_push, holds_front}
use Rattle.template_runs.proofs.Rows.{data_apart, Here, Free, DataIs}

failed_is : {W : Type 0} (r : Outcome W) → HasFailed r → (c : FailCause) × (z : ℤ) × (r ≡ failed c z)
failed_is (went s) h = absurd h
failed_is halted h = absurd h
failed_is (failed c z) h = (c, z, refl)

some_word : (o : Option OWord) → IsSome o → (w : OWord) × (o ≡ Some w)
some_word None h = cc
some_word (Some w) h = (w, refl)

below_stack : (b e : ℕ) (z : ℤ) (c : CapFields) → c.base ≡ b → c.addr ≡ z → z +ℤ pos 1 ≡ pos b
    → covers c c.addr ≡ false
below_stack zero e (pos n) c cb ca h = absurd (let k : n + 1 ≡ 0 = cc in omega (arith, k))
below_stack zero e (negsuc n) c cb ca h = rw ca refl
below_stack (suc b) e z c cb ca h =
    let k : z ≡ pos b = omega (arith, ints, h) in
    rw (ca, k, cb, lt-leb (suc b) b (omega arith)) refl

-- a cell holds 0, and the others are as before
pub record IsWipedAt (a : ℕ) (m n : Cells) : Type 0 where
  pub wiped : cell n a ≡ Some (Plain (Int (pos 0)))
  pub others : (b : ℕ) → b ≢ a → cell n b ≡ cell m b

slice_last : (ws : List OWord) (x : OWord) → slice_get (ws ++ x ∷ []) (length ws) ≡ Some x
slice_last [] x = refl
slice_last (w ∷ ws) x = slice_last ws x

module _ (g : Link) (linked : IsLink g) (p : PartSeen) (ip : IsTrusted g p) (top : ℕ) (mem : ℕ → OWord)
    (fs : List OpenFrame) (k : ℕ) where
  abbrev stack_at : ℤ → OWord
  stack_at z = Plain (Mem (part_stack_cap (ranges_of p) top z))

  -- ---- push

  abbrev pub push : Reg → List Instr
  push r = Store Stk r ∷ Cca Stk (Imm (negsuc 0)) ∷ []

  abbrev pub pushed : OState → Reg → ℤ → ℕ → OState
  pushed o r z a = record o {
    maps =
        put (put (put (put (put o.maps (R r) (left_of look Plain (reg o.maps.regs r))) (Cell a)
        (reg o.maps.regs r)) (R Pc) (Plain (next_pc g linked p k))) (R Stk) (stack_at z)) (R Pc)
        (Plain (next_pc g linked p (k + 1)));
  }

  pub push_law : (want : RunsOn g.layout) (c b : ℕ) → (r : Reg) → Free g linked r
      → (words : List OWord) (o : OState) → Code g linked p k (push r) → At g linked p k o
      → (h : Here g linked p (length words) top words mem fs o) → g.layout.stack.base + length words ≤ top
      → IsPublic g (reg o.maps.regs r) → want.May (top - length words)
      → (Here g linked p (length words + 1) top (words ++ reg o.maps.regs r ∷ []) mem fs
      (pushed o r (h.at -ℤ pos 1) (top - length words))
      → At g linked p (k + 1 + 1) (pushed o r (h.at -ℤ pos 1) (top - length words))
      → want.Good b (pushed o r (h.at -ℤ pos 1) (top - length words)))
      → 2 + b ≤ c → want.Good c o
  push_law want c b r free words o code at h room public may u le =
      let j = length words in
      let a = top - length words in
      let x = reg o.maps.regs r in
      let hi = h.high in
      let cu = h.cursor in
      let small = stack_small g linked in
      let sb = linked.stack_bases p ip in
      let la : (ranges_of p).stack_base ≤ top - length words = omega (arith, room, sb) in
      let lb : g.layout.stack.base ≤ top - length words = omega (arith, room) in
      let hb : top - length words ≤ g.layout.stack.end = omega (arith, hi) in
      let ha : top - length words ≤ top = omega arith in
      let za : h.at ≡ pos (top - length words) = omega (arith, ints, cu, room) in
      let zd : h.at -ℤ pos 1 ≡ pos top -ℤ pos (length words + 1) = omega (arith, ints, cu) in
      let fit : fits_64 (h.at -ℤ pos 1) ≡ true = ap fits_64 zd
      ∙ fits_less top (length words + 1) (omega (arith, hi, small)) (omega (arith, room, hi, small)) in
      let e_down : h.at +ℤ negsuc 0 ≡ h.at -ℤ pos 1 = omega (arith, ints) in
      let some = some_word (cell o.maps.cells a)
      (stack_cells g linked o.maps.cells o.frames h.valid.holds.there a
      (lb, hb, ap (λ f. framed f a) h.frames ∙ h.free a lb ha)) in
      let s0 = put o.maps (R r) (left_of look Plain x) in
      let s1 = put (put s0 (Cell a) x) (R Pc) (Plain (next_pc g linked p k)) in
      let s2 = put (put s1 (R Stk) (stack_at (h.at -ℤ pos 1))) (R Pc) (Plain (next_pc g linked p (k + 1))) in
      let does : row look Plain (Store Stk r) (next_pc g linked p k) o.maps ≡ went s1 =
      store_goes look Plain Stk r _ o.maps s0
      (part_stack_cap (ranges_of p) top h.at) a some.0 h.stk refl za la
      ha some.1 (left look Plain o.maps r) in
      let stk1 : look s1.regs.stk ≡ Mem (part_stack_cap (ranges_of p) top h.at) =
      ap look (free.keeps_stk o.maps.regs (left_of look Plain x)) ∙ h.stk in
      let z0 : top - (0 + length words) ≡ top - length words = omega arith in
      let others : Holds (set_cell o.maps.cells a x) top 0 words = holds_other o.maps.cells top 0 words a x
      (λ i lt e. absurd (let d : top - (0 + i) ≢ top - length words = omega (arith, lt, room) in d e))
      h.slots in
      let slots : Holds (set_cell o.maps.cells a x) top 0 (words ++ x ∷ []) =
      holds_push (set_cell o.maps.cells a x) top 0 words x
      (ap (cell (set_cell o.maps.cells a x)) z0 ∙ cell-set_same o.maps.cells a x) others in
      let len = length-append words (x ∷ []) in
      let fits' : length (words ++ x ∷ []) ≤ length words + 1 = omega (arith, len) in
      let cursor : h.at -ℤ pos 1 +ℤ pos (length words + 1) ≡ pos top = omega (arith, ints, cu) in
      let low : g.layout.stack.base + (length words + 1) ≤ top + 1 = omega (arith, room) in
      let less : 1 + (1 + b) ≤ c = omega (arith, le) in
      let dat : look (set_reg o.maps.regs r (left_of look Plain x)).dat ≡ Mem
      (data_cap (ranges_of p) (pos p.component.data_base)) =
      ap look (free.keeps_dat o.maps.regs (left_of look Plain x)) ∙ h.dat in
      want.spend _ c o less
      (go_set g linked p k (Store Stk r) o h.valid at code.0 refl want _ s1 a x does refl refl (λ _. public)
      may (λ v1 at1.
      go g linked p (k + 1) (Cca Stk (Imm (negsuc 0))) (record o { maps = s1 }) v1 at1 code.1.0 refl want b s2
      (cca_goes look Plain Stk (Imm (negsuc 0)) _ s1 (part_stack_cap (ranges_of p) top h.at) (negsuc 0)
      (h.at -ℤ pos 1) refl stk1 refl e_down fit) refl refl (λ v2 at2.
      u (record {
        valid = v2;
        at = h.at -ℤ pos 1;
        stk = refl;
        cursor = cursor;
        dat = dat;
        slots = slots;
        fit = fits';
        globs = data_apart g linked mem a x o.maps.cells lb hb h.globs;
        frames = h.frames;
        low = low;
        high = h.high;
        free = h.free;
      }) at2)))

  -- where the stack ends it fails
  pub push_fails : (want : Failing g.layout) (c : ℕ) → (r : Reg) (words : List OWord) (o : OState)
      → Placed g linked p k (Store Stk r) → At g linked p k o
      → (h : Here g linked p (length words) top words mem fs o) → top < g.layout.stack.base + length words
      → 1 ≤ c → want.runs.Good c o
  push_fails want c r words o code at h short le =
      let l = h.low in
      let cu = h.cursor in
      let sb = linked.stack_bases p ip in
      let z : h.at +ℤ pos 1 ≡ pos (ranges_of p).stack_base = omega (arith, ints, l, short, cu, sb) in
      let f = failed_is _ (store_fails look Plain Stk r (next_pc g linked p k) o.maps
      (part_stack_cap (ranges_of p) top h.at) h.stk
      (below_stack (ranges_of p).stack_base top h.at (part_stack_cap (ranges_of p) top h.at) refl refl z)) in
      stop g linked p k (Store Stk r) o h.valid at code refl want c f.0 f.1 f.2 le

  -- ---- pop

  abbrev pub pop : List Instr
  pop = Cca Stk (Imm (pos 1)) ∷ Store Stk T1 ∷ []

  abbrev pub popped : OState → ℕ → OState
  popped o a = record o {
    maps =
        put (put (put (put o.maps (R Stk) (stack_at (pos a))) (R Pc) (Plain (next_pc g linked p k))) (Cell a)
        (Plain (Int (pos 0)))) (R Pc) (Plain (next_pc g linked p (k + 1)));
  }

  pub pop_law : (want : RunsOn g.layout) (c b : ℕ) → (words : List OWord) (x : OWord) (o : OState)
      → Code g linked p k pop → At g linked p k o
      → (h : Here g linked p (length words + 1) top (words ++ x ∷ []) mem fs o)
      → o.maps.regs.t1 ≡ Plain (Int (pos 0)) → want.May (top - length words)
      → (Here g linked p (length words) top words mem fs (popped o (top - length words))
      → At g linked p (k + 1 + 1) (popped o (top - length words))
      → want.Good b (popped o (top - length words)))
      → 2 + b ≤ c → want.Good c o
  pop_law want c b words x o code at h t1 may u le =
      let a = top - length words in
      let hi = h.high in
      let lo = h.low in
      let cu = h.cursor in
      let small = stack_small g linked in
      let sb = linked.stack_bases p ip in
      let la : (ranges_of p).stack_base ≤ top - length words = omega (arith, lo, sb) in
      let lb : g.layout.stack.base ≤ top - length words = omega (arith, lo) in
      let hb : top - length words ≤ g.layout.stack.end = omega (arith, hi) in
      let ha : top - length words ≤ top = omega arith in
      let e_up : h.at +ℤ pos 1 ≡ pos (top - length words) = omega (arith, ints, cu, lo) in
      let fit : fits_64 (pos (top - length words)) ≡ true =
      fits_small (top - length words) (omega (arith, hi, small)) in
      let z0 : top - (0 + length words) ≡ top - length words = omega arith in
      let there : cell o.maps.cells a ≡ Some x = ap (cell o.maps.cells) (sym z0)
      ∙ holds_get o.maps.cells top 0 (words ++ x ∷ []) (length words) x (slice_last words x) h.slots in
      let s1 = put (put o.maps (R Stk) (stack_at (pos a))) (R Pc) (Plain (next_pc g linked p k)) in
      let s2 = put (put s1 (Cell a) (Plain (Int (pos 0)))) (R Pc) (Plain (next_pc g linked p (k + 1))) in
      let does : row look Plain (Store Stk T1) (next_pc g linked p (k + 1)) s1 ≡ went s2 =
      store_goes look Plain Stk T1 _ s1 s1 (part_stack_cap (ranges_of p) top (pos a)) a x refl refl refl la ha
      there (stays look Plain s1 (R T1) (ap (λ y. is_linear (look y)) t1))
      ∙ ap (λ y. went (put (put s1 (Cell a) y) (R Pc) (Plain (next_pc g linked p (k + 1))))) t1 in
      let slots : Holds (set_cell o.maps.cells a (Plain (Int (pos 0)))) top 0 words =
      holds_other o.maps.cells top 0 words a (Plain (Int (pos 0)))
      (λ i lt e. absurd (let d : top - (0 + i) ≢ top - length words = omega (arith, lt, lo) in d e))
      (holds_front o.maps.cells top 0 words (x ∷ []) h.slots) in
      let cursor : pos (top - length words) +ℤ pos (length words) ≡ pos top = omega (arith, ints, lo) in
      let low : g.layout.stack.base + length words ≤ top + 1 = omega (arith, lo) in
      let less : 1 + (1 + b) ≤ c = omega (arith, le) in
      let fits' : length words ≤ length words = omega arith in
      want.spend _ c o less
      (go g linked p k (Cca Stk (Imm (pos 1))) o h.valid at code.0 refl want _ s1
      (cca_goes look Plain Stk (Imm (pos 1)) _ o.maps (part_stack_cap (ranges_of p) top h.at) (pos 1) (pos a)
      refl h.stk refl e_up fit) refl refl (λ v1 at1.
      go_set g linked p (k + 1) (Store Stk T1) (record o { maps = s1 }) v1 at1 code.1.0 refl want b s2 a
      (Plain (Int (pos 0))) does refl refl (λ _. zero_public g) may (λ v2 at2.
      u (record {
        valid = v2;
        at = pos a;
        stk = refl;
        cursor = cursor;
        dat = h.dat;
        slots = slots;
        fit = fits';
        globs = data_apart g linked mem a (Plain (Int (pos 0))) o.maps.cells lb hb h.globs;
        frames = h.frames;
        low = low;
        high = h.high;
        free = h.free;
      }) at2)))

  -- a slot is taken off to a register, whatever its word
  abbrev pub pop_to : Reg → List Instr
  pop_to r = Cca Stk (Imm (pos 1)) ∷ Load r Stk ∷ Store Stk T1 ∷ []

  abbrev pub popped_regs : Regs OWord → Reg → OWord → ℕ → Regs OWord
  popped_regs rs r x a =
      set_reg (set_reg (set_reg
      (set_reg (set_reg rs Stk (stack_at (pos a))) Pc (Plain (next_pc g linked p k))) r x) Pc
      (Plain (next_pc g linked p (k + 1)))) Pc (Plain (next_pc g linked p (k + 1 + 1)))

  pub pop_to_law : (want : RunsOn g.layout) (c b : ℕ) → (r : Reg) → Free g linked r
      → ((rs : Regs OWord) (y : OWord) → (set_reg rs r y).t1 ≡ rs.t1)
      → (words : List OWord) (x : OWord) (o : OState) → Code g linked p k (pop_to r) → At g linked p k o
      → (h : Here g linked p (length words + 1) top (words ++ x ∷ []) mem fs o)
      → o.maps.regs.t1 ≡ Plain (Int (pos 0)) → want.May (top - length words)
      → ((q : OState) → q.maps.regs ≡ popped_regs o.maps.regs r x (top - length words)
      → IsWipedAt (top - length words) o.maps.cells q.maps.cells
      → Here g linked p (length words) top words mem fs q → At g linked p (k + 1 + 1 + 1) q
      → want.Good b q)
      → 3 + b ≤ c → want.Good c o
  pop_to_law want c b r free keeps words x o code at h t1 may u le =
      let less : 1 + (1 + (1 + b)) ≤ c = omega (arith, le) in
      want.spend _ c o less
      (go g linked p k (Cca Stk (Imm (pos 1))) o h.valid at code.0 refl want _ s1
      (cca_goes look Plain Stk (Imm (pos 1)) _ o.maps (part_stack_cap (ranges_of p) top h.at) (pos 1) (pos a)
      refl h.stk refl e_up fit) refl refl (λ v1 at1.
      by_kind (is_linear (look x)) refl v1 at1))
    where
      a : ℕ
      a = top - length words

      hi : top ≤ g.layout.stack.end
      hi = h.high

      lo : g.layout.stack.base + (length words + 1) ≤ top + 1
      lo = h.low

      small : g.layout.stack.end ≤ 1048575
      small = stack_small g linked

      la : (ranges_of p).stack_base ≤ top - length words
      la = let sb = linked.stack_bases p ip in omega (arith, lo, sb)

      lb : g.layout.stack.base ≤ top - length words
      lb = omega (arith, lo)

      hb : top - length words ≤ g.layout.stack.end
      hb = omega (arith, hi)

      ha : top - length words ≤ top
      ha = omega arith

      e_up : h.at +ℤ pos 1 ≡ pos (top - length words)
      e_up = let cu = h.cursor in omega (arith, ints, cu, lo)

      fit : fits_64 (pos (top - length words)) ≡ true
      fit = fits_small (top - length words) (omega (arith, hi, small))

      there : cell o.maps.cells (top - length words) ≡ Some x
      there = let z0 : top - (0 + length words) ≡ top - length words = omega arith in
          ap (cell o.maps.cells) (sym z0)
          ∙ holds_get o.maps.cells top 0 (words ++ x ∷ []) (length words) x (slice_last words x) h.slots

      s1 : State OWord
      s1 = put (put o.maps (R Stk) (stack_at (pos (top - length words)))) (R Pc)
          (Plain (next_pc g linked p k))

      zero_cell : Cells → Cells
      zero_cell cells = set_cell cells (top - length words) (Plain (Int (pos 0)))

      slots_kept : (cells : Cells) → Holds cells top 0 words → Holds (zero_cell cells) top 0 words
      slots_kept cells hs = holds_other cells top 0 words (top - length words) (Plain (Int (pos 0)))
          (λ i lt e. absurd (let d : top - (0 + i) ≢ top - length words = omega (arith, lt, lo) in d e)) hs

      front : Holds o.maps.cells top 0 words
      front = holds_front o.maps.cells top 0 words (x ∷ []) h.slots

      -- the last word, from a state whose cell is there
      last : (s2 : State OWord) (w : OWord)
          → s2.regs ≡ set_reg (set_reg s1.regs r x) Pc (Plain (next_pc g linked p (k + 1)))
          → cell s2.cells (top - length words) ≡ Some w → Holds s2.cells top 0 words
          → DataIs g linked mem s2.cells
          → ((b : ℕ) → b ≢ top - length words → cell s2.cells b ≡ cell o.maps.cells b)
          → Valid g linked (record o { maps = s2 }) → At g linked p (k + 1 + 1) (record o { maps = s2 })
          → want.Good (1 + b) (record o { maps = s2 })
      last s2 w rs there2 hs ds others v2 at2 =
          let t2 : s2.regs.t1 ≡ Plain (Int (pos 0)) = ap (λ y. y.t1) rs ∙ keeps s1.regs x ∙ t1 in
          let stk2 : look s2.regs.stk ≡ Mem (part_stack_cap (ranges_of p) top (pos (top - length words))) =
          ap (λ y. look y.stk) rs ∙ ap look (free.keeps_stk s1.regs x) in
          let dat2 : look s2.regs.dat ≡ Mem (data_cap (ranges_of p) (pos p.component.data_base)) =
          ap (λ y. look y.dat) rs ∙ ap look (free.keeps_dat s1.regs x) ∙ h.dat in
          let s3 = put (put s2 (Cell (top - length words)) (Plain (Int (pos 0)))) (R Pc)
          (Plain (next_pc g linked p (k + 1 + 1))) in
          let does : row look Plain (Store Stk T1) (next_pc g linked p (k + 1 + 1)) s2 ≡ went s3 =
          store_goes look Plain Stk T1 _ s2 s2 (part_stack_cap (ranges_of p) top (pos (top - length words)))
          (top - length words) w stk2 refl refl la ha there2
          (stays look Plain s2 (R T1) (ap (λ y. is_linear (look y)) t2))
          ∙ ap (λ y. went (put (put s2 (Cell (top - length words)) y) (R Pc)
          (Plain (next_pc g linked p (k + 1 + 1))))) t2 in
          let cursor : pos (top - length words) +ℤ pos (length words) ≡ pos top = omega (arith, ints, lo) in
          let low : g.layout.stack.base + length words ≤ top + 1 = omega (arith, lo) in
          let fits' : length words ≤ length words = omega arith in
          go_set g linked p (k + 1 + 1) (Store Stk T1) (record o { maps = s2 }) v2 at2 code.1.1.0 refl want b
          s3 (top - length words) (Plain (Int (pos 0))) does refl refl (λ _. zero_public g) may (λ v3 at3.
          u (record o { maps = s3 }) (ap (λ y. set_reg y Pc (Plain (next_pc g linked p (k + 1 + 1)))) rs)
          (record {
            wiped = cell-set_same s2.cells (top - length words) (Plain (Int (pos 0)));
            others = λ b ne. cell-set_other s2.cells (top - length words) b (Plain (Int (pos 0))) ne
                ∙ others b ne;
          })
          (record {
            valid = v3;
            at = pos (top - length words);
            stk = stk2;
            cursor = cursor;
            dat = dat2;
            slots = slots_kept s2.cells hs;
            fit = fits';
            globs = data_apart g linked mem (top - length words) (Plain (Int (pos 0))) s2.cells lb hb ds;
            frames = h.frames;
            low = low;
            high = h.high;
            free = h.free;
          }) at3)

      by_kind : (l : Bool) → is_linear (look x) ≡ l → Valid g linked (record o { maps = s1 })
          → At g linked p (k + 1) (record o { maps = s1 }) → want.Good (1 + (1 + b)) (record o { maps = s1 })
      by_kind false e v1 at1 =
          let s2 = put (put s1 (R r) x) (R Pc) (Plain (next_pc g linked p (k + 1))) in
          go g linked p (k + 1) (Load r Stk) (record o { maps = s1 }) v1 at1 code.1.0 refl want (1 + b) s2
          (load_goes look Plain r Stk _ s1 (part_stack_cap (ranges_of p) top (pos (top - length words)))
          (top - length words) x (look x) free.no_pc refl refl refl la ha there refl e
          (sym (is_linear-face (look x)) ∙ e)) refl refl
          (λ v2 at2. last s2 x refl there front h.globs (λ b ne. refl) v2 at2)
      by_kind true e v1 at1 =
          let s2 = put (put (put s1 (Cell (top - length words)) (zero_word Plain)) (R r) x) (R Pc)
          (Plain (next_pc g linked p (k + 1))) in
          go_set g linked p (k + 1) (Load r Stk) (record o { maps = s1 }) v1 at1 code.1.0 refl want (1 + b) s2
          (top - length words) (zero_word Plain)
          (load_linear_goes look Plain r Stk _ s1
          (part_stack_cap (ranges_of p) top (pos (top - length words)))
          (top - length words) x (look x) free.no_pc refl refl refl refl la ha there refl e
          (sym (is_linear-face (look x)) ∙ e)) refl refl (λ _. zero_public g) may
          (λ v2 at2. last s2 (zero_word Plain) refl
          (cell-set_same o.maps.cells (top - length words) (zero_word Plain))
          (slots_kept o.maps.cells front)
          (data_apart g linked mem (top - length words) (zero_word Plain) o.maps.cells lb hb h.globs)
          (λ b ne. cell-set_other o.maps.cells (top - length words) b (zero_word Plain) ne) v2 at2)
