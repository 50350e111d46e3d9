-- The rows of the table of templates, over the overlay's steps.
use Rattle.std.proofs.Common.{◌≡◌, ◌≢◌, inl, inr, ℕ, ◌+◌, ◌-◌, ◌<◌, ◌≤◌, ℤ, pos, ◌+ℤ◌, ◌-ℤ◌, List}
use Rattle.std.proofs.Common.{[], ◌∷◌, length, Some, None, true, false, refl, sym, ap, ◌∙◌, subst, arith}
use Rattle.std.specs.Prelude.{slice_get}
use Rattle.std.proofs.lemmas.Int.{ints}
use Rattle.std.proofs.lemmas.Bool.{cases_lt}
use Rattle.call_sequence.specs.SequenceRuns.{IsOutsideRange}
use Rattle.cap_words.specs.declared.Word.TheVariants.{Mem}
use Rattle.cap_words.specs.Linear.{is_linear}
use Rattle.cap_words.specs.Face.{face_of}
use Rattle.cap_words.specs.Faces.{face_linear}
use Rattle.lcm_isa.specs.declared.Reg.{Reg}
use Rattle.lcm_isa.specs.declared.Reg.TheVariants.{Pc, Stk, Rcode, Rdata, T1, T2, C1, C2, A0, A1, A2, A3, G0}
use Rattle.lcm_isa.specs.declared.Reg.TheVariants.{G1, G2}
use Rattle.lcm_isa.specs.declared.Operand.TheVariants.{Imm}
use Rattle.lcm_isa.specs.declared.Instr.{Instr}
use Rattle.lcm_isa.specs.declared.Instr.TheVariants.{Load, Store, Cca}
use Rattle.lcm_machine.specs.declared.Place.TheVariants.{R, Cell}
use Rattle.lcm_machine.specs.Maps.{State, Regs}
use Rattle.lcm_machine.specs.Places.{reg, set_reg}
use Rattle.lcm_machine.specs.Cells.{cell, set_cell}
use Rattle.lcm_machine.specs.Table.{fits_64, is_pc}
use Rattle.lcm_machine.specs.Row.{put, row, went}
use Rattle.lcm_machine.proofs.Offers.{stays, cca_goes, load_goes, store_goes, cell-set_other}
use Rattle.template_runs.proofs.Numbers.{fits_small, fits_less}
use Rattle.call_sequence.specs.Holds.{data_cap, part_stack_cap}
use Rattle.linked_starts.specs.Parts.{PartSeen}
use Rattle.overlay_machine.specs.declared.words.OWord.{OWord}
use Rattle.overlay_machine.specs.declared.words.OWord.TheVariants.{Plain}
use Rattle.overlay_machine.specs.Words.{look}
use Rattle.overlay_machine.specs.State.{OpenFrame, OState, Cells, framed}
use Rattle.overlay_machine.specs.Link.{Link, IsTrusted, ranges_of, stack_region, data_region}
use Rattle.overlay_machine.specs.Linked.{IsLink}
use Rattle.overlay_machine.proofs.Offers.{stack_small, same_region, stack_there, open_stack_at}
use Rattle.template_runs.specs.Public.{IsPublic, IsFreeAt}
use Rattle.template_runs.specs.Runs.{RunsOn}
use Rattle.template_runs.proofs.Valid.{Valid}
use Rattle.template_runs.proofs.Steps.{At, Code, next_pc, go, go_set}
use Rattle.template_runs.proofs.Slots.{Holds, with_at, length-with_at, holds_get, holds_set}
use Rattle.component_file.proofs.Offers.{inside as there_before}

module _ (g : Link) (linked : IsLink g) where
  -- the words of trusted data
  abbrev pub DataIs : (ℕ → OWord) → Cells → Type 0
  DataIs mem m = (p : PartSeen) (d : ℕ) → IsTrusted g p → d < length p.component.data_words
      → cell m (p.component.data_base + d) ≡ Some (mem (p.component.data_base + d))

  -- inside a procedure of a part that needs w words, with these words in its slots, these in all trusted
  -- data, and these frames open: stk is over the stack up to the top, and stands w below it; data is at an
  -- address
  pub record HereAt (z : ℤ) (p : PartSeen) (w top : ℕ) (words : List OWord) (mem : ℕ → OWord)
      (fs : List OpenFrame) (o : OState) : Type 0 where
    pub valid : Valid g linked o
    pub at : ℤ
    pub stk : look o.maps.regs.stk ≡ Mem (part_stack_cap (ranges_of p) top at)
    pub cursor : at +ℤ pos w ≡ pos top
    pub dat : look o.maps.regs.dat ≡ Mem (data_cap (ranges_of p) z)
    pub slots : Holds o.maps.cells top 0 words
    pub fit : length words ≤ w
    pub globs : DataIs mem o.maps.cells
    pub frames : o.frames ≡ fs
    pub low : g.layout.stack.base + w ≤ top + 1
    pub high : top ≤ g.layout.stack.end
    pub free : (a : ℕ) → g.layout.stack.base ≤ a → a ≤ top → framed fs a ≡ None

  -- with data at its base
  abbrev pub Here : PartSeen → ℕ → ℕ → List OWord → (ℕ → OWord) → List OpenFrame → OState → Type 0
  Here p w top words mem fs o = HereAt (pos p.component.data_base) p w top words mem fs o

  -- and so at another state with the same cells and frames, and stk at the same address
  pub moved : {z y : ℤ} {p : PartSeen} {w top : ℕ} {words : List OWord} {mem : ℕ → OWord}
      {fs : List OpenFrame} {o q : OState} (h : HereAt z p w top words mem fs o) → Valid g linked q
      → look q.maps.regs.stk ≡ Mem (part_stack_cap (ranges_of p) top h.at)
      → look q.maps.regs.dat ≡ Mem (data_cap (ranges_of p) y) → q.maps.cells ≡ o.maps.cells
      → q.frames ≡ o.frames → HereAt y p w top words mem fs q
  moved {top = top} {words = words} {mem = mem} h v stk dat cells frames = record {
    valid = v;
    at = h.at;
    stk = stk;
    cursor = h.cursor;
    dat = dat;
    slots = subst (λ m. Holds m top 0 words) (sym cells) h.slots;
    fit = h.fit;
    globs = subst (DataIs mem) (sym cells) h.globs;
    frames = frames ∙ h.frames;
    low = h.low;
    high = h.high;
    free = h.free;
  }

  -- trusted data is no stack
  pub data_not_stack : (q : PartSeen) (d : ℕ) → IsTrusted g q → d < length q.component.data_words
      → g.layout.stack.base ≤ q.component.data_base + d → q.component.data_base + d ≤ g.layout.stack.end → ⊥
  data_not_stack q d iq lt lo hi =
      let a = q.component.data_base + d in
      let l1 : (ranges_of q).data_base ≤ q.component.data_base + d = omega arith in
      let l2 : q.component.data_base + d ≤ (ranges_of q).data_last = omega (arith, lt) in
      let e = same_region g linked (data_region q) (stack_region g.layout) (q.component.data_base + d)
      (linked.data_there q iq) (stack_there g linked) l1 l2 lo hi in
      let k : false ≡ true = ap (λ r. r.linear) e in cc

  -- all trusted data lies apart from the stack
  pub data_apart : (mem : ℕ → OWord) (a : ℕ) (w : OWord) (cells : Cells) → g.layout.stack.base ≤ a
      → a ≤ g.layout.stack.end
      → DataIs mem cells → DataIs mem (set_cell cells a w)
  data_apart mem a w cells lo hi h q d iq lt = cell-set_other cells a (q.component.data_base + d) w ne
      ∙ h q d iq lt
    where
      ne : q.component.data_base + d ≢ a
      ne e = data_not_stack q d iq lt (subst (λ x. g.layout.stack.base ≤ x) (sym e) lo)
          (subst (λ x. x ≤ g.layout.stack.end) (sym e) hi)

  -- the stack lies apart from the code and the data of trusted parts
  pub stack_free : (a : ℕ) → g.layout.stack.base ≤ a → a ≤ g.layout.stack.end → IsFreeAt g a
  stack_free a lo hi = (open_stack_at g linked a lo hi, data_out)
    where
      inside : (q : PartSeen) → IsTrusted g q → (data_region q).base ≤ a → a ≤ (data_region q).end → ⊥
      inside q iq l1 l2 =
          let e = same_region g linked (data_region q) (stack_region g.layout) a (linked.data_there q iq)
          (stack_there g linked) l1 l2 lo hi in
          let k : false ≡ true = ap (λ r. r.linear) e in cc

      data_out : (q : PartSeen) → IsTrusted g q → IsOutsideRange a (ranges_of q).data_base
          (ranges_of q).data_last
      data_out q iq = elim (cases_lt a (ranges_of q).data_base) as
          (λ _. IsOutsideRange a (ranges_of q).data_base
          (ranges_of q).data_last) [
            | inl low ↦ inl low
            | inr l1 ↦ elim (cases_lt (ranges_of q).data_last a) as
                (λ _. IsOutsideRange a (ranges_of q).data_base
                (ranges_of q).data_last) [
                  | inl high ↦ inr high
                  | inr l2 ↦ absurd (inside q iq l1 l2)
                ]
          ]

  -- a register other than pc, stk and data
  pub record Free (r : Reg) : Type 0 where
    pub no_pc : is_pc r ≡ false
    pub keeps_stk : (rs : Regs OWord) (x : OWord) → (set_reg rs r x).stk ≡ rs.stk
    pub keeps_dat : (rs : Regs OWord) (x : OWord) → (set_reg rs r x).dat ≡ rs.dat

  pub free_t1 : Free T1
  free_t1 = record { no_pc = refl; keeps_stk = λ rs x. refl; keeps_dat = λ rs x. refl }

  pub free_g0 : Free G0
  free_g0 = record { no_pc = refl; keeps_stk = λ rs x. refl; keeps_dat = λ rs x. refl }

  pub free_g1 : Free G1
  free_g1 = record { no_pc = refl; keeps_stk = λ rs x. refl; keeps_dat = λ rs x. refl }

  pub free_g2 : Free G2
  free_g2 = record { no_pc = refl; keeps_stk = λ rs x. refl; keeps_dat = λ rs x. refl }

  pub free_t2 : Free T2
  free_t2 = record { no_pc = refl; keeps_stk = λ rs x. refl; keeps_dat = λ rs x. refl }

  pub free_a0 : Free A0
  free_a0 = record { no_pc = refl; keeps_stk = λ rs x. refl; keeps_dat = λ rs x. refl }

  pub free_a1 : Free A1
  free_a1 = record { no_pc = refl; keeps_stk = λ rs x. refl; keeps_dat = λ rs x. refl }

  pub free_a2 : Free A2
  free_a2 = record { no_pc = refl; keeps_stk = λ rs x. refl; keeps_dat = λ rs x. refl }

  pub free_a3 : Free A3
  free_a3 = record { no_pc = refl; keeps_stk = λ rs x. refl; keeps_dat = λ rs x. refl }

  pub free_c1 : Free C1
  free_c1 = record { no_pc = refl; keeps_stk = λ rs x. refl; keeps_dat = λ rs x. refl }

  pub free_c2 : Free C2
  free_c2 = record { no_pc = refl; keeps_stk = λ rs x. refl; keeps_dat = λ rs x. refl }

  pub free_rcode : Free Rcode
  free_rcode = record { no_pc = refl; keeps_stk = λ rs x. refl; keeps_dat = λ rs x. refl }

  pub free_rdata : Free Rdata
  free_rdata = record { no_pc = refl; keeps_stk = λ rs x. refl; keeps_dat = λ rs x. refl }

  abbrev pub up : ℕ → ℕ → ℤ
  up w j = pos w -ℤ pos j

  abbrev pub down : ℕ → ℕ → ℤ
  down w j = pos j -ℤ pos w

  abbrev pub load_slot : ℕ → ℕ → Reg → List Instr
  load_slot w j r = Cca Stk (Imm (up w j)) ∷ Load r Stk ∷ Cca Stk (Imm (down w j)) ∷ []

  abbrev pub store_slot : ℕ → ℕ → Reg → List Instr
  store_slot w j r = Cca Stk (Imm (up w j)) ∷ Store Stk r ∷ Cca Stk (Imm (down w j)) ∷ []

  module _ (p : PartSeen) (ip : IsTrusted g p) (w top : ℕ) (mem : ℕ → OWord) (fs : List OpenFrame) (k : ℕ)
    where
      -- the state after three steps that set stk and, in between, something else
      abbrev with_stk : State OWord → ℤ → ℕ → State OWord
      with_stk s z i = put (put s (R Stk) (Plain (Mem (part_stack_cap (ranges_of p) top z)))) (R Pc)
          (Plain (next_pc g linked p i))

      abbrev pub loaded : OState → ℤ → Reg → ℕ → OWord → OState
      loaded o z r a x = record o {
        maps =
            with_stk (put (put (with_stk o.maps (pos a) k) (R r) x) (R Pc)
            (Plain (next_pc g linked p (k + 1)))) z
            (k + 1 + 1);
      }

      -- a slot is loaded
      pub load_law : (want : RunsOn g.layout) (c b : ℕ) → (r : Reg) → Free r
          → (words : List OWord) (j : ℕ) (x : OWord) (o : OState) → Code g linked p k (load_slot w j r)
          → slice_get words j ≡ Some x → j < w → is_linear (look x) ≡ false
          → face_linear (face_of (look x)) ≡ false
          → At g linked p k o → (h : Here p w top words mem fs o)
          → (Here p w top words mem fs (loaded o h.at r (top - j) x)
          → At g linked p (k + 1 + 1 + 1) (loaded o h.at r (top - j) x)
          → want.Good b (loaded o h.at r (top - j) x))
          → 3 + b ≤ c → want.Good c o
      load_law want c b r free words j x o code got lt nl fl at h u le =
          let l = h.low in
          let hi = h.high in
          let cu = h.cursor in
          let small = stack_small g linked in
          let sb = linked.stack_bases p ip in
          let a = top - j in
          let la : (ranges_of p).stack_base ≤ top - j = omega (arith, l, lt, sb) in
          let ha : top - j ≤ top = omega arith in
          let fit_a : fits_64 (pos (top - j)) ≡ true = fits_small (top - j) (omega (arith, hi, small)) in
          let zd : h.at ≡ pos top -ℤ pos w = omega (arith, ints, cu) in
          let fit_z : fits_64 h.at ≡ true = ap fits_64 zd
          ∙ fits_less top w (omega (arith, hi, small)) (omega (arith, l, hi, small)) in
          let e_up : h.at +ℤ up w j ≡ pos (top - j) = omega (arith, ints, cu, lt, l) in
          let e_down : pos (top - j) +ℤ down w j ≡ h.at = omega (arith, ints, cu, lt, l) in
          let z0 : top - (0 + j) ≡ top - j = omega arith in
          let there : cell o.maps.cells (top - j) ≡ Some x = ap (cell o.maps.cells) (sym z0)
          ∙ holds_get o.maps.cells top 0 words j x got h.slots in
          let s1 = with_stk o.maps (pos a) k in
          let s2 = put (put s1 (R r) x) (R Pc) (Plain (next_pc g linked p (k + 1))) in
          let s3 = with_stk s2 h.at (k + 1 + 1) in
          let stk2 : look s2.regs.stk ≡ Mem (part_stack_cap (ranges_of p) top (pos (top - j))) =
          ap look (free.keeps_stk s1.regs x) in
          let dat2 : look s2.regs.dat ≡ Mem (data_cap (ranges_of p) (pos p.component.data_base)) =
          ap look (free.keeps_dat s1.regs x) ∙ h.dat in
          let less : 1 + (1 + (1 + b)) ≤ c = omega (arith, le) in
          want.spend _ c o less
          (go g linked p k (Cca Stk (Imm (up w j))) o h.valid at code.0 refl want _ s1
          (cca_goes look Plain Stk (Imm (up w j)) _ o.maps (part_stack_cap (ranges_of p) top h.at) (up w j)
          (pos (top - j)) refl h.stk refl e_up fit_a) refl refl (λ v1 at1.
          go g linked p (k + 1) (Load r Stk) (record o { maps = s1 }) v1 at1 code.1.0 refl want _ s2
          (load_goes look Plain r Stk _ s1 (part_stack_cap (ranges_of p) top (pos (top - j))) (top - j) x
          (look x) free.no_pc refl refl refl la ha there refl nl fl) refl refl (λ v2 at2.
          go g linked p (k + 1 + 1) (Cca Stk (Imm (down w j))) (record o { maps = s2 }) v2 at2 code.1.1.0 refl
          want b s3 (cca_goes look Plain Stk (Imm (down w j)) _ s2
          (part_stack_cap (ranges_of p) top (pos (top - j))) (down w j) h.at refl stk2 refl e_down fit_z) refl
          refl (λ v3 at3.
          u (moved h v3 refl dat2 refl refl)
          at3))))

      -- a register is stored to a slot
      abbrev pub stored : OState → ℤ → Reg → ℕ → OState
      stored o z r a = record o {
        maps =
            with_stk (put (put (with_stk o.maps (pos a) k) (Cell a) (reg o.maps.regs r)) (R Pc)
            (Plain (next_pc g linked p (k + 1)))) z (k + 1 + 1);
      }

      pub store_law : (want : RunsOn g.layout) (c b : ℕ) → (r : Reg) → (words : List OWord) (j : ℕ)
          (o : OState)
          → Code g linked p k (store_slot w j r) → j < length words
          → reg (with_stk o.maps (pos (top - j)) k).regs r ≡ reg o.maps.regs r
          → is_linear (look (reg o.maps.regs r)) ≡ false → IsPublic g (reg o.maps.regs r) → want.May (top - j)
          → At g linked p k o → (h : Here p w top words mem fs o)
          → (Here p w top (with_at words j (reg o.maps.regs r)) mem fs (stored o h.at r (top - j))
          → At g linked p (k + 1 + 1 + 1) (stored o h.at r (top - j))
          → want.Good b (stored o h.at r (top - j)))
          → 3 + b ≤ c → want.Good c o
      store_law want c b r words j o code lt same nl public may at h u le =
          let l = h.low in
          let hi = h.high in
          let cu = h.cursor in
          let ft = h.fit in
          let small = stack_small g linked in
          let sb = linked.stack_bases p ip in
          let a = top - j in
          let x = reg o.maps.regs r in
          let la : (ranges_of p).stack_base ≤ top - j = omega (arith, l, lt, ft, sb) in
          let lb : g.layout.stack.base ≤ top - j = omega (arith, l, lt, ft) in
          let hb : top - j ≤ g.layout.stack.end = omega (arith, hi) in
          let ha : top - j ≤ top = omega arith in
          let fit_a : fits_64 (pos (top - j)) ≡ true = fits_small (top - j) (omega (arith, hi, small)) in
          let zd : h.at ≡ pos top -ℤ pos w = omega (arith, ints, cu) in
          let fit_z : fits_64 h.at ≡ true = ap fits_64 zd
          ∙ fits_less top w (omega (arith, hi, small)) (omega (arith, l, hi, small)) in
          let e_up : h.at +ℤ up w j ≡ pos (top - j) = omega (arith, ints, cu, lt, ft, l) in
          let e_down : pos (top - j) +ℤ down w j ≡ h.at = omega (arith, ints, cu, lt, ft, l) in
          let some = there_before words j lt in
          let z0 : top - (0 + j) ≡ top - j = omega arith in
          let there : cell o.maps.cells (top - j) ≡ Some some.0 = ap (cell o.maps.cells) (sym z0)
          ∙ holds_get o.maps.cells top 0 words j some.0 some.1 h.slots in
          let s1 = with_stk o.maps (pos a) k in
          let s2 = put (put s1 (Cell a) (reg o.maps.regs r)) (R Pc) (Plain (next_pc g linked p (k + 1))) in
          let s3 = with_stk s2 h.at (k + 1 + 1) in
          let room : 0 + length words ≤ top + 1 = omega (arith, l, ft) in
          let held : Holds (set_cell o.maps.cells (top - j) x) top 0 (with_at words j x) =
          subst (λ y. Holds (set_cell o.maps.cells y x) top 0 (with_at words j x)) z0
          (holds_set o.maps.cells top 0 words j x lt room h.slots) in
          let fit' : length (with_at words j x) ≤ w =
          (let e = length-with_at words j x in omega (arith, e, ft)) in
          let less : 1 + (1 + (1 + b)) ≤ c = omega (arith, le) in
          let does : row look Plain (Store Stk r) (next_pc g linked p (k + 1)) s1 ≡ went s2 =
          store_goes look Plain Stk r _ s1 s1 (part_stack_cap (ranges_of p) top (pos (top - j)))
          (top - j) some.0
          refl refl refl la ha there (stays look Plain s1 (R r) (ap (λ y. is_linear (look y)) same ∙ nl))
          ∙ ap (λ y. went (put (put s1 (Cell a) y) (R Pc) (Plain (next_pc g linked p (k + 1))))) same in
          want.spend _ c o less
          (go g linked p k (Cca Stk (Imm (up w j))) o h.valid at code.0 refl want _ s1
          (cca_goes look Plain Stk (Imm (up w j)) _ o.maps (part_stack_cap (ranges_of p) top h.at) (up w j)
          (pos (top - j)) refl h.stk refl e_up fit_a) refl refl (λ v1 at1.
          go_set g linked p (k + 1) (Store Stk r) (record o { maps = s1 }) v1 at1 code.1.0 refl want _ s2
          (top - j) x does refl refl (λ _. public) may (λ v2 at2.
          go g linked p (k + 1 + 1) (Cca Stk (Imm (down w j))) (record o { maps = s2 }) v2 at2 code.1.1.0 refl
          want b s3 (cca_goes look Plain Stk (Imm (down w j)) _ s2
          (part_stack_cap (ranges_of p) top (pos (top - j))) (down w j) h.at refl refl refl e_down fit_z) refl
          refl (λ v3 at3.
          u (record {
            valid = v3;
            at = h.at;
            stk = refl;
            cursor = h.cursor;
            dat = h.dat;
            slots = held;
            fit = fit';
            globs = data_apart mem (top - j) x o.maps.cells lb hb h.globs;
            frames = h.frames;
            low = h.low;
            high = h.high;
            free = h.free;
          }) at3))))
