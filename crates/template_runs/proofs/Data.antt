-- Words that set one register, and words of the part's data, with the data register anywhere.
use Rattle.std.proofs.Common.{◌≡◌, ◌≢◌, inl, inr, ℕ, ◌+◌, ◌-◌, ◌<◌, ◌≤◌, ℤ, pos, ◌+ℤ◌, List, length, Some}
use Rattle.std.proofs.Common.{None, true, false, refl, sym, ap, ◌∙◌, subst, arith}
use Rattle.std.specs.Prelude.{◌==◌, if◌then◌else◌}
use Rattle.std.proofs.lemmas.Bool.{eq-eqb, ne_eqb, cases_eq}
use Rattle.cap_words.specs.declared.Word.{Word}
use Rattle.cap_words.specs.declared.Word.TheVariants.{Mem}
use Rattle.cap_words.specs.Linear.{is_linear}
use Rattle.cap_words.specs.Face.{face_of}
use Rattle.cap_words.specs.Faces.{face_linear}
use Rattle.lcm_isa.specs.declared.Reg.{Reg}
use Rattle.lcm_isa.specs.declared.Reg.TheVariants.{Pc, Dat}
use Rattle.lcm_isa.specs.declared.Operand.{Operand}
use Rattle.lcm_isa.specs.declared.Instr.{Instr}
use Rattle.lcm_isa.specs.declared.Instr.TheVariants.{Load, Store, Cca}
use Rattle.lcm_machine.specs.declared.Place.TheVariants.{R, Cell}
use Rattle.lcm_machine.specs.Places.{reg}
use Rattle.lcm_machine.specs.Cells.{cell, set_cell}
use Rattle.lcm_machine.specs.Table.{fits_64, operand}
use Rattle.lcm_machine.specs.Row.{put, row, went, faces, jump_of}
use Rattle.lcm_machine.proofs.Offers.{stays, cca_goes, load_goes, store_goes, cell-set_other, cell-set_same}
use Rattle.call_sequence.specs.Holds.{data_cap}
use Rattle.linked_starts.specs.Parts.{PartSeen}
use Rattle.overlay_machine.specs.declared.words.OWord.{OWord}
use Rattle.overlay_machine.specs.declared.words.OWord.TheVariants.{Plain}
use Rattle.overlay_machine.specs.Words.{look}
use Rattle.overlay_machine.specs.State.{OpenFrame, OState}
use Rattle.overlay_machine.specs.Link.{Link, IsTrusted, ranges_of}
use Rattle.overlay_machine.specs.Linked.{IsLink}
use Rattle.template_runs.proofs.Slots.{Holds, holds_other}
use Rattle.template_runs.specs.Public.{IsFreeAt}
use Rattle.template_runs.specs.Runs.{RunsOn}
use Rattle.template_runs.proofs.Steps.{At, Placed, next_pc, go, go_set}
use Rattle.template_runs.proofs.Rows.{HereAt, Here, Free, DataIs, data_not_stack, moved}

-- a word of data is set
abbrev pub mem_with : (ℕ → OWord) → ℕ → OWord → ℕ → OWord
mem_with mem a x b = if b == a then x else mem b

pub mem_same : (mem : ℕ → OWord) (a : ℕ) (x : OWord) → mem_with mem a x a ≡ x
mem_same mem a x = rw (eq-eqb a a refl) refl

pub mem_other : (mem : ℕ → OWord) (a b : ℕ) (x : OWord) → b ≢ a → mem_with mem a x b ≡ mem b
mem_other mem a b x ne = rw (ne_eqb b a ne) refl

-- a cell of trusted data isn't free
pub not_free : (g : Link) (p : PartSeen) (d : ℕ) → IsTrusted g p → d < length p.component.data_words
    → IsFreeAt g (p.component.data_base + d) → ⊥
not_free g p d ip lt free = elim (free.1 p ip) as (λ _. ⊥) [
  | inl low ↦ absurd (omega (arith, low))
  | inr high ↦ absurd (omega (arith, high, lt))
]

-- a register set, and pc
abbrev pub with_reg : OState → Reg → OWord → Word → OState
with_reg o r x next = record o { maps = put (put o.maps (R r) x) (R Pc) (Plain next) }

module _ (g : Link) (linked : IsLink g) (p : PartSeen) (ip : IsTrusted g p) (w top : ℕ) (fs : List OpenFrame)
  where
    -- inside the procedure, with data at an address
    abbrev pub Away : ℤ → List OWord → (ℕ → OWord) → OState → Type 0
    Away z words mem o = HereAt g linked z p w top words mem fs o

    abbrev pub base : ℤ
    base = pos p.component.data_base

    pub away : (words : List OWord) (mem : ℕ → OWord) (o : OState) → Here g linked p w top words mem fs o
        → Away base words mem o
    away words mem o h = h

    pub home : (words : List OWord) (mem : ℕ → OWord) (o : OState) → Away base words mem o
        → Here g linked p w top words mem fs o
    home words mem o h = h

    module _ (k : ℕ) where
      -- a word that sets one register
      pub set_law : (want : RunsOn g.layout) (c b : ℕ) (words : List OWord) (mem : ℕ → OWord) (o : OState)
          → (z : ℤ) (i : Instr) (r : Reg) (x : OWord) → Free g linked r → jump_of i ≡ None
          → Placed g linked p k i → At g linked p k o → Away z words mem o
          → row look Plain i (next_pc g linked p k) o.maps ≡ went
          (put (put o.maps (R r) x) (R Pc) (Plain (next_pc g linked p k)))
          → (Away z words mem (with_reg o r x (next_pc g linked p k))
          → At g linked p (k + 1) (with_reg o r x (next_pc g linked p k))
          → want.Good b (with_reg o r x (next_pc g linked p k)))
          → 1 + b ≤ c → want.Good c o
      set_law want c b words mem o z i r x free calm code at h does u le =
          want.spend (1 + b) c o le
          (go g linked p k i o h.valid at code calm want b _ does refl refl (λ v1 at1.
          u (moved g linked h v1 (ap look (free.keeps_stk o.maps.regs x) ∙ h.stk)
          (ap look (free.keeps_dat o.maps.regs x) ∙ h.dat) refl refl)
          at1))

      abbrev pub skipped : OState → OState
      skipped o = record o { maps = put o.maps (R Pc) (Plain (next_pc g linked p k)) }

      -- a word that sets nothing
      pub skip_law : (want : RunsOn g.layout) (c b : ℕ) (words : List OWord) (mem : ℕ → OWord) (o : OState)
          → (z : ℤ) (i : Instr) → jump_of i ≡ None → Placed g linked p k i → At g linked p k o
          → Away z words mem o
          → row look Plain i (next_pc g linked p k) o.maps ≡ went
          (put o.maps (R Pc) (Plain (next_pc g linked p k)))
          → (Away z words mem (skipped o) → At g linked p (k + 1) (skipped o) → want.Good b (skipped o))
          → 1 + b ≤ c → want.Good c o
      skip_law want c b words mem o z i calm code at h does u le =
          want.spend (1 + b) c o le
          (go g linked p k i o h.valid at code calm want b _ does refl refl (λ v1 at1.
          u (moved g linked h v1 h.stk h.dat refl refl)
          at1))

      -- data moves
      pub dat_law : (want : RunsOn g.layout) (c b : ℕ) (words : List OWord) (mem : ℕ → OWord) (o : OState)
          → (z d to : ℤ) (i : Operand) → Placed g linked p k (Cca Dat i) → At g linked p k o
          → Away z words mem o → operand (faces look o.maps) i ≡ Some d → z +ℤ d ≡ to → fits_64 to ≡ true
          → (Away to words mem
          (with_reg o Dat (Plain (Mem (data_cap (ranges_of p) to))) (next_pc g linked p k))
          → At g linked p (k + 1)
          (with_reg o Dat (Plain (Mem (data_cap (ranges_of p) to))) (next_pc g linked p k))
          → want.Good b (with_reg o Dat (Plain (Mem (data_cap (ranges_of p) to))) (next_pc g linked p k)))
          → 1 + b ≤ c → want.Good c o
      dat_law want c b words mem o z d to i code at h is e fit u le =
          want.spend (1 + b) c o le
          (go g linked p k (Cca Dat i) o h.valid at code refl want b _
          (cca_goes look Plain Dat i _ o.maps (data_cap (ranges_of p) z) d to refl h.dat is e fit) refl
          refl (λ v1 at1.
          u (moved g linked h v1 h.stk refl refl refl)
          at1))

      -- a word of data that isn't linear is loaded
      pub load_data_law : (want : RunsOn g.layout) (c b : ℕ) (words : List OWord) (mem : ℕ → OWord)
          (o : OState)
          → (d : ℕ) (r : Reg) (x : OWord) → Free g linked r → Placed g linked p k (Load r Dat)
          → At g linked p k o → Away (pos (p.component.data_base + d)) words mem o
          → d < length p.component.data_words
          → mem (p.component.data_base + d) ≡ x → is_linear (look x) ≡ false
          → face_linear (face_of (look x)) ≡ false
          → (Away (pos (p.component.data_base + d)) words mem (with_reg o r x (next_pc g linked p k))
          → At g linked p (k + 1) (with_reg o r x (next_pc g linked p k))
          → want.Good b (with_reg o r x (next_pc g linked p k)))
          → 1 + b ≤ c → want.Good c o
      load_data_law want c b words mem o d r x free code at h lt is nl fl u le =
          let la : p.component.data_base ≤ p.component.data_base + d = omega arith in
          let ha : p.component.data_base + d ≤ (ranges_of p).data_last = omega (arith, lt) in
          set_law want c b words mem o (pos (p.component.data_base + d)) (Load r Dat) r x free refl code at h
          (load_goes look Plain r Dat _ o.maps (data_cap (ranges_of p) (pos (p.component.data_base + d)))
          (p.component.data_base + d) x (look x) free.no_pc h.dat refl refl la ha
          (h.globs p d ip lt ∙ ap Some is) refl nl fl) u le

      abbrev pub with_data : OState → ℕ → OWord → OState
      with_data o a x = record o { maps = put (put o.maps (Cell a) x) (R Pc) (Plain (next_pc g linked p k)) }

      -- a register's word is stored there
      pub store_data_law : (want : RunsOn g.layout) (c b : ℕ) (words : List OWord) (mem : ℕ → OWord)
          (o : OState)
          → (d : ℕ) (r : Reg) (x : OWord) → Placed g linked p k (Store Dat r) → At g linked p k o
          → Away (pos (p.component.data_base + d)) words mem o → d < length p.component.data_words
          → reg o.maps.regs r ≡ x → is_linear (look x) ≡ false → want.May (p.component.data_base + d)
          → (Away (pos (p.component.data_base + d)) words (mem_with mem (p.component.data_base + d) x)
          (with_data o (p.component.data_base + d) x)
          → At g linked p (k + 1) (with_data o (p.component.data_base + d) x)
          → want.Good b (with_data o (p.component.data_base + d) x))
          → 1 + b ≤ c → want.Good c o
      store_data_law want c b words mem o d r x code at h lt is nl may u le =
          let a = p.component.data_base + d in
          let la : p.component.data_base ≤ p.component.data_base + d = omega arith in
          let ha : p.component.data_base + d ≤ (ranges_of p).data_last = omega (arith, lt) in
          let does : row look Plain (Store Dat r) (next_pc g linked p k) o.maps ≡ went
          (put (put o.maps (Cell (p.component.data_base + d)) x) (R Pc) (Plain (next_pc g linked p k))) =
          store_goes look Plain Dat r _ o.maps o.maps
          (data_cap (ranges_of p) (pos (p.component.data_base + d)))
          (p.component.data_base + d) (mem (p.component.data_base + d)) h.dat refl refl la ha
          (h.globs p d ip lt) (stays look Plain o.maps (R r) (ap (λ y. is_linear (look y)) is ∙ nl))
          ∙ ap (λ y. went (put (put o.maps (Cell (p.component.data_base + d)) y) (R Pc)
          (Plain (next_pc g linked p k)))) is in
          want.spend (1 + b) c o le
          (go_set g linked p k (Store Dat r) o h.valid at code refl want b _ (p.component.data_base + d) x
          does
          refl refl (λ free. absurd (not_free g p d ip lt free)) may (λ v1 at1.
          u (record {
            valid = v1;
            at = h.at;
            stk = h.stk;
            cursor = h.cursor;
            dat = h.dat;
            slots = held h;
            fit = h.fit;
            globs = globs h;
            frames = h.frames;
            low = h.low;
            high = h.high;
            free = h.free;
          })
          at1))
        where
          held : Away (pos (p.component.data_base + d)) words mem o
              → Holds (set_cell o.maps.cells (p.component.data_base + d) x) top 0 words
          held h = holds_other o.maps.cells top 0 words (p.component.data_base + d) x (λ i li e.
              let l = h.low in
              let hi = h.high in
              let ft = h.fit in
              let lo2 : g.layout.stack.base ≤ top - (0 + i) = omega (arith, l, ft, li) in
              let hi2 : top - (0 + i) ≤ g.layout.stack.end = omega (arith, hi) in
              data_not_stack g linked p d ip lt (subst (λ y. g.layout.stack.base ≤ y) e lo2)
              (subst (λ y. y ≤ g.layout.stack.end) e hi2)) h.slots

          globs : Away (pos (p.component.data_base + d)) words mem o
              → DataIs g linked (mem_with mem (p.component.data_base + d) x)
              (set_cell o.maps.cells (p.component.data_base + d) x)
          globs h q e iq le = elim (cases_eq (q.component.data_base + e) (p.component.data_base + d)) as (λ _.
              cell (set_cell o.maps.cells (p.component.data_base + d) x) (q.component.data_base + e) ≡ Some
              (mem_with mem (p.component.data_base + d) x (q.component.data_base + e))) [
                | inl same ↦ ap (cell (set_cell o.maps.cells (p.component.data_base + d) x)) same
                    ∙ cell-set_same o.maps.cells (p.component.data_base + d) x
                    ∙ ap Some (sym (ap (mem_with mem (p.component.data_base + d) x) same
                    ∙ mem_same mem (p.component.data_base + d) x))
                | inr ne ↦ cell-set_other o.maps.cells (p.component.data_base + d) (q.component.data_base + e)
                    x ne
                    ∙ h.globs q e iq le ∙ ap Some
                    (sym (mem_other mem (p.component.data_base + d) (q.component.data_base + e) x ne))
              ]
