-- A step of trusted code outside its sequences: where it goes, registers fit the row there.
use Rattle.std.proofs.Common.{◌≡◌, ◌≢◌, ℕ, suc, ◌+◌, ◌<◌, ◌≤◌, ◌⊎◌, inl, inr, false, length, Option, Some}
use Rattle.std.proofs.Common.{None, refl, sym, ap, ◌∙◌, subst, arith, ℤ, pos, ◌+ℤ◌, le-leb}
use Rattle.std.specs.Prelude.{slice_get}
use Rattle.std.proofs.lemmas.Option.{slice_get_within}
use Rattle.cap_words.specs.declared.Word.{Word}
use Rattle.cap_words.specs.declared.Word.TheVariants.{Int, Mem, Seal, Sealed}
use Rattle.cap_words.specs.declared.Face.TheVariants.{Number, Memory}
use Rattle.cap_words.specs.Face.{face_of}
use Rattle.component_file.specs.declared.component.ComponentFields.{ComponentFields}
use Rattle.lcm_isa.specs.declared.Instr.{Instr}
use Rattle.lcm_isa.specs.declared.Reg.{Reg}
use Rattle.lcm_isa.specs.declared.Reg.TheVariants.{Pc, Dat}
use Rattle.lcm_isa.specs.declared.Instr.TheVariants.{Xjmp}
use Rattle.lcm_machine.specs.Table.{is_pc, target}
use Rattle.lcm_isa.specs.Numbers.{decode_of}
use Rattle.lcm_machine.specs.Plan.{Plan, Fails, Halts, Goes}
use Rattle.lcm_machine.specs.Maps.{State}
use Rattle.lcm_machine.specs.Places.{reg}
use Rattle.lcm_machine.specs.Cells.{cell}
use Rattle.lcm_machine.specs.Row.{perform, faces, cell_faces, look_face, outcome, row, fetch, some, step_of}
use Rattle.lcm_machine.specs.Row.{went}
use Rattle.lcm_machine.proofs.Offers.{Gives, Gives-effect, fetch_some, step_at}
use Rattle.call_sequence.specs.Kinds.{Row}
use Rattle.call_sequence.specs.Flow.{flow}
use Rattle.component_file.specs.Limits.{IsComponent}
use Rattle.call_sequence.specs.Verdict.{IsKept}
use Rattle.call_sequence.specs.Places.{begins_entry, begins_site}
use Rattle.call_sequence.specs.Walk.{instr_in, instr_at, RowAt}
use Rattle.call_sequence.specs.Local.{LeadsTo}
use Rattle.call_sequence.specs.Holds.{Ranges, part_stack_cap, code_at, Up, HasKinds, PcAt, SafeCells}
use Rattle.call_sequence.specs.Holds.{SameOthers}
use Rattle.call_sequence.proofs.Fitting.{row_fits}
use Rattle.call_sequence.proofs.LocalFacts.{word_flows}
use Rattle.call_sequence.proofs.Kept.{Lands, lands_on, lands_at, crosses, Kept, kept, xjmp_shows, target_in}

module _ {W : Type 0} (look : W → Word) (plain : Word → W) (look_plain : (x : Word) → look (plain x) ≡ x)
    (Safe : W → Type 0) (Has Open : ℕ → Type 0) (part : Ranges)
    (safe_int : (w : W) (z : ℤ) → look w ≡ Int z → Safe w)
    (safe_stk : (w : W) (end : ℕ) (at : ℤ) → look w ≡ Mem (part_stack_cap part end at) → Up Has part end
    → Safe w)
    (open_data : (a : ℕ) → part.data_base ≤ a → a ≤ part.data_last → Open a)
    (open_stack : (a : ℕ) → Has a → Open a)
    (c : ComponentFields) (last : part.code_base + length c.code ≡ suc part.code_last)
    (closed : (a : ℕ) → part.code_base ≤ a → a ≤ part.code_last → Open a → ⊥)
    (limits : IsComponent c) (flows_on : IsKept c) where
  -- the code is as linked
  abbrev pub Linked : State W → Type 0
  Linked s = (o : ℕ) (z : ℤ) → slice_get c.code o ≡ Some (Int z)
      → look_face look (cell s.cells (part.code_base + o)) ≡ Some (Number z)

  -- what holds of a state between two trusted instructions, but that pc stands nowhere in particular
  pub record Kept_rest (s : State W) : Type 0 where
    pub linked : Linked s
    pub safe_cells : SafeCells Safe Open s.cells

  -- pc stands at an offset with a row, and the registers fit it
  pub record StandsAt (s : State W) (o : ℕ) : Type 0 where
    pub there : Row
    pub inside : o < length c.code
    pub at_pc : PcAt look part o s.regs
    pub row : RowAt c o there
    pub fits : HasKinds look Safe Has part there s.regs

  -- where a step leads
  pub data Next (s s' : State W) : Type 0 where
    to_row : (o : ℕ) → StandsAt s' o → Next s s'
    to_fail : (o : ℕ) → c.fail_at ≡ Some o → PcAt look part o s'.regs → Next s s'
    out : (o : ℕ) (r : Row) (i : Instr) (next : Word)
        → fetch (faces look s Pc) (cell_faces look s) ≡ some i next
        → Lands look plain look_plain Safe Has Open part safe_int safe_stk open_data open_stack i o r s s'
        None None
        → Next s s'

  stands_of : (s' : State W) (o : ℕ) (r : Row) → LeadsTo c o r → PcAt look part o s'.regs
      → HasKinds look Safe Has part r s'.regs → StandsAt s' o
  stands_of s' o r l p f = record {
    there = l.there;
    inside = l.inside;
    at_pc = p;
    row = l.row;
    fits = row_fits look Safe Has part safe_int safe_stk r l.there s'.regs l.below f;
  }

  -- the word that stands in the code
  int_at : (o : ℕ) (i : Instr) → instr_at c o ≡ Some i
      → (z : ℤ) × (slice_get c.code o ≡ Some (Int z)) × (decode_of z ≡ Some i)
  unfolding instr_at
  int_at o i e = by_word (slice_get c.code o) refl e
    where
      by_word : (w : Option Word) → slice_get c.code o ≡ w → instr_in w ≡ Some i
          → (z : ℤ) × (slice_get c.code o ≡ Some (Int z)) × (decode_of z ≡ Some i)
      by_word None m e = cc
      by_word (Some (Int z)) m e = (z, m, e)
      by_word (Some (Mem x)) m e = cc
      by_word (Some (Seal x)) m e = cc
      by_word (Some (Sealed n x)) m e = cc

  code_face : (s : State W) (o : ℕ) (z : ℤ) → Linked s → slice_get c.code o ≡ Some (Int z)
      → cell_faces look s (part.code_base + o) ≡ Some (Number z)
  unfolding cell_faces
  code_face s o z l e = l o z e

  pc_face : (s : State W) (o : ℕ) → PcAt look part o s.regs → faces look s Pc ≡ Memory (code_at part o)
  unfolding faces
  pc_face s o h = ap face_of h

  pub fetched : (s : State W) (o : ℕ) (i : Instr) → o < length c.code → PcAt look part o s.regs → Linked s
      → instr_at c o ≡ Some i
      → fetch (faces look s Pc)
      (cell_faces look s)
      ≡ some i (Mem (record (code_at part o) { addr = pos (part.code_base + o) +ℤ pos 1 }))
  fetched s o i lt h l e =
      let w = int_at o i e in
      let low : part.code_base ≤ part.code_base + o = omega arith in
      let high : part.code_base + o ≤ part.code_last = omega (arith, last) in
      rw (pc_face s o h)
      (fetch_some (Memory (code_at part o)) (cell_faces look s) (code_at part o) (part.code_base + o)
      w.0 i refl refl refl
      (rw (le-leb part.code_base (part.code_base + o) low, le-leb (part.code_base + o) part.code_last high)
      refl)
      (code_face s o w.0 l w.1) w.2)

  -- what is known of the state after a plan
  after_plan : (s s' : State W) (Q : State W → Type 0) (p : Plan) → Gives (λ e. Q (perform look plain s e)) p
      → outcome look plain s p ≡ went s' → Q s'
  after_plan s s' Q (Fails x) g e = cc
  after_plan s s' Q Halts g e = cc
  after_plan s s' Q (Goes x) g e = let m : perform look plain s x ≡ s' = cc in subst Q m (Gives-effect g)

  still_linked : (s s' : State W) → SameOthers Open s.cells s'.cells → Linked s → Linked s'
  still_linked s s' same l o z e =
      let lt : o < length c.code = slice_get_within c.code o (Int z) e in
      let low : part.code_base ≤ part.code_base + o = omega arith in
      let high : part.code_base + o ≤ part.code_last = omega (arith, last) in
      ap (look_face look) (same (part.code_base + o) (closed (part.code_base + o) low high)) ∙ l o z e

  -- where it lands there is a row
  landed : (i : Instr) (next : Word) (s s' : State W)
      → fetch (faces look s Pc) (cell_faces look s) ≡ some i next
      → (o : ℕ) (r : Row) (t : Option ℕ) (a : Option Row) → ((q : Row) → a ≡ Some q → LeadsTo c (o + 1) q)
      → ((p : ℕ) → t ≡ Some p → (c.fail_at ≡ Some p) ⊎ LeadsTo c p r)
      → Lands look plain look_plain Safe Has Open part safe_int safe_stk open_data open_stack i o r s s' t a
      → Next s s'
  landed i next s s' got o r t (Some q) on jumps (lands_on p f) =
      to_row (o + 1) (stands_of s' (o + 1) q (on q refl) p f)
  landed i next s s' got o r (Some t) a on jumps (lands_at p f) = by_jump (jumps t refl)
    where
      by_jump : (c.fail_at ≡ Some t) ⊎ LeadsTo c t r → Next s s'
      by_jump (inl e) = to_fail t e p
      by_jump (inr l) = to_row t (stands_of s' t r l p f)
  landed i next s s' got o r None None on jumps
      (crosses r1 r2 code half x is s1 s2 e1 e2 same m run half_data pc dat others) =
      out o r i next got (crosses r1 r2 code half x is s1 s2 e1 e2 same m run half_data pc dat others)

  -- one step
  pub step_kept : (s s' : State W) (o : ℕ) → StandsAt s o → Kept_rest s → begins_entry c o ≡ false
      → begins_site c o ≡ false → step_of look plain s ≡ went s'
      → Next s s' × Kept_rest s' × SameOthers Open s.cells s'.cells
  unfolding row
  step_kept s s' o at rest ne ns e =
      let j = word_flows c limits flows_on o at.there ne ns at.row in
      let f = fetched s o j.instr at.inside at.at_pc rest.linked j.stands in
      let k = kept look plain look_plain Safe Has Open part safe_int safe_stk open_data open_stack j.instr o
      at.there s at.at_pc at.fits rest.safe_cells j.instr refl j.target j.after j.flow_is in
      let d = after_plan s s'
      (λ x. Kept look plain look_plain Safe Has Open part safe_int safe_stk open_data open_stack j.instr o
      at.there j.target j.after s x) _ k (sym (step_at look plain s j.instr _ f) ∙ e) in (
        landed j.instr _ s s' f o at.there j.target j.after j.leads_on j.jumps d.lands,
        record
            { linked = still_linked s s' d.others rest.linked; safe_cells = d.safe_cells },
        d.others,
      )

  -- what is fetched there, and on what it stands
  pub shows_at_xjmp : (s : State W) (o : ℕ) → StandsAt s o → Kept_rest s → begins_entry c o ≡ false
      → begins_site c o ≡ false → (r1 r2 : Reg) (next : Word)
      → fetch (faces look s Pc) (cell_faces look s) ≡ some (Xjmp r1 r2) next
      → ((d : Reg) → is_pc d ≡ false → d ≢ Dat → Safe (reg s.regs d)) × Safe (reg s.regs r1)
      × Safe (reg s.regs r2)
  shows_at_xjmp s o at rest ne ns r1 r2 next e =
      let j = word_flows c limits flows_on o at.there ne ns at.row in
      let f = fetched s o j.instr at.inside at.at_pc rest.linked j.stands in
      let same : some j.instr _ ≡ some (Xjmp r1 r2) next = sym f ∙ e in
      let i : j.instr ≡ Xjmp r1 r2 = cc in
      xjmp_shows look plain look_plain Safe Has Open part safe_int safe_stk open_data open_stack j.instr o
      at.there s at.at_pc at.fits rest.safe_cells r1 r2 j.target j.after
      (ap (λ x. flow x o at.there) (sym i) ∙ j.flow_is)

  pub goes_to_area : (s : State W) (o : ℕ) → StandsAt s o → Kept_rest s → begins_entry c o ≡ false
      → begins_site c o ≡ false → (n : Instr) (next : Word) (a : ℕ)
      → fetch (faces look s Pc) (cell_faces look s) ≡ some n next
      → target n (faces look s) ≡ Some a → ((part.data_base ≤ a) × (a ≤ part.data_last)) ⊎ Has a
  goes_to_area s o at rest ne ns n next a e m =
      let j = word_flows c limits flows_on o at.there ne ns at.row in
      let f = fetched s o j.instr at.inside at.at_pc rest.linked j.stands in
      let same : some j.instr _ ≡ some n next = sym f ∙ e in
      let i : j.instr ≡ n = cc in
      target_in look plain look_plain Safe Has Open part safe_int safe_stk open_data open_stack j.instr o
      at.there s at.at_pc at.fits rest.safe_cells n j.target j.after a
      (ap (λ x. flow x o at.there) (sym i) ∙ j.flow_is) m
