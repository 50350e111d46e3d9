-- The invariant is kept by each step that is a row of the table: of untrusted code, and of trusted code
-- outside sequences.
use Rattle.std.proofs.Common.{◌≡◌, ◌≢◌, ◌⊎◌, inl, inr, ℕ, ◌+◌, pos, ◌+ℤ◌, true, false, List, Some, None, refl}
use Rattle.std.proofs.Common.{sym, ap, ◌∙◌, subst, arith, is_some, eqb-true}
use Rattle.std.proofs.lemmas.Option.{slice_get_within}
use Rattle.lcm_machine.proofs.Offers.{is_none, fetch_normal, after_went, there_same, row_cells, row_others}
use Rattle.lcm_machine.proofs.Offers.{fetched_row, used_target, row_keeps}
use Rattle.cap_words.specs.declared.Word.{Word}
use Rattle.cap_words.specs.Face.{face_of, opened_of}
use Rattle.lcm_isa.specs.declared.Reg.{Reg}
use Rattle.lcm_isa.specs.declared.Reg.TheVariants.{Pc, Dat}
use Rattle.lcm_isa.specs.declared.Instr.{Instr}
use Rattle.lcm_isa.specs.declared.Instr.TheVariants.{Xjmp, Fail}
use Rattle.lcm_machine.specs.Maps.{State}
use Rattle.lcm_machine.specs.Places.{reg}
use Rattle.lcm_machine.specs.Cells.{cell}
use Rattle.lcm_machine.specs.Table.{is_pc, target, unsealed}
use Rattle.lcm_machine.specs.Row.{faces, cell_faces, fetch, some, row, step_of, step_fetched, Outcome, went}
use Rattle.lcm_machine.specs.Row.{halted, failed, plan_in}
use Rattle.lcm_machine.specs.Closed.{AllAre, OpensTo}
use Rattle.call_sequence.proofs.Offers.{to_row, to_fail, out as goes_out, crosses}
use Rattle.linked_starts.specs.Parts.{PartSeen}
use Rattle.overlay_machine.specs.declared.words.OWord.{OWord}
use Rattle.overlay_machine.specs.declared.words.OWord.TheVariants.{Plain, RetCode, RetData}
use Rattle.overlay_machine.specs.declared.cases.Case.TheVariants.{Other}
use Rattle.overlay_machine.specs.Words.{look, is_plain}
use Rattle.overlay_machine.specs.State.{OpenFrame, OState, Cells}
use Rattle.overlay_machine.specs.Step.{goes, case_fetched, with_frames, other_step}
use Rattle.overlay_machine.specs.Link.{Link, IsTrusted, has_cell, IsOpenAt, CodeIn}
use Rattle.overlay_machine.specs.Linked.{IsLink}
use Rattle.overlay_machine.specs.Safe.{IsSafe}
use Rattle.overlay_machine.specs.Invariant.{PcPart, at_fail, at_row, outside, FramesLie, Invariant}
use Rattle.overlay_machine.proofs.FlatLemmas.{mem_of_face}
use Rattle.overlay_machine.proofs.OtherAgrees.{plain_both}
use Rattle.overlay_machine.proofs.invariant.Targets.{target_bounds, target_reg}
use Rattle.overlay_machine.proofs.invariant.Facts.{in_code, closed, open_safe, mem_safe}
use Rattle.overlay_machine.proofs.invariant.FrameFacts.{frames_same}
use Rattle.overlay_machine.proofs.invariant.SafeClosed.{safe_closed}
use Rattle.overlay_machine.proofs.invariant.View.{View, in_part, failing, out}
use Rattle.overlay_machine.proofs.invariant.Glue.{Led, glue_step}
use Rattle.overlay_machine.proofs.invariant.Standing.{Stand}
use Rattle.overlay_machine.proofs.invariant.Crossing.{Crossed, xjmp_crossed, leads_to, crossed_pc}

pub plain_is : (w : OWord) → is_plain w ≡ true → (x : Word) × (w ≡ Plain x)
plain_is (Plain x) e = (x, refl)
plain_is (RetCode i) e = cc
plain_is (RetData k) e = cc

pub pc_false : (d : Reg) → d ≢ Pc → is_pc d ≡ false
pc_false Pc ne = absurd (ne refl)
pc_false _ ne = refl

pub gone_stays : (m m' : Cells) → ((q : ℕ) → is_some (cell m' q) ≡ is_some (cell m q)) → (q : ℕ)
    → cell m q ≡ None → cell m' q ≡ None
gone_stays m m' h q e = is_none (cell m' q) (h q ∙ ap is_some e)

pub is_xjmp : (n : Instr)
    → ((r1 : Reg) × (r2 : Reg) × (n ≡ Xjmp r1 r2)) ⊎ ((r1 r2 : Reg) → n ≡ Xjmp r1 r2 → ⊥)
is_xjmp (Xjmp r1 r2) = inl (r1, r2, refl)
is_xjmp _ = inr (λ r1 r2 e. cc)

-- a step that goes by the table
pub went_other : (fs : List OpenFrame) (n : ℕ) (r : Outcome OWord) (q : OState) → with_frames fs n r ≡ goes q
    → (s : State OWord) × (r ≡ went s) × (q ≡ record { maps = s; frames = fs; calls = n })
went_other fs n (went s) q e = (s, refl, cc)
went_other fs n halted q e = cc
went_other fs n (failed c at) q e = cc

module _ (g : Link) (linked : IsLink g) where
  -- an `xjmp` of plain safe words by which all other registers are safe
  pub cross_safe : (fs : List OpenFrame) (s s' : State OWord) (r1 r2 : Reg) → is_plain (reg s.regs r1) ≡ true
      → is_plain (reg s.regs r2) ≡ true → IsSafe g fs (reg s.regs r1) → IsSafe g fs (reg s.regs r2)
      → ((d : Reg) → d ≢ Pc → d ≢ Dat → IsSafe g fs (reg s.regs d)) → Crossed r1 r2 s s' → PcPart g fs s'.regs
  cross_safe fs s s' r1 r2 p1 p2 s1 s2 shown x =
      let a = plain_is (reg s.regs r1) p1 in
      let b = plain_is (reg s.regs r2) p2 in
      crossed_pc g linked fs s'.regs x.cap (unsealed x.half.content)
      (leads_to g linked fs a.0 b.0 x.code x.half x.cap (subst (λ w. IsSafe g fs w) a.1 s1)
      (subst (λ w. IsSafe g fs w) b.1 s2)
      (sym (ap (λ w. opened_of (look w)) a.1) ∙ x.opens_code)
      (sym (ap (λ w. opened_of (look w)) b.1) ∙ x.opens_half) x.one_seal x.memory x.runs x.no_code)
      x.pc x.dat
      (λ d np nd. elim (x.others d np nd) as (λ _. IsSafe g fs (reg s'.regs d)) [
        | inl e ↦ subst (λ w. IsSafe g fs w) (sym e) (shown d np nd)
        | inr e ↦
            subst (λ w. IsSafe g fs w) (sym e) tt
      ])

  module _ (o : OState) (t : State Word) (inv : Invariant g o t) where
    abbrev fs : List OpenFrame
    fs = o.frames

    -- what the invariant says of memory and frames
    pub record Others (s' : State OWord) : Type 0 where
      pub there : (a : ℕ) → is_some (cell s'.cells a) ≡ has_cell g fs a
      pub code : (p : PartSeen) → IsTrusted g p → CodeIn p s'.cells
      pub cells : (a : ℕ) (w : OWord) → IsOpenAt g a → cell s'.cells a ≡ Some w → IsSafe g fs w
      pub frames : FramesLie g.layout s'.cells o.calls fs

    others_of : (s' : State OWord) → ((q : ℕ) → is_some (cell s'.cells q) ≡ is_some (cell o.maps.cells q))
        → ((a : ℕ) → (IsOpenAt g a → ⊥) → cell s'.cells a ≡ cell o.maps.cells a)
        → ((a : ℕ) (w : OWord) → IsOpenAt g a → cell s'.cells a ≡ Some w → IsSafe g fs w) → Others s'
    others_of s' there same safe = record {
      there = λ a. there a ∙ inv.there a;
      code = λ p ip off w e. same (p.component.code_base + off)
          (closed g linked p ip (p.component.code_base + off) (omega arith)
          (in_code g linked p off ip (slice_get_within p.component.code off w e))) ∙ inv.code p ip off w e;
      cells = safe;
      frames = frames_same g.layout o.maps.cells s'.cells o.calls fs (gone_stays o.maps.cells s'.cells there)
          inv.frames;
    }

    -- what a step by the table leaves of the invariant
    pub record RowKept (s' : State OWord) : Type 0 where
      pub pc : PcPart g fs s'.regs
      pub others : Others s'

    -- ---- untrusted code

    module _ (safe : (r : Reg) → IsSafe g fs (reg o.maps.regs r)) where
      all : AllAre (IsSafe g fs) (IsOpenAt g) o.maps
      all = (safe, inv.cells)

      target_open : (n : Instr) (a : ℕ) → target n (faces look o.maps) ≡ Some a → IsOpenAt g a
      unfolding faces
      target_open n a e =
          let r = target_reg n (faces look o.maps) a e in
          let b = target_bounds (face_of (look (reg o.maps.regs r.0))) a r.1 in
          open_safe g linked fs b.0 a
          (mem_safe g fs (reg o.maps.regs r.0) b.0 (mem_of_face (look (reg o.maps.regs r.0)) b.0 b.1)
          (safe r.0)) b.2 b.3

      next_safe : (n : Instr) (next : Word)
          → fetch (faces look o.maps Pc) (cell_faces look o.maps) ≡ some n next → IsSafe g fs (Plain next)
      unfolding faces
      next_safe n next e =
          let k = fetch_normal (look o.maps.regs.pc) (cell_faces look o.maps) n next e in
          let h = (safe_closed g linked fs).moved o.maps.regs.pc k.0 (k.0.addr +ℤ pos 1) k.1 (safe Pc) in
          subst (λ w. IsSafe g fs (Plain w)) (sym k.3) h

      opens_none : (n : Instr) → ((r1 r2 : Reg) → n ≡ Xjmp r1 r2 → ⊥)
          → OpensTo look Plain (IsSafe g fs) o.maps n
      opens_none (Xjmp r1 r2) h = absurd (h r1 r2 refl)
      opens_none _ h = tt

      same_row : (s' : State OWord) (n : Instr) (next : Word) → row look Plain n next o.maps ≡ went s'
          → (a : ℕ) → (IsOpenAt g a → ⊥) → cell s'.cells a ≡ cell o.maps.cells a
      same_row s' n next e a never =
          row_others look Plain o.maps s' n next e a (λ q. never (target_open n a q))

      untrusted : (s' : State OWord) (n : Instr) (next : Word)
          → fetch (faces look o.maps Pc) (cell_faces look o.maps) ≡ some n next
          → row look Plain n next o.maps ≡ went s' → Other ≡ case_fetched o.maps (some n next) → RowKept s'
      untrusted s' n next f e c = elim (is_xjmp n) as (λ _. RowKept s') [
        | inl x ↦
            (let ex : row look Plain (Xjmp x.0 x.1) next o.maps ≡ went s' =
            sym (ap (λ i. row look Plain i next o.maps) x.2) ∙ e in
            let cr = xjmp_crossed o.maps s' x.0 x.1 next ex in
            let pl = plain_both o.maps x.0 x.1 next
            (sym (c ∙ ap (λ i. case_fetched o.maps (some i next)) x.2)) in
            record {
              pc = cross_safe fs o.maps s' x.0 x.1 pl.0 pl.1 (safe x.0) (safe x.1) (λ d np nd. safe d) cr;
              others = others_of s' (there_same o.maps s' (row_cells look Plain o.maps s' n next e))
                  (same_row s' n next e)
                  (λ a w op h. inv.cells a w op (sym (ap (λ y. cell y a) cr.cells) ∙ h));
            })
        | inr never ↦ (let ns = next_safe n next f in
            let k = after_went (AllAre (IsSafe g fs) (IsOpenAt g)) _ s'
            (row_keeps look Plain (IsSafe g fs) (IsOpenAt g) (safe_closed g linked fs)
            o.maps all next ns n (opens_none n never)
            (λ a u. target_open n a (used_target n (faces look o.maps) (cell_faces look o.maps) a u))) e in
            record {
              pc = outside k.0;
              others = others_of s' (there_same o.maps s' (row_cells look Plain o.maps s' n next e))
                  (same_row s' n next e) k.1;
            })
      ]

    -- ---- trusted code outside sequences

    led_pc : (p : PartSeen) (ip : IsTrusted g p) (s' : State OWord)
        → Other ≡ case_fetched o.maps (fetch (faces look o.maps Pc) (cell_faces look o.maps))
        → Led g linked fs o.maps p ip (inv.code p ip) inv.cells s' → PcPart g fs s'.regs
    led_pc p ip s' c (to_row off at) =
        at_row p off ip
        (record { there = at.there; inside = at.inside; at_pc = at.at_pc; row = at.row; fits = at.fits })
    led_pc p ip s' c (to_fail off f h) = at_fail p off ip f h
    led_pc p ip s' c
        (goes_out off r i nx got (crosses r1 r2 code half x is s1 s2 e1 e2 same mc run nc pc dat others)) =
        let pl = plain_both o.maps r1 r2 nx
        (sym (c ∙ ap (case_fetched o.maps) got ∙ ap (λ y. case_fetched o.maps (some y nx)) is)) in
        let a = plain_is (reg o.maps.regs r1) pl.0 in
        let b = plain_is (reg o.maps.regs r2) pl.1 in
        crossed_pc g linked fs s'.regs x (unsealed half.content)
        (leads_to g linked fs a.0 b.0 code half x (subst (λ w. IsSafe g fs w) a.1 s1)
        (subst (λ w. IsSafe g fs w) b.1 s2)
        (sym (ap (λ w. opened_of (look w)) a.1) ∙ e1) (sym (ap (λ w. opened_of (look w)) b.1) ∙ e2)
        (eqb-true code.seal half.seal same) mc run nc)
        pc dat (λ d np nd. others d (pc_false d np) nd)

    fails_not : (next : Word) (s' : State OWord)
        → fetch (faces look o.maps Pc) (cell_faces look o.maps) ≡ some Fail next
        → step_of look Plain o.maps ≡ went s' → ⊥
    unfolding step_of row plan_in
    fails_not next s' f e = let k : step_fetched look Plain o.maps (some Fail next) ≡ went s' =
        ap (step_fetched look Plain o.maps) (sym f) ∙ e in cc

    stepped : (s' : State OWord) → View g fs o.maps Other → step_of look Plain o.maps ≡ went s' → RowKept s'
    stepped s' (failing next p off ip lt h f) e = absurd (fails_not next s' f e)
    stepped s' (in_part p off ip ne ns at c) e =
        let k = glue_step g linked fs o.maps p ip (inv.code p ip) inv.cells s' off at ne ns e in
        let f = fetched_row look Plain o.maps s' e in
        record {
          pc = led_pc p ip s' c k.0;
          others =
              others_of s' (there_same o.maps s' (row_cells look Plain o.maps s' f.0 f.1 f.3))
              k.2 (k.1).safe_cells;
        }
    stepped s' (out safe c) e =
        let f = fetched_row look Plain o.maps s' e in
        untrusted safe s' f.0 f.1 f.2 f.3 (c ∙ ap (case_fetched o.maps) f.2)

    pub other_kept : (q : OState) → View g fs o.maps Other → other_step o ≡ goes q → Stand g q
    unfolding other_step
    other_kept q v e =
        let k = went_other fs o.calls (step_of look Plain o.maps) q e in
        let r = stepped k.0 v k.1 in
        subst (λ y. Stand g y) (sym k.2)
        (record {
          pc = r.pc;
          there = r.others.there;
          code = r.others.code;
          cells =
              r.others.cells;
          frames = r.others.frames;
          frames_fit = inv.frames_fit;
        })
