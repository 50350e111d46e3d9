-- No plain instruction of an overlay step touches an address that is in a frame before and after it.
use Rattle.std.proofs.Common.{◌≡◌, ◌≢◌, inl, inr, ℕ, ◌+◌, ◌-◌, ◌≤◌, pos, true, List, ◌∷◌, Some, None, refl}
use Rattle.std.proofs.Common.{sym, ap, ◌∙◌, arith, is_some}
use Rattle.std.specs.Prelude.{slice_get}
use Rattle.std.specs.Option.{option_or}
use Rattle.cap_words.specs.declared.Word.{Word}
use Rattle.cap_words.specs.declared.Word.TheVariants.{Int, Mem, Sealed}
use Rattle.cap_words.specs.declared.Sealable.TheVariants.{Mem as MemIn}
use Rattle.cap_words.specs.declared.Content.TheVariants.{Mem as MemC}
use Rattle.cap_words.specs.declared.CapFields.{CapFields}
use Rattle.cap_words.specs.declared.Face.TheVariants.{Memory}
use Rattle.cap_words.specs.Face.{face_of, opened_of, FaceInOrder}
use Rattle.cap_words.specs.Faces.{target_of}
use Rattle.lcm_isa.specs.declared.Reg.{Reg}
use Rattle.lcm_isa.specs.declared.Reg.TheVariants.{Pc, Stk, C1, C2}
use Rattle.lcm_isa.specs.declared.Instr.{Instr}
use Rattle.lcm_isa.specs.declared.Instr.TheVariants.{Store, Load, Xjmp}
use Rattle.lcm_machine.specs.declared.Place.TheVariants.{R}
use Rattle.lcm_machine.specs.Maps.{State}
use Rattle.lcm_machine.specs.Places.{reg}
use Rattle.lcm_machine.specs.Cells.{cell, set_cell}
use Rattle.lcm_machine.specs.Plan.{Plan, Fails, Halts, Goes}
use Rattle.lcm_machine.specs.Table.{target}
use Rattle.lcm_machine.specs.Mapped.{mapped_or}
use Rattle.lcm_machine.specs.Row.{faces, opens, plan_in, outcome, row, perform, some, step_of, went}
use Rattle.lcm_machine.specs.Runs.{run_of, code_cap}
use Rattle.lcm_machine.specs.Touched.{Touches, Untouched}
use Rattle.lcm_machine.proofs.Offers.{fetch_commutes, quiet, lacking, lacks, untouched_then, touched_by}
use Rattle.lcm_machine.proofs.Offers.{after_each}
use Rattle.call_sequence.specs.declared.TheConstants.{CALL_WORDS, RETURN_WORDS, ENTRY_WORDS}
use Rattle.call_sequence.specs.SequenceRuns.{stack_cap, IsOutsideRange, at_xjmp}
use Rattle.call_sequence.proofs.Offers.{call_jumps, entry_runs, return_runs}
use Rattle.trusted_border.specs.declared.layout.Layout.{Layout}
use Rattle.trusted_border.specs.declared.layout.SiteCode.{SiteCode}
use Rattle.overlay_machine.specs.declared.words.OWord.{OWord}
use Rattle.overlay_machine.specs.declared.words.OWord.TheVariants.{Plain}
use Rattle.overlay_machine.specs.Words.{look}
use Rattle.overlay_machine.specs.State.{OpenFrame, OState, framed, frame_of, word_of}
use Rattle.overlay_machine.specs.Step.{own_stack}
use Rattle.overlay_machine.specs.Flat.{flat, beside, IsFlat}
use Rattle.overlay_machine.specs.Agree.{Looks, HasSite, AtSite, AtEntry, AtReturn, FrameSound, FramesFree}
use Rattle.overlay_machine.proofs.FlatLemmas.{flat-mem, mem_of_face, cell-flat, HasCall-flat, HasReturn-flat}
use Rattle.overlay_machine.proofs.FlatLemmas.{HasEntry-flat, beside-none}
use Rattle.overlay_machine.proofs.FrameWords.{word_of-within, frame_of-newest, some_of}
use Rattle.overlay_machine.proofs.OtherAgrees.{free_pc}
use Rattle.overlay_machine.proofs.CallAgrees.{dat_normal, plain_row}
use Rattle.overlay_machine.proofs.ReturnAgrees.{s1, jumps, stk_kept, code_some, data_is}
use Rattle.overlay_machine.proofs.invariant.SequencesLacking.{call_lacking, return_lacking, entry_lacking}
use Rattle.overlay_machine.proofs.OwnStack.{face_of_own, own_parts, own_is}
use Rattle.overlay_machine.proofs.invariant.ReturnKept.{Returned}

abbrev id : Word → Word
id w = w

-- a step that doesn't touch an address
pub untouched_one : (a : ℕ) (t : State Word) → (Touches id t a → ⊥) → Untouched id id a 1 t
untouched_one a t h = (h, after_each (Untouched id id a 0) (step_of id id t) (λ v e. tt))

-- the first cell of the newest frame has its first word
pub newest_first : (l : Layout) (o : OState) (t : State Word) → IsFlat l o t
    → (f : OpenFrame) (fs : List OpenFrame)
    → o.frames ≡ f ∷ fs → (s : FrameSound l o.maps.cells f) → cell t.cells f.base ≡ Some s.first
unfolding beside flat
newest_first l o t m f fs e s =
    let z : f.base - f.base ≡ 0 = omega arith in
    let first : word_of f f.base ≡ Some (Plain s.first) = word_of-within f f.base (omega arith)
    ∙ ap (slice_get f.words) z ∙ ap (λ ws. slice_get ws 0) s.words in
    let there : framed o.frames f.base ≡ Some (Plain s.first) =
    ap (λ y. framed y f.base) e ∙ ap (λ y. option_or y (framed fs f.base)) first in
    m.cells f.base ∙ ap (λ y. mapped_or (flat l o.frames) y (beside l o.frames f.base))
    (s.gone f.base (omega arith) s.order) ∙ ap (λ y. mapped_or (flat l o.frames) y None) there

-- an `xjmp` goes whatever the cells are
xjmp_same : (s u : State Word) (next : Word) (m : _) → row id id (Xjmp C1 C2) next s ≡ went u
    → (v : State Word) × (row id id (Xjmp C1 C2) next (record s { cells = m }) ≡ went v)
unfolding row plan_in faces opens
xjmp_same s u next m e = by_plan _ e
  where
    by_plan : (p : Plan) → outcome id id s p ≡ went u
        → (v : State Word) × (outcome id id (record s { cells = m }) p ≡ went v)
    by_plan (Fails c) e = cc
    by_plan Halts e = cc
    by_plan (Goes x) e = (perform id id (record s { cells = m }) x, refl)

module _ (l : Layout) (o : OState) (t : State Word) (m : IsFlat l o t) (k : Looks l o) (a : ℕ)
    (low_a : l.stack.base ≤ a) (high_a : a ≤ l.stack.end) (w : OWord) (fa : framed o.frames a ≡ Some w)
    (gone : cell o.maps.cells a ≡ None) where
  face_same : (r : Reg) → faces id t r ≡ faces look o.maps r
  unfolding faces
  face_same r = ap face_of (m.regs r) ∙ k.0 (R r) (reg o.maps.regs r) refl

  target_same : (n : Instr) → target n (faces id t) ≡ target n (faces look o.maps)
  target_same (Store r1 r2) = ap target_of (face_same r1)
  target_same (Load r1 r2) = ap target_of (face_same r2)
  target_same _ = refl

  not_none : framed o.frames a ≡ None → ⊥
  not_none e = let bad : None ≡ Some w = sym e ∙ fa in cc

  -- ---- a step that is a row

  pub other_quiet : FramesFree o → Untouched id id a 1 t
  other_quiet free = untouched_one a t (λ h. elim (touched_by id t a h) as (λ _. ⊥) [
    | inl e ↦ not_none (free.at_pc a (ap target_of (sym (face_same Pc)) ∙ e))
    | inr x ↦
        not_none (free.at_target x.0 x.1 a
        (sym (fetch_commutes look id (flat l o.frames) (beside l o.frames)
        o.maps t m k.0 (free_pc l o t m k free)) ∙ x.2) (sym (target_same x.0) ∙ x.3))
  ])

  -- ---- the sixteen words of a call

  module _ (i : ℕ) (at_site : AtSite l i o) (b : ℕ) (cursor : at_site.to ≡ pos (b + 1))
      (low : l.stack.base ≤ b) (high : b + 1 ≤ at_site.end) (u : State Word)
      (ran : run_of id id CALL_WORDS t ≡ went u) where
    abbrev site : SiteCode
    site = at_site.site

    its_site : HasSite l o.maps.cells site
    its_site = at_site.sites i site at_site.is_site

    out : IsOutsideRange a site.base site.end
    out = its_site.apart a low_a high_a

    top_differs : b + 1 ≢ a
    top_differs e = let is : is_some (cell o.maps.cells (b + 1)) ≡ true =
        at_site.owned (b + 1) (omega (arith, low)) high in let bad : is_some {T = OWord} None ≡ true =
        sym (ap is_some (ap (cell o.maps.cells) e ∙ gone)) ∙ is in cc

    abbrev less : State Word
    less = lacking a t

    -- the same instructions without the cell
    less_row : run_of id id CALL_WORDS less ≡ row id id (Xjmp C1 C2)
        (Mem (code_cap site.base site.end (site.at + CALL_WORDS)))
        (at_xjmp id less site.base site.end site.at site.seal l.stack.base at_site.end b)
    less_row =
        let e = at_site.in_stack in
        let d = at_site.small_stack in
        call_jumps id id (λ x. refl) less site.base site.end site.at site.seal l.stack.base at_site.end b _
        (call_lacking a t site.base site.end out site.at site.seal
        (HasCall-flat l o t m k site.base site.end site.at site.seal its_site.call))
        (m.regs Pc ∙ flat-mem l o.frames _ _ at_site.pc)
        (m.regs Stk
        ∙ flat-mem l o.frames _ _
        (at_site.stk ∙ ap (λ c. Mem (record (stack_cap l.stack.base at_site.end 0) { addr = c })) cursor))
        (dat_normal l i o t at_site m k) low high (omega (arith, e, d))
        (its_site.apart (b + 1) (omega (arith, low)) (omega (arith, high, e)))
        (sym ((lacks a t).others (b + 1) top_differs)
        ∙ cell-flat l o t (b + 1)
        _ m (some_of (cell o.maps.cells (b + 1)) (Plain (Int (pos 0)))
        (at_site.owned (b + 1) (omega (arith, low)) high)))

    pub call_quiet : Untouched id id a CALL_WORDS t
    call_quiet =
        let v = xjmp_same (at_xjmp id t site.base site.end site.at site.seal l.stack.base at_site.end b)
        u (Mem (code_cap site.base site.end (site.at + CALL_WORDS))) (set_cell less.cells (b + 1) t.regs.dat)
        (sym (plain_row l i o t at_site m k b cursor low high) ∙ ran) in
        quiet id id (λ x. refl) a CALL_WORDS less t v.0 (lacks a t) (less_row ∙ v.1)

  -- ---- the twenty words of an entry

  pub entry_quiet : (at : ℕ) (at_entry : AtEntry l at o) (c : CapFields) → own_stack l o.maps ≡ Some c
      → IsOutsideRange a at_entry.base at_entry.end → Untouched id id a ENTRY_WORDS t
  unfolding own_stack faces
  entry_quiet at at_entry c e out =
      let f = face_of_own l (face_of (look o.maps.regs.stk)) c e in
      let x = mem_of_face (look o.maps.regs.stk) c f.0 in
      let p = own_parts l c f.1 in
      let order : FaceInOrder (Memory c) = rw f.0 at at_entry.in_order in
      let lo = order.0 in
      let base_is = p.2 in
      quiet id id (λ x. refl) a ENTRY_WORDS (lacking a t) t _ (lacks a t)
      (entry_runs id id (λ x. refl) (lacking a t) at_entry.base at_entry.end at l.stack.base c
      (entry_lacking a t at_entry.base at_entry.end out at l.stack.base
      (HasEntry-flat l o t m k at_entry.base at_entry.end at l.stack.base at_entry.entry))
      (m.regs Pc ∙ flat-mem l o.frames _ _ at_entry.pc) (m.regs Stk ∙ flat-mem l o.frames _ c x)
      p.0 p.1 p.2 (omega (arith, lo, base_is)) order.1)

  -- ---- the `xjmp` and the ten words of a return

  module _ (r1 r2 : Reg) (rd : AtReturn l r1 r2 o) where
    pub back_first : Untouched id id a 1 t
    back_first = untouched_one a t (λ h. elim (touched_by id t a h) as (λ _. ⊥) [
      | inl e ↦ not_none (rd.free a (ap target_of (sym (face_same Pc)) ∙ e))
      | inr x ↦
          (let got = fetch_commutes look id (flat l o.frames) (beside l o.frames)
          o.maps t m k.0 (λ q e. beside-none l o.frames q (rd.free q e)) in
          let same : some (Xjmp r1 r2) rd.next ≡ some x.0 x.1 =
          sym (got ∙ rd.fetched) ∙ x.2 in let n : Xjmp r1 r2 ≡ x.0 = cc in let bad : None ≡ Some a =
          ap (λ y. target y (faces id t)) n ∙ x.3 in cc)
    ])

    module _ (q : OState) (x : Returned l r1 r2 o q) (ne : x.frame.base ≢ a) where
      abbrev F : OpenFrame
      F = x.frame

      sound : FrameSound l o.maps.cells F
      sound = rd.frames F x.older x.frames_are

      eg : frame_of o.frames F.call ≡ Some F
      eg = ap (λ y. frame_of y F.call) x.frames_are ∙ frame_of-newest F x.older

      ex : opened_of (flat l o.frames (reg o.maps.regs r1)) ≡ Some
          (record {
            seal = x.site.seal;
            content = MemC
                (code_cap x.site.base x.site.end (x.site.at + CALL_WORDS));
          })
      ex = code_some l r1 r2 o t rd m k F.site x.site x.code_is x.site_is

      flat_is : flat l o.frames (reg o.maps.regs r2)
          ≡ Sealed x.site.seal (MemIn (stack_cap F.base F.end F.base))
      flat_is = data_is l r1 r2 o t rd m k F.call F (Some x.site) x.data_is eg x.site_is

      abbrev u : State Word
      u = s1 l r1 r2 o t rd m k F.site x.code_is x.site x.site_is ex F.call x.data_is F eg x.site_is
          (ap opened_of flat_is) flat_is refl

      jumped : run_of id id 1 t ≡ went u
      jumped = jumps l r1 r2 o t rd m k F.site x.code_is x.site x.site_is ex F.call x.data_is F eg x.site_is
          (ap opened_of flat_is) flat_is refl

      its : HasSite l o.maps.cells x.site
      its = rd.sites F.site x.site x.site_is

      first_cell : cell t.cells F.base ≡ Some sound.first
      first_cell = newest_first l o t m F x.older x.frames_are sound

      pub return_quiet : Untouched id id a 11 t
      return_quiet =
          let c = x.cap in
          let f = (own_is l o.maps c x.own).1 in
          let sd = sound in
          let ab = sd.above in
          let od = sd.order in
          let top = sd.in_stack in
          let sm = rd.small_stack in
          untouched_then id id a 1 RETURN_WORDS t u back_first jumped
          (quiet id id (λ y. refl) a RETURN_WORDS (lacking a u) u _ (lacks a u)
          (return_runs id id (λ y. refl) (lacking a u) x.site.base x.site.end (x.site.at + CALL_WORDS)
          l.stack.base c.end F.base F.end c.addr sd.first
          (return_lacking a u x.site.base x.site.end (its.apart a low_a high_a) (x.site.at + CALL_WORDS)
          l.stack.base
          (HasReturn-flat l o t m k x.site.base x.site.end (x.site.at + CALL_WORDS) l.stack.base its.back))
          refl (stk_kept l r1 r2 o t rd m k F.site x.code_is x.site x.site_is ex F.call x.data_is F eg
          x.site_is (ap opened_of flat_is) flat_is refl c x.own ∙ ap Mem f) refl
          x.joins (omega (arith, ab)) od (omega (arith, top, sm))
          (its.apart F.base (omega (arith, ab)) (omega (arith, od, top)))
          (sym ((lacks a u).others F.base ne) ∙ first_cell) sd.normal))
