-- A call of two plain words is one overlay step and sixteen plain ones.
use Rattle.std.proofs.Common.{◌≡◌, ℕ, ◌+◌, ◌-◌, ◌≤◌, ℤ, pos, true, false, ◌∷◌, Some, refl, ap, sym, ◌∙◌}
use Rattle.std.proofs.Common.{arith, le-leb, lt-ltb, eq-eqb}
use Rattle.cap_words.specs.declared.Word.{Word}
use Rattle.cap_words.specs.declared.Word.TheVariants.{Int, Mem}
use Rattle.cap_words.specs.Face.{face_of}
use Rattle.cap_words.specs.Faces.{face_linear}
use Rattle.cap_words.specs.Linear.{is_linear}
use Rattle.lcm_isa.specs.declared.Reg.TheVariants.{Pc, Stk, Dat, C1, C2}
use Rattle.lcm_isa.specs.declared.Instr.TheVariants.{Xjmp}
use Rattle.lcm_machine.specs.declared.Place.TheVariants.{R}
use Rattle.lcm_machine.specs.Maps.{State}
use Rattle.lcm_machine.specs.Cells.{cell, all_there}
use Rattle.lcm_machine.specs.Row.{faces, row, plan_in}
use Rattle.lcm_machine.specs.Runs.{run_of, code_cap}
use Rattle.lcm_machine.proofs.Offers.{row_mapped, is_linear-face}
use Rattle.call_sequence.specs.declared.TheConstants.{CALL_WORDS}
use Rattle.call_sequence.specs.SequenceRuns.{stack_cap, at_xjmp}
use Rattle.call_sequence.proofs.Offers.{call_jumps}
use Rattle.trusted_border.specs.declared.layout.Layout.{Layout}
use Rattle.trusted_border.specs.declared.layout.SiteCode.{SiteCode}
use Rattle.overlay_machine.specs.declared.words.OWord.{OWord}
use Rattle.overlay_machine.specs.declared.words.OWord.TheVariants.{Plain}
use Rattle.overlay_machine.specs.Words.{look, is_plain}
use Rattle.overlay_machine.specs.State.{OState}
use Rattle.overlay_machine.specs.Step.{new_frame, at_call, call_step, need, ask, with_frames, own_stack}
use Rattle.overlay_machine.specs.Flat.{flat, beside, IsFlat}
use Rattle.overlay_machine.specs.Agree.{EndsAgree, Looks, HasSite, AtSite}
use Rattle.overlay_machine.proofs.FlatLemmas.{flat-mem, flat-opened, flat-plain, cell-flat, HasCall-flat}
use Rattle.overlay_machine.proofs.FlatLemmas.{row_agrees}
use Rattle.overlay_machine.proofs.FrameWords.{all_there-from, some_of}
use Rattle.overlay_machine.proofs.CallFlat.{called_flat, called_shows, called_frames}

-- `xjmp` makes its own pc
next_free : (s : State OWord) (a b : Word) → row look Plain (Xjmp C1 C2) a s ≡ row look Plain (Xjmp C1 C2) b s
unfolding row plan_in
next_free s a b = refl

module _ (l : Layout) (i : ℕ) (o : OState) (t : State Word) (at_site : AtSite l i o) (m : IsFlat l o t)
    (k : Looks l o) where
  abbrev pub site : SiteCode
  site = at_site.site

  pub its_site : HasSite l o.maps.cells site
  its_site = at_site.sites i site at_site.is_site

  pub owns : (c : ℤ) → at_site.to ≡ c
      → own_stack l o.maps ≡ Some (record (stack_cap l.stack.base at_site.end 0) { addr = c })
  unfolding own_stack faces
  owns c e = rw (at_site.stk, eq-eqb l.stack.base l.stack.base refl, e) refl

  pub dat_normal : is_linear t.regs.dat ≡ false
  dat_normal = is_linear-face t.regs.dat ∙ ap (λ w. face_linear (face_of w)) (m.regs Dat)
      ∙ ap face_linear (k.0 (R Dat) o.maps.regs.dat refl) ∙ sym (is_linear-face (look o.maps.regs.dat))
      ∙ at_site.dat

  module _ (b : ℕ) (cursor : at_site.to ≡ pos (b + 1)) (low : l.stack.base ≤ b) (high : b + 1 ≤ at_site.end)
    where
      goes_to_xjmp : is_plain o.maps.regs.c1 ≡ true → is_plain o.maps.regs.c2 ≡ true
          → call_step l i o ≡ with_frames (new_frame i (b + 1) at_site.end o ∷ o.frames) (o.calls + 1)
          (row look Plain (Xjmp C1 C2) (Int (pos 0))
          (at_call i site (stack_cap l.stack.base at_site.end (b + 1)) o))
      unfolding call_step need ask
      goes_to_xjmp p1 p2 =
          let there : all_there o.maps.cells (b + 1) (at_site.end + 1 - (b + 1)) ≡ true =
          all_there-from o.maps.cells (b + 1) (at_site.end + 1 - (b + 1))
          (λ q h g. at_site.owned q (omega arith) (omega arith)) in
          rw (
            at_site.is_site,
            owns (pos (b + 1)) cursor,
            lt-ltb l.stack.base (b + 1)
                (omega arith),
            le-leb l.stack.base (b + 1) (omega arith),
            le-leb (b + 1)
                at_site.end high,
            there,
            le-leb at_site.end l.stack.end at_site.in_stack,
            p1,
            p2,
          ) refl

      abbrev pub t15 : State Word
      t15 = at_xjmp (λ w. w) t site.base site.end site.at site.seal l.stack.base at_site.end b

      -- sixteen plain instructions are the `xjmp` from there
      pub plain_row : run_of (λ w. w) (λ w. w) CALL_WORDS t ≡ row (λ w. w) (λ w. w) (Xjmp C1 C2)
          (Mem (code_cap site.base site.end (site.at + CALL_WORDS))) t15
      plain_row =
          let e = at_site.in_stack in
          let d = at_site.small_stack in
          call_jumps (λ w. w) (λ w. w) (λ x. refl)
          t site.base site.end site.at site.seal l.stack.base at_site.end b _
          (HasCall-flat l o t m k site.base site.end site.at site.seal its_site.call)
          (m.regs Pc ∙ flat-mem l o.frames _ _ at_site.pc)
          (m.regs Stk
          ∙ flat-mem l o.frames _ _
          (at_site.stk ∙ ap (λ c. Mem (record (stack_cap l.stack.base at_site.end 0) { addr = c })) cursor))
          dat_normal low high (omega (arith, e, d))
          (its_site.apart (b + 1) (omega arith) (omega (arith, e)))
          (cell-flat l o t (b + 1)
          _ m (some_of (cell o.maps.cells (b + 1)) (Plain (Int (pos 0)))
          (at_site.owned (b + 1) (omega arith) high)))

      pub call_agrees : is_plain o.maps.regs.c1 ≡ true → is_plain o.maps.regs.c2 ≡ true
          → EndsAgree l (call_step l i o) (run_of (λ w. w) (λ w. w) CALL_WORDS t)
      call_agrees p1 p2 =
          let fs = new_frame i (b + 1) at_site.end o ∷ o.frames in
          let s' = at_call i site (stack_cap l.stack.base at_site.end (b + 1)) o in
          let next = Mem (code_cap site.base site.end (site.at + CALL_WORDS)) in
          let mapped =
          called_flat l i o t site at_site.end b at_site.is_site at_site.owned low high m k at_site.known in
          let shows =
          called_shows l i o t site at_site.end b at_site.is_site at_site.owned low high m k at_site.known
          in
          let in_frames =
          called_frames l i o t site at_site.end b at_site.is_site at_site.owned low high m k at_site.known
          in
          let ends = row_mapped look (λ w. w) (flat l fs) (beside l fs) Plain (λ w. w) (λ x. refl) (λ x. refl)
          (flat-plain l fs) s' t15 (Xjmp C1 C2) next mapped shows
          (flat-opened l fs o.maps.regs.c1 p1, flat-opened l fs o.maps.regs.c2 p2) (λ a h. cc) in
          rw (goes_to_xjmp p1 p2, next_free s' (Int (pos 0)) next, plain_row)
          (row_agrees l fs (o.calls + 1) in_frames _ _ ends)
