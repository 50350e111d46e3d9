-- A call and an entry touch no address of an open frame, whether they go or fail.
use Rattle.std.proofs.Common.{◌≡◌, ℕ, ◌≤◌, true, None, sym, ap, ◌∙◌, arith, is_some}
use Rattle.cap_words.specs.declared.Word.{Word}
use Rattle.lcm_isa.specs.declared.Reg.TheVariants.{Pc, Stk}
use Rattle.lcm_machine.specs.Maps.{State}
use Rattle.lcm_machine.specs.Cells.{cell}
use Rattle.lcm_machine.specs.Touched.{Untouched}
use Rattle.call_sequence.specs.declared.TheConstants.{CALL_WORDS, ENTRY_WORDS}
use Rattle.call_sequence.specs.SequenceRuns.{stack_cap, IsOutsideRange}
use Rattle.trusted_border.specs.declared.layout.Layout.{Layout}
use Rattle.trusted_border.specs.declared.layout.SiteCode.{SiteCode}
use Rattle.overlay_machine.specs.declared.words.OWord.{OWord}
use Rattle.overlay_machine.specs.State.{OState}
use Rattle.overlay_machine.specs.Flat.{IsFlat}
use Rattle.overlay_machine.specs.Agree.{Looks, HasSite, AtSite, AtEntry}
use Rattle.overlay_machine.proofs.Offers.{flat-mem, HasCall-flat, HasEntry-flat}
use Rattle.headline.proofs.alike.Calm.{id}
use Rattle.headline.proofs.privacy.SequencesSpare.{call_spares, entry_spares}

module _ (l : Layout) (o : OState) (t : State Word) (m : IsFlat l o t) (k : Looks l o) (a : ℕ)
    (low_a : l.stack.base ≤ a) (high_a : a ≤ l.stack.end) (gone : cell o.maps.cells a ≡ None) where
  pub call_step : (i : ℕ) → AtSite l i o → Untouched id id a CALL_WORDS t
  call_step i r =
      let site : SiteCode = r.site in
      let its : HasSite l o.maps.cells site = r.sites i site r.is_site in
      let top = r.in_stack in
      call_spares a t site.base site.end site.at (its.apart a low_a high_a)
      (m.regs Pc ∙ flat-mem l o.frames _ _ r.pc) site.seal
      (record (stack_cap l.stack.base r.end 0) { addr = r.to })
      (HasCall-flat l o t m k site.base site.end site.at site.seal its.call)
      (m.regs Stk ∙ flat-mem l o.frames _ _ r.stk)
      (λ q lo hi. its.apart q lo (omega (arith, hi, top)))
      (λ q lo hi same. let bad : is_some {T = OWord} None ≡ true =
      sym (ap is_some (ap (cell o.maps.cells) same ∙ gone)) ∙ r.owned q lo hi in cc)

  pub entry_step : (at : ℕ) (r : AtEntry l at o) → IsOutsideRange a r.base r.end
      → Untouched id id a ENTRY_WORDS t
  entry_step at r out =
      entry_spares a t r.base r.end at out (m.regs Pc ∙ flat-mem l o.frames _ _ r.pc) l.stack.base
      (HasEntry-flat l o t m k r.base r.end at l.stack.base r.entry) r.small_stack
