-- A return that goes uses the first address of its frame while its call is open.
use Rattle.std.proofs.Common.{◌≡◌, ◌+◌, refl, ap, ◌∙◌, arith}
use Rattle.cap_words.specs.declared.Word.{Word}
use Rattle.cap_words.specs.declared.Word.TheVariants.{Mem}
use Rattle.cap_words.specs.Face.{opened_of}
use Rattle.lcm_isa.specs.declared.Reg.{Reg}
use Rattle.lcm_machine.specs.Maps.{State}
use Rattle.lcm_machine.specs.Row.{went}
use Rattle.lcm_machine.specs.Runs.{run_of}
use Rattle.lcm_machine.specs.Touched.{Touches}
use Rattle.lcm_machine.proofs.Offers.{run_then}
use Rattle.call_sequence.specs.declared.TheConstants.{CALL_WORDS}
use Rattle.call_sequence.specs.Sequences.{load_word}
use Rattle.call_sequence.specs.SequenceRuns.{stack_cap}
use Rattle.trusted_border.specs.declared.layout.Layout.{Layout}
use Rattle.overlay_machine.specs.State.{OState, frame_of}
use Rattle.overlay_machine.specs.Flat.{IsFlat}
use Rattle.overlay_machine.specs.Agree.{Looks, AtReturn}
use Rattle.overlay_machine.proofs.Offers.{Returned, own_is, frame_of-newest, stk_kept, newest_first}
use Rattle.headline.proofs.alike.Calm.{id}
use Rattle.headline.proofs.privacy.OwnReturn.{loads}
use Rattle.headline.proofs.privacy.ReturnTail.{IsPair, U, jumped, back, code_opened, data_flat}

module _ (l : Layout) (r1 r2 : Reg) (o : OState) (t : State Word) (rd : AtReturn l r1 r2 o) (m : IsFlat l o t)
    (k : Looks l o) (q : OState) (x : Returned l r1 r2 o q) where
  abbrev pair : IsPair l r1 r2 o t rd m k x.frame.site
  pair = record {
    site = x.site;
    site_is = x.site_is;
    call = x.frame.call;
    data_is = x.data_is;
    frame = x.frame;
    frame_is = ap (λ fs. frame_of fs x.frame.call) x.frames_are ∙ frame_of-newest x.frame x.older;
    its_site = x.site_is;
    same = refl;
  }

  -- the load of its return comes after the `xjmp` and so many words
  pub uses_first : (v : State Word) × (run_of id id (1 + load_word) t ≡ went v) × Touches id v x.frame.base
  uses_first =
      let s = rd.frames x.frame x.older x.frames_are in
      let above = s.above in
      let order = s.order in
      let within = s.in_stack in
      let small = rd.small_stack in
      let out = (rd.sites x.frame.site x.site x.site_is).apart x.frame.base (omega (arith, above))
      (omega (arith, order, within)) in
      let u = U l r1 r2 o t rd m k x.frame.site x.code_is pair x.frame.base (omega (arith, above))
      (omega (arith, order, within)) in
      let h = back l r1 r2 o t rd m k x.frame.site x.code_is pair x.frame.base (omega (arith, above))
      (omega (arith, order, within)) in
      let code =
      code_opened l r1 r2 o t rd m k x.frame.site x.code_is pair x.frame.base (omega (arith, above))
      (omega (arith, order, within)) in
      let flat = data_flat l r1 r2 o t rd m k x.frame.site x.code_is pair x.frame.base (omega (arith, above))
      (omega (arith, order, within)) in
      let stk : u.regs.stk ≡ Mem (record (stack_cap l.stack.base x.cap.end 0) { addr = x.cap.addr }) =
      stk_kept l r1 r2 o t rd m k x.frame.site x.code_is x.site x.site_is code x.frame.call x.data_is x.frame
      pair.frame_is x.site_is (ap opened_of flat) flat refl x.cap x.own
      ∙ ap Mem (own_is l o.maps x.cap x.own).1 in
      let first = newest_first l o t m x.frame x.older x.frames_are s in
      let used =
      loads u x.site.base x.site.end (x.site.at + CALL_WORDS)
      l.stack.base h x.cap.end x.frame.base x.frame.end x.cap.addr s.first refl stk refl x.joins
      (omega (arith, above)) order (omega (arith, within, small)) out first s.normal in (
        used.0,
        run_then id id 1 load_word t u _
            (jumped l r1 r2 o t rd m k x.frame.site x.code_is pair x.frame.base (omega (arith, above))
            (omega (arith, order, within))) used.1,
        used.2,
      )
