-- What the plain run says of the step at the greatest matched point.
use Rattle.std.proofs.Common.{◌≡◌, ℕ, ◌+◌, ◌≤◌, ℤ, Bool, false, List, inl, inr, Option, Some, None, refl, sym}
use Rattle.std.proofs.Common.{ap, ◌∙◌, arith, subst}
use Rattle.std.proofs.lemmas.Bool.{cases_lt}
use Rattle.cap_words.specs.Face.{face_of}
use Rattle.cap_words.specs.declared.Word.{Word}
use Rattle.lcm_isa.specs.declared.Reg.TheVariants.{Pc, A0}
use Rattle.lcm_machine.specs.declared.FailCause.{FailCause}
use Rattle.lcm_machine.specs.declared.End.{End}
use Rattle.lcm_machine.specs.declared.End.TheVariants as end
use Rattle.lcm_machine.specs.declared.Step.{Step}
use Rattle.lcm_machine.specs.declared.Step.TheVariants.{Went, Halted, Failed}
use Rattle.lcm_machine.specs.Ends.{end_answer}
use Rattle.lcm_machine.specs.Maps.{State}
use Rattle.lcm_machine.specs.Places.{reg}
use Rattle.lcm_machine.specs.Row.{faces}
use Rattle.lcm_machine.specs.Run.{Run, plain, answer, answer_by}
use Rattle.lcm_machine.proofs.Offers.{plain_ended}
use Rattle.linked_starts.specs.Started.{StartSeen}
use Rattle.trusted_border.specs.declared.layout.Layout.{Layout}
use Rattle.trusted_border.specs.declared.layout.SiteCode.{SiteCode}
use Rattle.trusted_border.specs.Layout.{site_code}
use Rattle.overlay_machine.specs.declared.words.OWord.{OWord}
use Rattle.overlay_machine.specs.declared.words.OWord.TheVariants.{Plain, RetCode, RetData}
use Rattle.overlay_machine.specs.Words.{look}
use Rattle.overlay_machine.specs.State.{OpenFrame, OState, frame_of}
use Rattle.overlay_machine.specs.Step.{Ending, goes, halts, fails, overlay_step, weight_of}
use Rattle.overlay_machine.specs.Flat.{IsFlat, flat, flat_code, flat_range, flat_data}
use Rattle.overlay_machine.specs.Runs.{goes_on}
use Rattle.run_lines.specs.Layout.{layout, is_trusted}
use Rattle.run_lines.specs.Views.{flat_view}
use Rattle.run_lines.specs.Told.{StopsAt}
use Rattle.run_lines.specs.Cuts.{Matched, StopsAreCuts}
use Rattle.headline.specs.Headline.{Agrees, PlainEnds, OverlayHalts, OverlayFails}
use Rattle.template_runs.specs.Runs.{is_inside}
use Rattle.source_starts.specs.RunMeans.{runs_trusted}

-- ---- whether trusted code runs

module _ (l : Layout) (fs : List OpenFrame) where
  code_outside : (s : Option SiteCode) → is_trusted l (face_of (flat_code s)) ≡ false
  code_outside None = refl
  code_outside (Some s) = refl

  range_outside : (f : OpenFrame) (s : Option SiteCode) → is_trusted l (face_of (flat_range f s)) ≡ false
  range_outside f None = refl
  range_outside f (Some s) = refl

  data_outside : (f : Option OpenFrame) → is_trusted l (face_of (flat_data l f)) ≡ false
  data_outside None = refl
  data_outside (Some f) = range_outside f (site_code l f.site)

  flat_inside : (w : OWord) → is_trusted l (face_of (flat l fs w)) ≡ is_trusted l (face_of (look w))
  unfolding flat
  flat_inside (Plain w) = refl
  flat_inside (RetCode i) = code_outside (site_code l i)
  flat_inside (RetData k) = data_outside (frame_of fs k)

inside_flat : (l : Layout) (o : OState) (t : State Word) → IsFlat l o t
    → is_trusted l (faces (λ w. w) t Pc) ≡ is_inside l o
unfolding faces
inside_flat l o t m =
    ap (λ w. is_trusted l (face_of w)) (m.regs Pc) ∙ flat_inside l o.frames (reg o.maps.regs Pc)

-- ---- ends

end_by : (e : Option End) (s : Step) (x : End) → answer_by e ≡ s → s ≡ end_answer x → e ≡ Some x
end_by None s end.Halted a b = absurd (let z : Went ≡ Halted = a ∙ b in cc)
end_by None s (end.Failed cause at) a b = absurd (let z : Went ≡ Failed cause at = a ∙ b in cc)
end_by (Some end.Halted) s end.Halted a b = refl
end_by (Some end.Halted) s (end.Failed cause at) a b =
    absurd (let z : Halted ≡ Failed cause at = a ∙ b in cc)
end_by (Some (end.Failed c k)) s end.Halted a b = absurd (let z : Failed c k ≡ Halted = a ∙ b in cc)
end_by (Some (end.Failed c k)) s (end.Failed cause at) a b =
    let z : Failed c k ≡ Failed cause at = a ∙ b in cc

module _ (stops : StopsAreCuts) (s : StartSeen) (agree : Agrees s) (steps j : ℕ) (p : OState)
    (at : Matched s j p) (stop : StopsAt (layout s) steps j p) where
  -- where the plain run has gone on, it hasn't ended before
  not_yet : (n : ℕ) (x : End) → steps ≤ n → (plain n s.state).end ≡ None
      → (plain steps s.state).end ≡ Some x → ⊥
  not_yet n x le none e =
      let z : None ≡ Some x =
      sym none ∙ ap (λ (r : Run). r.end) (plain_ended n steps s.state x le e) ∙ e in
      cc

  -- where it ends so, and has ended, it has ended so
  ended_so : (n : ℕ) (x e : End) → PlainEnds s n e → (plain steps s.state).end ≡ Some x
      → (x ≡ e) × (plain steps s.state ≡ plain (n + 1) s.state)
  ended_so n x e b h = elim (cases_lt n steps) as (λ _. (x ≡ e)
      × (plain steps s.state ≡ plain (n + 1) s.state)) [
        | inl below ↦ (let same : plain steps s.state ≡ plain (n + 1) s.state =
            plain_ended steps (n + 1) s.state e (omega (arith, below)) b.ends in
            let ends : Some x ≡ Some e = sym h ∙ ap (λ (r : Run). r.end) same ∙ b.ends in
            let is : x ≡ e = cc in
            (is, same))
        | inr above ↦ absurd (not_yet n x above b.goes h)
      ]

  -- the overlay's step at the greatest matched point, by how the plain run has ended
  abbrev Said : End → Ending → Type 0
  Said x (goes q) = ⊥
  Said x halts = (x ≡ end.Halted) × (plain steps s.state ≡ plain (j + 1) s.state)
  Said x fails = (cause : FailCause) × (pc : ℤ) × (x ≡ end.Failed cause pc)

  said : (x : End) → (plain steps s.state).end ≡ Some x → (y : Ending) → overlay_step (layout s) p ≡ y
      → Said x y
  said x h (goes q) e = elim stop.1 as (λ _. ⊥) [
    | inl past ↦ not_yet (j + weight_of (layout s) p) x (omega (arith, past))
        (agree.matched (j + weight_of (layout s) p) q (goes_on at e)).0 h
    | inr (inl stops) ↦ (let z : goes q ≡ halts = sym e ∙ stops in cc)
    | inr (inr stops) ↦ (let z : goes q ≡ fails = sym e ∙ stops in cc)
  ]
  said x h halts e =
      let same = sym (stops s j j p at (omega arith, inr (inl e))).1 in
      let there = subst (λ q. Matched s j q × OverlayHalts s q) same (at, e) in
      ended_so j x end.Halted ((agree.halts j).1 there) h
  said x h fails e =
      let f = agree.overlay_fails j p at e in
      (f.1, f.2, (ended_so f.0 x (end.Failed f.1 f.2) f.4 h).0)

-- what the meaning's cases ask of the overlay
module _ (stops : StopsAreCuts) (s : StartSeen) (agree : Agrees s) (steps j : ℕ) (p : OState)
    (at : Matched s j p) (stop : StopsAt (layout s) steps j p) where
  pub runs_inside : (b : Bool) → runs_trusted s j ≡ b → is_inside (layout s) p ≡ b
  runs_inside b e = sym (inside_flat (layout s) p (plain j s.state).maps (agree.matched j p at).1) ∙ e

  has_ended : (x : End) → answer (plain steps s.state) ≡ end_answer x → (plain steps s.state).end ≡ Some x
  has_ended x a = end_by (plain steps s.state).end (end_answer x) x a refl

  pub halts_there : answer (plain steps s.state) ≡ Halted
      → OverlayHalts s p × (reg (plain steps s.state).maps.regs A0 ≡ (flat_view (layout s) p).reg A0)
  halts_there a = by (overlay_step (layout s) p) refl
    where
      by : (y : Ending) → overlay_step (layout s) p ≡ y
          → OverlayHalts s p × (reg (plain steps s.state).maps.regs A0 ≡ (flat_view (layout s) p).reg A0)
      by (goes q) e = absurd (said stops s agree steps j p at stop end.Halted (has_ended end.Halted a)
          (goes q) e)
      by halts e =
          let t = said stops s agree steps j p at stop end.Halted (has_ended end.Halted a) halts e in
          (e, ap (λ (r : Run). reg r.maps.regs A0) t.1 ∙ (agree.alike j p at e).1)
      by fails e =
          let t = said stops s agree steps j p at stop end.Halted (has_ended end.Halted a) fails e in
          let z : end.Halted ≡ end.Failed t.0 t.1 = t.2 in
          absurd cc

  pub fails_there : (cause : FailCause) (pc : ℤ) → answer (plain steps s.state) ≡ Failed cause pc
      → OverlayFails s p
  fails_there cause pc a = by (overlay_step (layout s) p) refl
    where
      by : (y : Ending) → overlay_step (layout s) p ≡ y → OverlayFails s p
      by (goes q) e =
          absurd (said stops s agree steps j p at stop (end.Failed cause pc)
          (has_ended (end.Failed cause pc) a)
          (goes q) e)
      by halts e =
          let t = said stops s agree steps j p at stop (end.Failed cause pc)
          (has_ended (end.Failed cause pc) a)
          halts e in
          let z : end.Failed cause pc ≡ end.Halted = t.0 in
          absurd cc
      by fails e = e
