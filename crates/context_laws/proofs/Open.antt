-- Calls that are open in two runs, and what their words stand for.
use Rattle.std.proofs.Common.{◌≡◌, inl, inr, ℕ, ◌<◌, List, ◌∷◌, Some, refl, sym, ap, ◌∙◌, subst, arith}
use Rattle.std.proofs.Common.{eq-eqb}
use Rattle.std.specs.List.{Contains}
use Rattle.lcm_isa.specs.declared.Reg.{Reg}
use Rattle.lcm_machine.specs.Places.{reg}
use Rattle.lcm_machine.specs.declared.Place.TheVariants.{R}
use Rattle.trusted_border.specs.declared.layout.SiteCode.{SiteCode}
use Rattle.trusted_border.specs.Layout.{site_code}
use Rattle.overlay_machine.specs.declared.words.OWord.{OWord}
use Rattle.overlay_machine.specs.State.{OpenFrame, OState, frame_of}
use Rattle.overlay_machine.specs.Step.{goes, overlay_step}
use Rattle.overlay_machine.specs.Flat.{flat}
use Rattle.overlay_machine.specs.Link.{Link}
use Rattle.overlay_machine.specs.Linked.{IsLink}
use Rattle.overlay_machine.specs.Runs.{Reached}
use Rattle.overlay_machine.specs.Safe.{IsMet}
use Rattle.overlay_machine.proofs.Offers.{frame_in, stays_open}
use Rattle.source_laws.specs.Secrets.{Until, still_there, one_more}
use Rattle.lockstep.specs.Related.{SameNames, Calls, AreCalls, SameWord, ours, code_halves, data_halves}
use Rattle.lockstep.specs.Related.{ret_codes, ret_datas}
use Rattle.lockstep.specs.Lockstep.{HoldsAlong}
use Rattle.lockstep.proofs.Offers.{until_reached}
use Rattle.context_laws.proofs.Jumps.{Flat, f_ours, f_code, f_data, f_ret, f_frame}

-- the site of each frame is there
abbrev pub HasSites : Link → List OpenFrame → Type 0
HasSites k fs = (n : ℕ) (f : OpenFrame) → frame_of fs n ≡ Some f → (s : SiteCode)
    × (site_code k.layout f.site ≡ Some s)

-- ---- one run

module _ (g : Link) (linked : IsLink g) (o : OState) (holds : HoldsAlong g o) where
  pub has_sites : (i : ℕ) (q : OState) → Reached g.layout o i q → HasSites g q.frames
  has_sites i q r n f e =
      let k = (holds i q r).1.frames_fit f (frame_in q.frames n f e).0 in (k.code, k.code_is)

  pub met : (i : ℕ) (q : OState) → Reached g.layout o i q → (d : Reg) → IsMet g q.frames (reg q.maps.regs d)
  met i q r d = (holds i q r).1.met (R d) (reg q.maps.regs d) refl

  -- a call of before that is open after a step was open before it
  pub step_kept : (i : ℕ) (p q : OState) → Reached g.layout o i p → overlay_step g.layout p ≡ goes q
      → (n : ℕ) (f : OpenFrame) → n < p.calls → frame_of q.frames n ≡ Some f → frame_of p.frames n ≡ Some f
  step_kept i p q r s = let k = holds i p r in (stays_open g linked p k.0 k.1 q s).1

  pub until_kept : (p q : OState) (i : ℕ) → Reached g.layout o i p → Until g.layout p q
      → (n : ℕ) (f : OpenFrame) → n < p.calls → frame_of q.frames n ≡ Some f → frame_of p.frames n ≡ Some f
  until_kept p _ i r (still_there h) n f lt e = e
  until_kept p q i r (one_more {p = m} u s h) n f lt e =
      let k = until_reached g linked o holds p m i r u in
      let up = k.2 in
      until_kept p m i r u n f lt (step_kept k.0 m q k.1 s n f (omega (arith, lt, up)) e)

-- ---- two runs

pub newest_is : (f : OpenFrame) (fs gs : List OpenFrame) → gs ≡ f ∷ fs → frame_of gs f.call ≡ Some f
unfolding frame_of
newest_is f fs gs e = rw (e, eq-eqb f.call f.call refl) refl

module _ (g h : Link) (names : SameNames g h) where
  -- of calls that stand for each other and are open: their sites stand for each other, and their frames have
  -- one base
  abbrev pub CallsAlike : Calls → List OpenFrame → List OpenFrame → Type 0
  CallsAlike cs fs es =
      (k m : ℕ) → AreCalls cs k m → (f e : OpenFrame) → frame_of fs k ≡ Some f → frame_of es m ≡ Some e
      → Contains names.sites (f.site, e.site) × (f.base ≡ e.base)

  pub flat_same : (cs : Calls) (fs es : List OpenFrame) → CallsAlike cs fs es → HasSites g fs → HasSites h es
      → (w v : OWord) → SameWord g h names cs w v → IsMet g fs w → IsMet h es v
      → Flat g h names (flat g.layout fs w) (flat h.layout es v)
  unfolding flat
  flat_same cs fs es al hg hh _ _ (ours w o) m n = f_ours w o
  flat_same cs fs es al hg hh _ _ (code_halves x y t) m n = f_code x y t
  flat_same cs fs es al hg hh _ _ (data_halves x y t) m n = f_data x y t
  flat_same cs fs es al hg hh _ _ (ret_codes i j t) m n = rw (m.1, n.1) (f_ret i j m.0 n.0 t m.1 n.1)
  flat_same cs fs es al hg hh _ _ (ret_datas k j c) m n =
      let s = hg k m.0 m.1 in
      let u = hh j n.0 n.1 in
      let a = al k j c m.0 n.0 m.1 n.1 in
      rw (m.1, n.1, s.1, u.1) (f_frame m.0 n.0 s.0 u.0 a.0 a.1 s.1 u.1)

  -- where those that are open now were open before
  pub calls_kept : (cs : Calls) (fs es fs' es' : List OpenFrame) → CallsAlike cs fs es
      → ((k m : ℕ) → AreCalls cs k m → (f : OpenFrame) → frame_of fs' k ≡ Some f → frame_of fs k ≡ Some f)
      → ((k m : ℕ) → AreCalls cs k m → (e : OpenFrame) → frame_of es' m ≡ Some e → frame_of es m ≡ Some e)
      → CallsAlike cs fs' es'
  calls_kept cs fs es fs' es' al a b k m c f e x y = al k m c f e (a k m c f x) (b k m c e y)

  -- after a further call
  pub calls_more : (cs : Calls) (fs es gs ds : List OpenFrame) (f e : OpenFrame) → gs ≡ f ∷ fs → ds ≡ e ∷ es
      → CallsAlike cs gs ds → Contains names.sites (f.site, e.site) → f.base ≡ e.base
      → CallsAlike ((f.call, e.call) ∷ cs) gs ds
  calls_more cs fs es gs ds f e ef ee al sites base k m (inr c) x y ex ey = al k m c x y ex ey
  calls_more cs fs es gs ds f e ef ee al sites base k m (inl c) x y ex ey =
      let a : Some f ≡ Some x = sym (newest_is f fs gs ef) ∙ ap (frame_of gs) (sym c.0) ∙ ex in
      let b : Some e ≡ Some y = sym (newest_is e es ds ee) ∙ ap (frame_of ds) (sym c.1) ∙ ey in
      let p : f ≡ x = cc in
      let q : e ≡ y = cc in
      subst (λ z. Contains names.sites (z.site, y.site) × (z.base ≡ y.base)) p
      (subst (λ z. Contains names.sites (f.site, z.site) × (f.base ≡ z.base)) q (sites, base))
