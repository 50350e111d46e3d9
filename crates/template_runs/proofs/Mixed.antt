-- Words of which one alone is of a pair: what is told of them is that an `xjmp` fails, and so does it.
use Rattle.std.proofs.Common.{◌≡◌, ◌≢◌, inl, inr, ℕ, Option, Some, None, false, refl, sym, ap, ◌∙◌, subst}
use Rattle.std.specs.Prelude.{◌&&◌, ◌==◌, if◌then◌else◌}
use Rattle.std.proofs.lemmas.Bool.{ne_eqb, cases_Bool}
use Rattle.cap_words.specs.declared.Word.{Word}
use Rattle.cap_words.specs.declared.CapFields.{CapFields}
use Rattle.cap_words.specs.declared.Opened.{Opened}
use Rattle.cap_words.specs.declared.Content.TheVariants.{Mem as MemC}
use Rattle.cap_words.specs.Face.{opened_of}
use Rattle.lcm_isa.specs.declared.Reg.{Reg}
use Rattle.lcm_isa.specs.declared.Reg.TheVariants.{Pc, Dat, Rcode, Rdata}
use Rattle.lcm_isa.specs.declared.Instr.TheVariants.{Xjmp}
use Rattle.lcm_machine.specs.declared.Place.TheVariants.{R}
use Rattle.lcm_machine.specs.Places.{reg}
use Rattle.lcm_machine.specs.Table.{ask, need}
use Rattle.lcm_machine.specs.Refusals.{Refuses}
use Rattle.linked_starts.specs.Parts.{PartSeen}
use Rattle.trusted_border.specs.declared.layout.Layout.{Layout}
use Rattle.trusted_border.specs.declared.layout.SiteCode.{SiteCode}
use Rattle.trusted_border.specs.declared.events.Back.TheVariants.{Bad}
use Rattle.trusted_border.specs.Layout.{site_code}
use Rattle.trusted_border.specs.Reaches.{back_of, back_if, jump_plan, plan_goes}
use Rattle.overlay_machine.specs.declared.words.OWord.{OWord}
use Rattle.overlay_machine.specs.declared.words.OWord.TheVariants.{Plain, RetCode, RetData}
use Rattle.overlay_machine.specs.declared.cases.Case.TheVariants.{Other, Back as BackCase}
use Rattle.overlay_machine.specs.Words.{is_plain}
use Rattle.overlay_machine.specs.State.{OState, frame_of}
use Rattle.overlay_machine.specs.Step.{fails, step_by, return_step, return_by, overlay_step}
use Rattle.overlay_machine.specs.Flat.{flat}
use Rattle.overlay_machine.specs.Link.{Link}
use Rattle.overlay_machine.specs.Linked.{IsLink}
use Rattle.overlay_machine.specs.Safe.{IsSafe, IsMet}
use Rattle.overlay_machine.specs.Agree.{IsForeign}
use Rattle.overlay_machine.proofs.Offers.{OneSite, code_site, data_site, foreign_refuses, data_refuses}
use Rattle.overlay_machine.proofs.Offers.{opened-data, foreign}
use Rattle.template_runs.proofs.Valid.{Valid}
use Rattle.template_runs.proofs.Steps.{At, Placed}
use Rattle.template_runs.proofs.Ends.{case_is}

pub if_bad : (l : Layout) (a b : Option Opened) → back_if false l a b ≡ Bad
if_bad l None b = refl
if_bad l (Some a) None = refl
if_bad l (Some a) (Some b) = refl

bad_of : (l : Layout) (w v : Word) → plan_goes (jump_plan w v) ≡ false → back_of l w v ≡ Bad
bad_of l w v e = ap (λ b. back_if b l (opened_of w) (opened_of v)) e ∙ if_bad l (opened_of w) (opened_of v)

-- two words that are refused have a plan that fails
refused : (w v : Word) (a b : Option Opened) → opened_of w ≡ a → opened_of v ≡ b → Refuses a b
    → plan_goes (jump_plan w v) ≡ false
unfolding ask need
refused w v None b ea eb r = rw ea refl
refused w v (Some x) None ea eb r = rw (ea, eb) refl
refused w v (Some x) (Some y) ea eb (inl ne) = rw (ea, eb) (rw (ne_eqb x.seal y.seal ne) refl)
refused w v (Some x) (Some y) ea eb (inr h) =
    elim (cases_Bool (x.seal == y.seal)) as (λ _. plan_goes (jump_plan w v) ≡ false) [
      | inl t ↦ rw (ea, eb) (rw t (rw (h.1) (rw (h.2) refl)))
      | inr t ↦ rw (ea, eb) (rw t refl)
    ]

-- a foreign word after one of a site
second_refuses : (l : Layout) (w : Word) (x y : Option Opened) → OneSite l x → IsForeign l w → opened_of w ≡ y
    → Refuses x y
second_refuses l w None y o f e = tt
second_refuses l w (Some x) None o f e = tt
second_refuses l w (Some x) (Some y) (inl h) f e = cc
second_refuses l w (Some x) (Some y) (inr h) f e =
    let s : x ≡ record { seal = h.1.seal; content = MemC h.2 } = one x h.1.seal h.2 h.4 in
    inl (λ q. f y h.0 h.1 e h.3 (sym q ∙ ap (λ z. z.seal) s))
  where
    one : (x : Opened) (n : ℕ) (c : CapFields) → Some x ≡ Some (record { seal = n; content = MemC c })
        → x ≡ record { seal = n; content = MemC c }
    one x n c e = cc

module _ (g : Link) (linked : IsLink g) (p : PartSeen) (k : ℕ) (q : OState) (v : Valid g linked q)
    (at : At g linked p k q) (h : Placed g linked p k (Xjmp Rcode Rdata))
    (safe : (d : Reg) → d ≢ Pc → d ≢ Dat → IsSafe g q.frames (reg q.maps.regs d)) where
  step_is : (is_plain q.maps.regs.rcode && is_plain q.maps.regs.rdata) ≡ false
      → overlay_step g.layout q ≡ return_by g.layout q.maps.regs.rcode q.maps.regs.rdata Rdata q.frames q
  unfolding overlay_step return_step
  step_is e = ap (λ c. step_by g.layout c q)
      (case_is g linked p k q v at h ∙ ap (λ b. if b then Other else BackCase Rcode Rdata) e)

  -- two RetCodes: the second is code
  codes_bad : (i j : ℕ) (u s : SiteCode) → site_code g.layout i ≡ Some u → site_code g.layout j ≡ Some s
      → plan_goes (jump_plan (flat g.layout q.frames (RetCode i)) (flat g.layout q.frames (RetCode j)))
      ≡ false
  unfolding flat ask need
  codes_bad i j u s iu js =
      elim (cases_Bool (u.seal == s.seal)) as (λ _. plan_goes
      (jump_plan (flat g.layout q.frames (RetCode i)) (flat g.layout q.frames (RetCode j))) ≡ false) [
        | inl t ↦ rw (iu, js) (rw t refl)
        | inr t ↦ rw (iu, js) (rw t refl)
      ]

  flat_plain : (x : Word) → flat g.layout q.frames (Plain x) ≡ x
  unfolding flat
  flat_plain x = refl

  is_foreign : (r : Reg) → r ≢ Pc → r ≢ Dat → (x : Word) → reg q.maps.regs r ≡ Plain x → IsForeign g.layout x
  is_foreign r a b x e = foreign g linked q.frames x (subst (IsSafe g q.frames) e (safe r a b))

  -- both, by the words
  abbrev Both : OWord → OWord → Type 0
  Both cw dw = (back_of g.layout (flat g.layout q.frames cw) (flat g.layout q.frames dw) ≡ Bad)
      × (return_by g.layout cw dw Rdata q.frames q ≡ fails)

  both : (cw dw : OWord) → q.maps.regs.rcode ≡ cw → q.maps.regs.rdata ≡ dw
      → (is_plain cw && is_plain dw) ≡ false → ((i j : ℕ) → cw ≡ RetCode i → dw ≡ RetData j → ⊥) → Both cw dw
  both (Plain x) (Plain y) ec ed np no_pair = cc
  both (Plain x) (RetCode j) ec ed np no_pair = (
    bad_of g.layout _ _ (refused _ _ (opened_of (flat g.layout q.frames (Plain x)))
        (opened_of (flat g.layout q.frames (RetCode j))) refl refl
        (foreign_refuses g.layout x _ _ (is_foreign Rcode (λ z. cc) (λ z. cc) x ec)
        (ap opened_of (sym (flat_plain x))) (code_site g.layout q.frames j))),
    refl,
  )
  both (Plain x) (RetData j) ec ed np no_pair = (
    bad_of g.layout _ _ (refused _ _ (opened_of (flat g.layout q.frames (Plain x)))
        (opened_of (flat g.layout q.frames (RetData j))) refl refl
        (foreign_refuses g.layout x _ _ (is_foreign Rcode (λ z. cc) (λ z. cc) x ec)
        (ap opened_of (sym (flat_plain x))) (data_site g.layout q.frames j))),
    refl,
  )
  both (RetCode i) (Plain y) ec ed np no_pair = (
    bad_of g.layout _ _ (refused _ _ (opened_of (flat g.layout q.frames (RetCode i)))
        (opened_of (flat g.layout q.frames (Plain y))) refl refl
        (second_refuses g.layout y _ _ (code_site g.layout q.frames i)
        (is_foreign Rdata (λ z. cc) (λ z. cc) y ed) (ap opened_of (sym (flat_plain y))))),
    refl,
  )
  both (RetCode i) (RetCode j) ec ed np no_pair =
      let m1 : IsMet g q.frames (RetCode i) =
      subst (IsMet g q.frames) ec (v.holds.met (R Rcode) q.maps.regs.rcode refl) in
      let m2 : IsMet g q.frames (RetCode j) =
      subst (IsMet g q.frames) ed (v.holds.met (R Rdata) q.maps.regs.rdata refl) in
      (bad_of g.layout _ _ (codes_bad i j m1.0 m2.0 m1.1 m2.1), refl)
  both (RetCode i) (RetData j) ec ed np no_pair = absurd (no_pair i j refl refl)
  both (RetData i) dw ec ed np no_pair = (
    bad_of g.layout _ _ (refused _ _ (opened_of (flat g.layout q.frames (RetData i)))
        (opened_of (flat g.layout q.frames dw)) refl refl
        (data_refuses g.layout _ _ (opened-data g.layout q.frames i (frame_of q.frames i) refl))),
    refl,
  )

  pub mixed : (is_plain q.maps.regs.rcode && is_plain q.maps.regs.rdata) ≡ false
      → ((i j : ℕ) → q.maps.regs.rcode ≡ RetCode i → q.maps.regs.rdata ≡ RetData j → ⊥)
      → (back_of g.layout (flat g.layout q.frames q.maps.regs.rcode)
      (flat g.layout q.frames q.maps.regs.rdata) ≡ Bad) × (overlay_step g.layout q ≡ fails)
  mixed np no_pair =
      let b = both q.maps.regs.rcode q.maps.regs.rdata refl refl np no_pair in
      (b.0, step_is np ∙ b.1)
