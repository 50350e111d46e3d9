-- The words after an `xjmp` of a return word are fetched from the code of a site, whatever they do.
use Rattle.std.proofs.Common.{◌≡◌, inl, inr, ℕ, ◌+◌, ◌<◌, ◌≤◌, pos, true, List, ◌∷◌, refl, sym, ap, ◌∙◌}
use Rattle.std.proofs.Common.{subst, arith, eqb-true}
use Rattle.std.specs.Prelude.{◌&&◌, ◌==◌}
use Rattle.std.proofs.lemmas.Bool.{cases_Bool, cases_eq, and_parts}
use Rattle.cap_words.specs.declared.TheConstants.{LAST_PLACE}
use Rattle.cap_words.specs.declared.CapFields.{CapFields}
use Rattle.cap_words.specs.declared.Face.TheVariants.{Memory}
use Rattle.cap_words.specs.declared.Sealable.TheVariants.{Mem as MemIn, Seal as SealIn}
use Rattle.cap_words.specs.declared.Word.{Word}
use Rattle.cap_words.specs.declared.Word.TheVariants.{Int, Mem, Seal, Sealed}
use Rattle.cap_words.specs.Face.{face_of, FaceInOrder}
use Rattle.cap_words.specs.Faces.{same_kind}
use Rattle.cap_words.specs.Linear.{lin_is}
use Rattle.lcm_isa.specs.declared.Reg.{Reg}
use Rattle.lcm_isa.specs.declared.Reg.TheVariants.{Stk}
use Rattle.lcm_machine.specs.declared.Place.TheVariants.{R}
use Rattle.lcm_machine.specs.Maps.{State}
use Rattle.lcm_machine.specs.Cells.{cell}
use Rattle.lcm_machine.specs.Row.{went}
use Rattle.lcm_machine.specs.Runs.{run_of, code_cap}
use Rattle.lcm_machine.specs.Refusals.{CannotJoin}
use Rattle.lcm_machine.specs.Acts.{Fetches}
use Rattle.call_sequence.specs.declared.TheConstants.{CALL_WORDS, RETURN_WORDS}
use Rattle.call_sequence.specs.SequenceRuns.{stack_cap, HasReturn}
use Rattle.call_sequence.specs.SequenceWords.{IsInRange}
use Rattle.call_sequence.proofs.Offers.{apart_touches, off_touches, joint_return_words}
use Rattle.trusted_border.specs.declared.layout.Layout.{Layout}
use Rattle.trusted_border.specs.declared.layout.SiteCode.{SiteCode}
use Rattle.overlay_machine.specs.Words.{look}
use Rattle.overlay_machine.specs.State.{OpenFrame, OState}
use Rattle.overlay_machine.specs.Flat.{IsFlat}
use Rattle.overlay_machine.specs.Agree.{Looks, HasSite, AtReturn}
use Rattle.overlay_machine.proofs.Offers.{HasReturn-flat, mem_of_face, stack_of, same_lin_true, newest_first}
use Rattle.confinement.proofs.Jumping.{id, fetched_in}
use Rattle.confinement.proofs.Pairs.{OfPair}

module _ (l : Layout) (r1 r2 : Reg) (o : OState) (t : State Word) (rd : AtReturn l r1 r2 o)
    (m : IsFlat l o t) (k : Looks l o) (u : State Word) (p : OfPair l r1 r2 o t rd m k u) where
  abbrev S : SiteCode
  S = p.site

  abbrev F : OpenFrame
  F = p.frame

  abbrev half : CapFields
  half = stack_cap F.base F.end F.base

  its : HasSite l o.maps.cells S
  its = rd.sites F.site S p.site_is

  back : HasReturn id u.cells S.base S.end (S.at + CALL_WORDS) l.stack.base
  back = subst (λ c. HasReturn id c S.base S.end (S.at + CALL_WORDS) l.stack.base) (sym p.cells)
      (HasReturn-flat l o t m k S.base S.end (S.at + CALL_WORDS) l.stack.base its.back)

  -- stk is as before the `xjmp`
  stk_is : (c : CapFields) → u.regs.stk ≡ Mem c → look o.maps.regs.stk ≡ Mem c
  stk_is c e = elim p.stk as (λ _. look o.maps.regs.stk ≡ Mem c) [
    | inl q ↦
        mem_of_face (look o.maps.regs.stk)
        c (sym (k.0 (R Stk) o.maps.regs.stk refl) ∙ ap face_of (sym (m.regs Stk) ∙ sym q ∙ e))
    | inr q ↦ absurd (let bad : Int (pos 0) ≡ Mem c = sym q ∙ e in cc)
  ]

  module _ (word : ℕ) (few : word < RETURN_WORDS) (v : State Word)
      (ran : run_of id id word u ≡ went v) (a : ℕ) (f : Fetches id v a) where
    abbrev InSite : Type 0
    InSite = IsInRange a S.base S.end

    not_joint : (y : Word) → u.regs.stk ≡ y → CannotJoin (face_of y) (Memory half) → InSite
    not_joint y e h =
        apart_touches id id (λ z. refl) u S.base S.end (S.at + CALL_WORDS) l.stack.base back p.pc
        rd.small_base
        (subst (λ w. CannotJoin (face_of u.regs.stk) (face_of w)) (sym p.dat)
        (subst (λ w. CannotJoin (face_of w) (Memory half)) (sym e) h)) word v ran a (inl f)

    -- from the stack's base: the call is the newest
    resumes : (c : CapFields) → u.regs.stk ≡ Mem c → same_kind c half ≡ true → c.end + 1 ≡ F.base
        → c.base ≡ l.stack.base → (older : List OpenFrame) → o.frames ≡ F ∷ older → InSite
    resumes c e kind joint low older ef =
        let s = rd.frames F older ef in
        let c_is : c ≡ record (stack_cap l.stack.base c.end 0) { addr = c.addr } =
        stack_of c F.base F.end F.base kind
        ∙ ap (λ b. record (stack_cap b c.end 0) { addr = c.addr }) low in
        let above = s.above in
        let order = s.order in
        let within = s.in_stack in
        let small = rd.small_stack in
        let first = ap (λ cells. cell cells F.base) p.cells
        ∙ newest_first l o t m F older ef s in
        elim ((joint_return_words id id (λ z. refl) u S.base S.end (S.at + CALL_WORDS) l.stack.base c.end
        F.base F.end c.addr s.first back p.pc (e ∙ ap Mem c_is) p.dat joint (omega (arith, above)) order
        (omega (arith, within, small)) (its.apart F.base (omega (arith, above))
        (omega (arith, order, within)))
        first s.normal word v few ran).touches a (inl f)) as (λ _. InSite) [
          | inl y ↦ y
          | inr y ↦ fetched_in v (code_cap S.base S.end (S.at + CALL_WORDS + word)) a y.0 f
        ]

    joint_at : (c : CapFields) → u.regs.stk ≡ Mem c
        → (same_kind c half && (c.end + 1 == F.base)) ≡ true → InSite
    joint_at c e h =
        let p1 = and_parts (same_kind c half) (c.end + 1 == F.base) h in
        let joint : c.end + 1 ≡ F.base = eqb-true (c.end + 1) F.base p1.1 in
        let kept = stk_is c e in
        elim (cases_eq c.base l.stack.base) as (λ _. InSite) [
          | inl same ↦
              (let n = rd.newest p.call F c p.frame_is kept same joint in
              resumes c e p1.0 joint same n.0 n.1)
          | inr ne ↦
              (let q : FaceInOrder (Memory c) = subst (λ w. FaceInOrder (face_of w)) kept rd.in_order in
              let small : c.base ≤ LAST_PLACE = (let q0 = q.0 in let q1 = q.1 in omega (arith, q0, q1)) in
              off_touches id id (λ z. refl) u S.base S.end (S.at + CALL_WORDS) l.stack.base back p.pc
              rd.small_base c half e p.dat (same_lin_true (lin_is c.lin) (and_parts _ _ p1.0).1) refl p1.0
              joint small ne word v ran a (inl f))
        ]

    by_stack : (y : Word) → u.regs.stk ≡ y → InSite
    by_stack (Int z) e = not_joint (Int z) e tt
    by_stack (Seal z) e = not_joint (Seal z) e tt
    by_stack (Sealed q (MemIn z)) e = not_joint (Sealed q (MemIn z)) e tt
    by_stack (Sealed q (SealIn z)) e = not_joint (Sealed q (SealIn z)) e tt
    by_stack (Mem c) e =
        elim (cases_Bool (same_kind c half && (c.end + 1 == F.base))) as (λ _. InSite) [
          | inr lacks ↦ not_joint (Mem c) e lacks
          | inl holds ↦ joint_at c e holds
        ]

    pub in_site : InSite
    in_site = by_stack u.regs.stk refl
