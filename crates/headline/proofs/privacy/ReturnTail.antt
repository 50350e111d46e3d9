-- An `xjmp` of a return pair, and the ten words after it, whatever they do: of the stack they touch the
-- first address of the newest frame alone, by the two instructions that read and wipe it.
use Rattle.std.proofs.Common.{◌≡◌, inl, inr, ℕ, suc, ◌+◌, ◌<◌, ◌≤◌, ℤ, true, List, ◌∷◌, Option, Some, None}
use Rattle.std.proofs.Common.{refl, sym, ap, ◌∙◌, subst, arith, eqb-true}
use Rattle.std.specs.Prelude.{◌&&◌, ◌==◌, if◌then◌else◌}
use Rattle.std.proofs.lemmas.Bool.{cases_Bool, cases_eq, and_parts}
use Rattle.cap_words.specs.declared.TheConstants.{LAST_PLACE}
use Rattle.cap_words.specs.declared.CapFields.{CapFields}
use Rattle.cap_words.specs.declared.Content.TheVariants.{Mem as MemC}
use Rattle.cap_words.specs.declared.Face.TheVariants.{Memory}
use Rattle.cap_words.specs.declared.Sealable.TheVariants.{Mem as MemIn, Seal as SealIn}
use Rattle.cap_words.specs.declared.Word.{Word}
use Rattle.cap_words.specs.declared.Word.TheVariants.{Int, Mem, Seal, Sealed}
use Rattle.cap_words.specs.Face.{face_of, opened_of, FaceInOrder}
use Rattle.cap_words.specs.Faces.{same_kind}
use Rattle.cap_words.specs.Linear.{lin_is}
use Rattle.lcm_isa.specs.declared.Reg.{Reg}
use Rattle.lcm_isa.specs.declared.Reg.TheVariants.{Pc, Stk}
use Rattle.lcm_isa.specs.declared.Instr.TheVariants.{Xjmp}
use Rattle.lcm_machine.specs.Maps.{State}
use Rattle.lcm_machine.specs.Places.{reg}
use Rattle.lcm_machine.specs.Row.{faces, cell_faces, fetch, some, went}
use Rattle.lcm_machine.specs.Runs.{run_of, code_cap}
use Rattle.lcm_machine.specs.Refusals.{HasFailed, CannotJoin}
use Rattle.lcm_machine.specs.Touched.{Touches}
use Rattle.lcm_machine.proofs.Offers.{fetch_mapped, run_one}
use Rattle.call_sequence.specs.declared.TheConstants.{CALL_WORDS, RETURN_WORDS}
use Rattle.call_sequence.specs.SequenceRuns.{stack_cap, IsOutsideRange}
use Rattle.trusted_border.specs.declared.layout.Layout.{Layout}
use Rattle.trusted_border.specs.declared.layout.SiteCode.{SiteCode}
use Rattle.trusted_border.specs.Layout.{site_code}
use Rattle.overlay_machine.specs.declared.cases.Case.TheVariants.{Back}
use Rattle.overlay_machine.specs.declared.words.OWord.{OWord}
use Rattle.overlay_machine.specs.declared.words.OWord.TheVariants.{Plain, RetCode, RetData}
use Rattle.overlay_machine.specs.Words.{look, is_ret_code}
use Rattle.overlay_machine.specs.State.{OpenFrame, OState, frame_of}
use Rattle.overlay_machine.specs.Step.{weight_by}
use Rattle.overlay_machine.specs.Flat.{flat, beside, IsFlat}
use Rattle.overlay_machine.specs.Agree.{Looks, HasSite, AtReturn}
use Rattle.overlay_machine.proofs.Offers.{beside-none, flat-mem, stack_of, same_lin_true, s1, jumps, code_is}
use Rattle.overlay_machine.proofs.Offers.{code_some, code_none, data_is, data_none, refuses, plain_second}
use Rattle.overlay_machine.proofs.Offers.{code_second, stk_plain, newest_first}
use Rattle.headline.proofs.alike.Calm.{id}
use Rattle.headline.proofs.privacy.TouchAt.{not_failed, first_step, untouched_at}
use Rattle.headline.proofs.privacy.SequencesSpare.{apart_spares, off_spares}
use Rattle.headline.proofs.privacy.OwnReturn.{IsFirstUsed, own_only}

-- an address that an instruction after an `xjmp` touches is the first of the newest frame, and the
-- instruction is the one of its site's return that loads it or that wipes it; the `xjmp` was of the pair of
-- that frame's call, and stk was the stack below the frame
pub record OwnTouch (l : Layout) (o : OState) (t v : State Word) (a word : ℕ) : Type 0 where
  pub frame : OpenFrame
  pub older : List OpenFrame
  pub frames_are : o.frames ≡ frame ∷ older
  pub site : SiteCode
  pub site_is : site_code l frame.site ≡ Some site
  pub used : IsFirstUsed site.base site.end (site.at + CALL_WORDS) frame.base a word v
  pub r1 : Reg
  pub r2 : Reg
  pub next : Word
  pub jumps : fetch (faces id t Pc) (cell_faces id t) ≡ some (Xjmp r1 r2) next
  pub code : reg t.regs r1 ≡ Sealed site.seal (MemIn (code_cap site.base site.end (site.at + CALL_WORDS)))
  pub range : reg t.regs r2 ≡ Sealed site.seal (MemIn (stack_cap frame.base frame.end frame.base))
  pub last_below : ℕ
  pub right_below : last_below + 1 ≡ frame.base
  pub stk_at : ℤ
  pub stk : reg t.regs Stk ≡ Mem (record (stack_cap l.stack.base last_below 0) { addr = stk_at })

module _ (l : Layout) (r1 r2 : Reg) (o : OState) (t : State Word) (rd : AtReturn l r1 r2 o) (m : IsFlat l o t)
    (k : Looks l o) where
  -- a RetCode of a site, and the RetData of a call of that site that is open
  pub record IsPair (i : ℕ) : Type 0 where
    pub site : SiteCode
    pub site_is : site_code l i ≡ Some site
    pub call : ℕ
    pub data_is : reg o.maps.regs r2 ≡ RetData call
    pub frame : OpenFrame
    pub frame_is : frame_of o.frames call ≡ Some frame
    pub its_site : site_code l frame.site ≡ Some site
    pub same : i ≡ frame.site

  -- a RetCode goes with no other word
  module _ (i : ℕ) (e1 : reg o.maps.regs r1 ≡ RetCode i) (u : State Word) (ran : run_of id id 1 t ≡ went u)
    where
      failed_not : HasFailed (run_of id id 1 t) → ⊥
      failed_not h = not_failed 1 0 t u h ran

      by_seal : (s : SiteCode) → site_code l i ≡ Some s → (n : ℕ) → reg o.maps.regs r2 ≡ RetData n
          → (f : OpenFrame) → frame_of o.frames n ≡ Some f → (z : Option SiteCode) → site_code l f.site ≡ z
          → IsPair i
      by_seal s es n e2 f ef None eu =
          absurd (failed_not
          (refuses l r1 r2 o t rd m k _ None (code_some l r1 r2 o t rd m k i s e1 es)
          (ap opened_of (data_is l r1 r2 o t rd m k n f None e2 ef eu)) tt))
      by_seal s es n e2 f ef (Some z) eu = elim (cases_eq s.seal z.seal) as (λ _. IsPair i) [
        | inr ne ↦
            absurd (failed_not
            (refuses l r1 r2 o t rd m k _ _ (code_some l r1 r2 o t rd m k i s e1 es)
            (ap opened_of (data_is l r1 r2 o t rd m k n f (Some z) e2 ef eu)) (inl ne)))
        | inl q ↦ (let same : i ≡ f.site = rd.one_seal i f.site s z es eu q in
            record {
              site = s;
              site_is = es;
              call = n;
              data_is = e2;
              frame = f;
              frame_is = ef;
              its_site =
                  ap (site_code l) (sym same) ∙ es;
              same = same;
            })
      ]

      by_frame : (s : SiteCode) → site_code l i ≡ Some s → (n : ℕ) → reg o.maps.regs r2 ≡ RetData n
          → (f : Option OpenFrame) → frame_of o.frames n ≡ f → IsPair i
      by_frame s es n e2 None ef =
          absurd (failed_not
          (refuses l r1 r2 o t rd m k _ None (code_some l r1 r2 o t rd m k i s e1 es)
          (data_none l r1 r2 o t rd m k n e2 ef) tt))
      by_frame s es n e2 (Some f) ef = by_seal s es n e2 f ef (site_code l f.site) refl

      by_second : (s : SiteCode) → site_code l i ≡ Some s → (y : OWord) → reg o.maps.regs r2 ≡ y → IsPair i
      by_second s es (Plain w) e2 =
          absurd (failed_not
          (plain_second l r1 r2 o t rd m k i e1 s es (code_some l r1 r2 o t rd m k i s e1 es) w e2))
      by_second s es (RetCode j) e2 =
          absurd (failed_not
          (code_second l r1 r2 o t rd m k i e1 s es (code_some l r1 r2 o t rd m k i s e1 es) j e2))
      by_second s es (RetData n) e2 = by_frame s es n e2 (frame_of o.frames n) refl

      by_site : (z : Option SiteCode) → site_code l i ≡ z → IsPair i
      by_site None es =
          absurd (failed_not
          (refuses l r1 r2 o t rd m k None _ (code_none l r1 r2 o t rd m k i e1 es) refl tt))
      by_site (Some s) es = by_second s es (reg o.maps.regs r2) refl

      pair : IsPair i
      pair = by_site (site_code l i) refl

  -- ---- the ten words

  module _ (i : ℕ) (e1 : reg o.maps.regs r1 ≡ RetCode i) (p : IsPair i) (a : ℕ) (low_a : l.stack.base ≤ a)
      (high_a : a ≤ l.stack.end) where
    abbrev pub S : SiteCode
    S = p.site

    abbrev pub F : OpenFrame
    F = p.frame

    pub code_opened : opened_of (flat l o.frames (reg o.maps.regs r1))
        ≡ Some (record { seal = S.seal; content = MemC (code_cap S.base S.end (S.at + CALL_WORDS)) })
    code_opened = code_some l r1 r2 o t rd m k i S e1 p.site_is

    pub data_flat : flat l o.frames (reg o.maps.regs r2)
        ≡ Sealed S.seal (MemIn (stack_cap F.base F.end F.base))
    data_flat = data_is l r1 r2 o t rd m k p.call F (Some S) p.data_is p.frame_is p.its_site

    code_flat : flat l o.frames (reg o.maps.regs r1)
        ≡ Sealed S.seal (MemIn (code_cap S.base S.end (S.at + CALL_WORDS)))
    unfolding flat
    code_flat = ap (flat l o.frames) e1 ∙ ap Rattle.overlay_machine.specs.Flat.flat_code p.site_is

    -- after the `xjmp`
    abbrev pub U : State Word
    U = s1 l r1 r2 o t rd m k i e1 S p.site_is code_opened p.call p.data_is F p.frame_is p.its_site
        (ap opened_of data_flat) data_flat p.same

    pub jumped : run_of id id 1 t ≡ went U
    jumped = jumps l r1 r2 o t rd m k i e1 S p.site_is code_opened p.call p.data_is F p.frame_is p.its_site
        (ap opened_of data_flat) data_flat p.same

    its : HasSite l o.maps.cells S
    its = rd.sites i S p.site_is

    pub back : Rattle.call_sequence.specs.SequenceRuns.HasReturn id U.cells S.base S.end (S.at + CALL_WORDS)
        l.stack.base
    back = code_is l r1 r2 o t rd m k i e1 S p.site_is code_opened p.call p.data_is F p.frame_is p.its_site
        (ap opened_of data_flat) data_flat p.same

    out : IsOutsideRange a S.base S.end
    out = its.apart a low_a high_a

    got : fetch (faces id t Pc) (cell_faces id t) ≡ some (Xjmp r1 r2) rd.next
    got = fetch_mapped look id (flat l o.frames) (beside l o.frames)
        o.maps t m k.0 (λ q e. beside-none l o.frames q (rd.free q e)) ∙ rd.fetched

    module _ (word : ℕ) (few : word < RETURN_WORDS) (v : State Word) (ran : run_of id id word U ≡ went v)
        (x : Touches id v a) where
      not_joint : (y : Word) → U.regs.stk ≡ y
          → CannotJoin (face_of y) (Memory (stack_cap F.base F.end F.base)) → ⊥
      not_joint y e h =
          untouched_at a RETURN_WORDS word U v
          (apart_spares a U S.base S.end (S.at + CALL_WORDS) out refl l.stack.base RETURN_WORDS back
          rd.small_base (rw e h)) ran few x

      -- from the stack's base: the call is the newest
      resumes : (c : CapFields) → U.regs.stk ≡ Mem c → same_kind c (stack_cap F.base F.end F.base) ≡ true
          → c.end + 1 ≡ F.base → c.base ≡ l.stack.base → (older : List OpenFrame) → o.frames ≡ F ∷ older
          → reg t.regs Stk ≡ Mem c → OwnTouch l o t v a word
      resumes c e kind joint low older ef stk_is =
          let s = rd.frames F older ef in
          let c_is : c ≡ record (stack_cap l.stack.base c.end 0) { addr = c.addr } =
          stack_of c F.base F.end F.base kind
          ∙ ap (λ b. record (stack_cap b c.end 0) { addr = c.addr }) low in
          let above = s.above in
          let order = s.order in
          let within = s.in_stack in
          let small = rd.small_stack in
          record {
            frame = F;
            older = older;
            frames_are = ef;
            site = S;
            site_is = p.its_site;
            used = own_only U S.base S.end (S.at + CALL_WORDS)
                l.stack.base back c.end F.base F.end c.addr s.first refl (e ∙ ap Mem c_is)
                refl joint (omega (arith, above)) order (omega (arith, within, small))
                (its.apart F.base (omega (arith, above)) (omega (arith, order, within)))
                (newest_first l o t m F older ef s) s.normal a out v x word ran few;
            r1 = r1;
            r2 = r2;
            next = rd.next;
            jumps = got;
            code = m.regs r1 ∙ code_flat;
            range = m.regs r2 ∙ data_flat;
            last_below = c.end;
            right_below = joint;
            stk_at = c.addr;
            stk = stk_is ∙ ap Mem c_is;
          }

      joint_at : (c : CapFields) → U.regs.stk ≡ Mem c
          → (same_kind c (stack_cap F.base F.end F.base) && (c.end + 1 == F.base)) ≡ true
          → OwnTouch l o t v a word
      joint_at c e h =
          let p1 = and_parts _ _ h in
          let p2 = and_parts _ _ p1.0 in
          let joint : c.end + 1 ≡ F.base = eqb-true (c.end + 1) F.base p1.1 in
          let kept =
          stk_plain l r1 r2 o t rd m k i e1 S p.site_is code_opened p.call p.data_is F p.frame_is
          p.its_site (ap opened_of data_flat) data_flat p.same c e in
          elim (cases_eq c.base l.stack.base) as (λ _. OwnTouch l o t v a word) [
            | inl same ↦
                (let n = rd.newest p.call F c p.frame_is kept same joint in
                resumes c e p1.0 joint same n.0 n.1 (m.regs Stk ∙ flat-mem l o.frames o.maps.regs.stk c kept))
            | inr ne ↦
                (let q : FaceInOrder (Memory c) = subst (λ w. FaceInOrder (face_of w)) kept rd.in_order in
                let small : c.base ≤ LAST_PLACE = (let q0 = q.0 in let q1 = q.1 in omega (arith, q0, q1)) in
                absurd (untouched_at a RETURN_WORDS word U v
                (off_spares a U S.base S.end (S.at + CALL_WORDS) out refl
                l.stack.base RETURN_WORDS c (stack_cap F.base F.end F.base) back rd.small_base
                e refl (same_lin_true (lin_is c.lin) p2.1) refl p1.0 joint small ne)
                ran few x))
          ]

      by_stack : (y : Word) → U.regs.stk ≡ y → OwnTouch l o t v a word
      by_stack (Int z) e = absurd (not_joint (Int z) e tt)
      by_stack (Seal z) e = absurd (not_joint (Seal z) e tt)
      by_stack (Sealed q (MemIn z)) e = absurd (not_joint (Sealed q (MemIn z)) e tt)
      by_stack (Sealed q (SealIn z)) e = absurd (not_joint (Sealed q (SealIn z)) e tt)
      by_stack (Mem c) e =
          elim (cases_Bool (same_kind c (stack_cap F.base F.end F.base) && (c.end + 1 == F.base)))
          as (λ _. OwnTouch l o t v a word) [
            | inr lacks ↦ absurd (not_joint (Mem c) e lacks)
            | inl holds ↦ joint_at c e holds
          ]

  -- ---- the whole step

  module _ (a : ℕ) (low_a : l.stack.base ≤ a) (high_a : a ≤ l.stack.end) (v : State Word) (x : Touches id v a)
    where
      pub tail_own : (word : ℕ) → run_of id id (suc word) t ≡ went v
          → suc word < weight_by o.maps (Back r1 r2)
          → OwnTouch l o t v a word
      tail_own word ran lt = by_word (reg o.maps.regs r1) refl
        where
          by_word : (y : OWord) → reg o.maps.regs r1 ≡ y → OwnTouch l o t v a word
          by_word (Plain w) e =
              (let n : weight_by o.maps (Back r1 r2) ≡ 1 =
              ap (λ z. if is_ret_code z then RETURN_WORDS + 1 else 1) e in absurd (omega (arith, lt, n)))
          by_word (RetData n) e =
              (let n : weight_by o.maps (Back r1 r2) ≡ 1 =
              ap (λ z. if is_ret_code z then RETURN_WORDS + 1 else 1) e in absurd (omega (arith, lt, n)))
          by_word (RetCode i) e =
              let n : weight_by o.maps (Back r1 r2) ≡ RETURN_WORDS + 1 =
              ap (λ z. if is_ret_code z then RETURN_WORDS + 1 else 1) e in
              let first = first_step word t v ran in
              let one : run_of id id 1 t ≡ went first.0 = run_one id id t ∙ first.1 in
              let p = pair i e first.0 one in
              let u = U i e p a low_a high_a in
              let same : first.0 ≡ u =
              (let q : went first.0 ≡ went u = sym one ∙ jumped i e p a low_a high_a in cc) in
              by_stack i e p a low_a high_a word (omega (arith, lt, n))
              v (subst (λ y. run_of id id word y ≡ went v) same first.2) x u.regs.stk refl
