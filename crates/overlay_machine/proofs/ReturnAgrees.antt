-- An `xjmp` of a return word: one overlay step against as many plain ones as it weighs.
use Rattle.std.proofs.Common.{◌≡◌, ◌≢◌, inl, inr, ℕ, ◌+◌, ◌-◌, ◌≤◌, pos, true, false, List, [], ◌∷◌, Some}
use Rattle.std.proofs.Common.{None, refl, ap, sym, subst, ◌∙◌, arith, eq-eqb, eqb-true}
use Rattle.std.specs.Prelude.{Option, slice_get, ◌&&◌, ◌==◌, if◌then◌else◌}
use Rattle.std.specs.Option.{option_or}
use Rattle.std.proofs.lemmas.Bool.{cases_eq, cases_Bool, and_parts}
use Rattle.std.proofs.lemmas.Option.{same_Some}
use Rattle.cap_words.specs.declared.TheConstants.{LAST_PLACE}
use Rattle.cap_words.specs.declared.Word.{Word}
use Rattle.cap_words.specs.declared.Word.TheVariants.{Int, Mem, Seal, Sealed}
use Rattle.cap_words.specs.declared.Sealable.TheVariants.{Mem as MemIn, Seal as SealIn}
use Rattle.cap_words.specs.declared.Content.TheVariants.{Mem as MemC}
use Rattle.cap_words.specs.declared.CapFields.{CapFields}
use Rattle.cap_words.specs.declared.Opened.{Opened}
use Rattle.cap_words.specs.declared.Face.TheVariants.{Memory}
use Rattle.cap_words.specs.Face.{face_of, opened_of, FaceInOrder}
use Rattle.cap_words.specs.Faces.{same_kind}
use Rattle.cap_words.specs.Linear.{lin_is, left_of, zero_word}
use Rattle.lcm_isa.specs.declared.Reg.{Reg}
use Rattle.lcm_isa.specs.declared.Reg.TheVariants.{Pc, Stk, Dat}
use Rattle.lcm_isa.specs.declared.Instr.TheVariants.{Xjmp}
use Rattle.lcm_machine.specs.declared.Place.{Place}
use Rattle.lcm_machine.specs.declared.Place.TheVariants.{R}
use Rattle.lcm_machine.specs.Maps.{State}
use Rattle.lcm_machine.specs.Places.{reg, set_reg}
use Rattle.lcm_machine.specs.Cells.{cell, set_cell}
use Rattle.lcm_machine.specs.Row.{put, faces, row, step_fetched, step_of, went, word_at}
use Rattle.lcm_machine.specs.Runs.{run_of, code_cap}
use Rattle.lcm_machine.specs.Mapped.{mapped_or}
use Rattle.lcm_machine.specs.Refusals.{HasFailed, CannotJoin, Refuses}
use Rattle.lcm_machine.proofs.Offers.{xjmp_goes, left, run_then, fetch_mapped, cases_reg, reg-set_same}
use Rattle.lcm_machine.proofs.Offers.{reg-set_other, run_one, failed_more, then_failed, xjmp_fails}
use Rattle.lcm_machine.proofs.Offers.{xjmp_runs_fails}
use Rattle.call_sequence.specs.declared.TheConstants.{CALL_WORDS, RETURN_WORDS, SITE_WORDS}
use Rattle.call_sequence.specs.SequenceRuns.{stack_cap, HasReturn}
use Rattle.call_sequence.proofs.Offers.{return_runs, return_apart, return_off_base}
use Rattle.trusted_border.specs.declared.layout.Layout.{Layout}
use Rattle.trusted_border.specs.declared.layout.SiteCode.{SiteCode}
use Rattle.trusted_border.specs.Layout.{site_code}
use Rattle.overlay_machine.specs.declared.words.OWord.{OWord}
use Rattle.overlay_machine.specs.declared.words.OWord.TheVariants.{Plain, RetCode, RetData}
use Rattle.overlay_machine.specs.declared.cases.Case.TheVariants.{Back}
use Rattle.overlay_machine.specs.Words.{look, is_plain, is_ret_code}
use Rattle.overlay_machine.specs.State.{OpenFrame, OState, word_of, framed, frame_of}
use Rattle.overlay_machine.specs.Step.{goes, fails, weight_by, ask, need, own_stack, state_resumed, return_by}
use Rattle.overlay_machine.specs.Step.{return_step}
use Rattle.overlay_machine.specs.Flat.{flat, flat_code, flat_data, flat_range, beside, IsFlat}
use Rattle.overlay_machine.specs.Agree.{EndsAgree, Looks, HasSite, IsOther, AtReturn}
use Rattle.overlay_machine.proofs.FlatLemmas.{flat-mem, mem_of_face, HasReturn-flat, both_fail, both_go}
use Rattle.overlay_machine.proofs.FlatLemmas.{beside-none}
use Rattle.overlay_machine.proofs.FrameWords.{frame_of-newest, word_of-within}
use Rattle.overlay_machine.proofs.PairsOpened.{OneSite, code_site, data_site, data_refuses, foreign_refuses}
use Rattle.overlay_machine.proofs.PairsOpened.{opened-code, opened-data}
use Rattle.overlay_machine.proofs.OwnStack.{stack_of, same_lin_true, face_of_own, own_true, own_parts}
use Rattle.overlay_machine.proofs.OwnStack.{own_joins, own_from}
use Rattle.overlay_machine.proofs.ReturnFlat.{resumed_flat, resumed_looks}

abbrev id : Word → Word
id w = w

-- the overlay's return fails where its conditions don't all hold
return_fails : (l : Layout) (i k : ℕ) (r2 : Reg) (frames : List OpenFrame) (o : OState)
    → ((f : OpenFrame) (fs : List OpenFrame) (s : SiteCode) (c : CapFields) → frames ≡ f ∷ fs → k ≡ f.call
    → i ≡ f.site → site_code l i ≡ Some s → own_stack l o.maps ≡ Some c → c.end + 1 ≡ f.base → ⊥)
    → return_by l (RetCode i) (RetData k) r2 frames o ≡ fails
unfolding ask need
return_fails l i k r2 [] o h = refl
return_fails l i k r2 (f ∷ fs) o h =
    elim (cases_Bool ((k == f.call) && (i == f.site)))
    as (λ _. return_by l (RetCode i) (RetData k) r2 (f ∷ fs) o ≡ fails) [
      | inr lacks ↦ rw lacks refl
      | inl holds ↦
          (let p = and_parts _ _ holds in
          rw holds (by_site (site_code l i) refl (eqb-true k f.call p.0) (eqb-true i f.site p.1)))
    ]
  where
    joint : (c : CapFields) (s : SiteCode) → site_code l i ≡ Some s → own_stack l o.maps ≡ Some c → k ≡ f.call
        → i ≡ f.site
        → ask (c.end + 1 == f.base) (goes (state_resumed s c f fs (put o.maps (R r2) (zero_word Plain)) o))
        ≡ fails
    joint c s es ec ek ei =
        elim (cases_Bool (c.end + 1 == f.base))
        as (λ _. ask (c.end + 1 == f.base)
        (goes (state_resumed s c f fs (put o.maps (R r2) (zero_word Plain)) o)) ≡ fails) [
          | inr lacks ↦ rw lacks refl
          | inl holds ↦ absurd (h f fs s c refl ek ei es ec (eqb-true (c.end + 1) f.base holds))
        ]

    by_stack : (s : SiteCode) (x : Option CapFields) → site_code l i ≡ Some s → own_stack l o.maps ≡ x
        → k ≡ f.call → i ≡ f.site
        → need x (λ c. ask (c.end + 1 == f.base)
        (goes (state_resumed s c f fs (put o.maps (R r2) (zero_word Plain)) o))) ≡ fails
    by_stack s None es ec ek ei = refl
    by_stack s (Some c) es ec ek ei = joint c s es ec ek ei

    by_site : (x : Option SiteCode) → site_code l i ≡ x → k ≡ f.call → i ≡ f.site
        → need x (λ s. need (own_stack l o.maps)
        (λ c. ask (c.end + 1 == f.base)
        (goes (state_resumed s c f fs (put o.maps (R r2) (zero_word Plain)) o)))) ≡ fails
    by_site None es ek ei = refl
    by_site (Some s) es ek ei = by_stack s (own_stack l o.maps) es refl ek ei

some_frame : (f g : OpenFrame) → Some f ≡ Some g → f ≡ g
some_frame f g e = cc

module _ (l : Layout) (r1 r2 : Reg) (o : OState) (t : State Word) (at_return : AtReturn l r1 r2 o)
    (m : IsFlat l o t) (k : Looks l o) where
  abbrev x1 : OWord
  x1 = reg o.maps.regs r1

  abbrev x2 : OWord
  x2 = reg o.maps.regs r2

  abbrev fl : OWord → Word
  fl = flat l o.frames

  plain_row : run_of id id 1 t ≡ row id id (Xjmp r1 r2) at_return.next t
  unfolding step_of
  plain_row =
      let f = fetch_mapped look id fl (beside l o.frames) o.maps t m (k.0)
      (λ a e. beside-none l o.frames a (at_return.free a e)) in
      run_one id id t ∙ ap (step_fetched id id t) (f ∙ at_return.fetched)

  row_fails : HasFailed (row id id (Xjmp r1 r2) at_return.next t) → HasFailed (run_of id id 1 t)
  row_fails h = rw plain_row h

  pub refuses : (x y : Option Opened) → opened_of (fl x1) ≡ x → opened_of (fl x2) ≡ y → Refuses x y
      → HasFailed (run_of id id 1 t)
  refuses x y ex ey h =
      row_fails
      (xjmp_fails id id r1 r2 at_return.next t x y (ap opened_of (m.regs r1) ∙ ex)
      (ap opened_of (m.regs r2) ∙ ey) h)

  more : HasFailed (run_of id id 1 t) → HasFailed (run_of id id 11 t)
  more h = failed_more id id 1 RETURN_WORDS t h

  plain_opened : (r : Reg) (w : Word) → reg o.maps.regs r ≡ Plain w
      → opened_of (fl (reg o.maps.regs r)) ≡ opened_of w
  unfolding flat
  plain_opened r w e = ap (λ x. opened_of (flat l o.frames x)) e

  -- the first word is plain
  plain_first : (w : Word) → x1 ≡ Plain w → OneSite l (opened_of (fl x2)) → HasFailed (run_of id id 1 t)
  plain_first w e h =
      refuses (opened_of w) _ (plain_opened r1 w e)
      refl (foreign_refuses l w (opened_of w) _ (at_return.foreign r1 w (inl refl) e) refl h)

  -- the first word is a RetData
  data_first : (n : ℕ) → x1 ≡ RetData n → HasFailed (run_of id id 1 t)
  data_first n e =
      refuses _ _ refl refl
      (data_refuses l (opened_of (fl x1)) _ (rw e (opened-data l o.frames n (frame_of o.frames n) refl)))

  -- the first word is the RetCode of a site
  module _ (i : ℕ) (e1 : x1 ≡ RetCode i) (s : SiteCode) (es : site_code l i ≡ Some s)
      (ex : opened_of (fl x1)
      ≡ Some (record { seal = s.seal; content = MemC (code_cap s.base s.end (s.at + CALL_WORDS)) })) where
    abbrev code : CapFields
    code = code_cap s.base s.end (s.at + CALL_WORDS)

    pub plain_second : (w : Word) → x2 ≡ Plain w → HasFailed (run_of id id 1 t)
    plain_second w e = by_opened (opened_of w) refl
      where
        by_opened : (y : Option Opened) → opened_of w ≡ y → HasFailed (run_of id id 1 t)
        by_opened None ey = refuses _ None ex (plain_opened r2 w e ∙ ey) tt
        by_opened (Some y) ey =
            refuses _ (Some y) ex (plain_opened r2 w e ∙ ey)
            (inl (λ q. at_return.foreign r2 w (inr refl) e y i s ey es (sym q)))

    pub code_second : (j : ℕ) → x2 ≡ RetCode j → HasFailed (run_of id id 1 t)
    code_second j e =
        elim (opened-code l o.frames j (site_code l j) refl) as (λ _. HasFailed (run_of id id 1 t)) [
          | inl h ↦ refuses _ None ex (ap (λ x. opened_of (fl x)) e ∙ h) tt
          | inr h ↦ elim (cases_eq s.seal (h.0).seal) as (λ _. HasFailed (run_of id id 1 t)) [
            | inl same ↦
                row_fails
                (xjmp_runs_fails id id r1 r2 at_return.next t _ _ code (ap opened_of (m.regs r1) ∙ ex)
                (ap opened_of (m.regs r2) ∙ ap (λ x. opened_of (fl x)) e ∙ h.2) same refl refl refl refl)
            | inr ne ↦ refuses _ _ ex (ap (λ x. opened_of (fl x)) e ∙ h.2) (inl ne)
          ]
        ]

    -- the second is the RetData of an open call
    module _ (n : ℕ) (e2 : x2 ≡ RetData n) (g : OpenFrame) (eg : frame_of o.frames n ≡ Some g) where
      abbrev half : CapFields
      half = stack_cap g.base g.end g.base

      -- if the overlay's return goes, its frame is this one
      its_frame : (f : OpenFrame) (fs : List OpenFrame) → o.frames ≡ f ∷ fs → n ≡ f.call → f ≡ g
      its_frame f fs ef en =
          some_frame f g
          (sym (frame_of-newest f fs) ∙ ap (frame_of (f ∷ fs)) (sym en) ∙ ap (λ x. frame_of x n) (sym ef)
          ∙ eg)

      -- under another seal
      other_seal : (u : SiteCode) → site_code l g.site ≡ Some u → s.seal ≢ u.seal
          → opened_of (fl x2) ≡ Some (record { seal = u.seal; content = MemC half })
          → EndsAgree l (return_by l (RetCode i) (RetData n) r2 o.frames o) (run_of id id 11 t)
      other_seal u eu ne ey =
          both_fail l _ _ (return_fails l i n r2 o.frames o (λ f fs s' c ef en ei es' ec ej.
          let q : f ≡ g = its_frame f fs ef en in
          let w : site_code l i ≡ Some u = ap (site_code l) (ei ∙ ap (λ x. x.site) q) ∙ eu in
          ne (ap (λ x. x.seal) (same_Some s u (sym es ∙ w)))))
          (more (refuses _ _ ex ey (inl ne)))

      no_site : site_code l g.site ≡ None → opened_of (fl x2) ≡ None
          → EndsAgree l (return_by l (RetCode i) (RetData n) r2 o.frames o) (run_of id id 11 t)
      no_site eu ey =
          both_fail l _ _ (return_fails l i n r2 o.frames o (λ f fs s' c ef en ei es' ec ej.
          let q : f ≡ g = its_frame f fs ef en in
          let w : Some s ≡ None = sym es ∙ ap (site_code l) (ei ∙ ap (λ x. x.site) q) ∙ eu in
          cc))
          (more (refuses _ None ex ey tt))

      -- under this seal, `xjmp` goes to the return words
      module _ (eu : site_code l g.site ≡ Some s)
          (ey : opened_of (fl x2) ≡ Some (record { seal = s.seal; content = MemC half }))
          (flat_is : fl x2 ≡ Sealed s.seal (MemIn half)) (site_is : i ≡ g.site) where
        abbrev pub s1 : State Word
        s1 = put (put (put t (R r2) (Int (pos 0))) (R Pc) (Mem code)) (R Dat) (Mem half)

        stands : HasSite l o.maps.cells s
        stands = at_return.sites i s es

        half_is : left_of id id (reg t.regs r2) ≡ Int (pos 0)
        half_is = ap (left_of id id) (m.regs r2 ∙ flat_is)

        pub jumps : run_of id id 1 t ≡ went s1
        jumps =
            plain_row
            ∙ xjmp_goes id id r1 r2 at_return.next t (put t (R r2) (left_of id id (reg t.regs r2)))
            s.seal code (MemC half) (ap opened_of (m.regs r1) ∙ ex) (ap opened_of (m.regs r2) ∙ ey)
            refl refl refl (left id id t r2)
            ∙ ap (λ w. went (put (put (put t (R r2) w) (R Pc) (Mem code)) (R Dat) (Mem half))) half_is

        pub code_is : HasReturn id s1.cells s.base s.end (s.at + CALL_WORDS) l.stack.base
        code_is = HasReturn-flat l o t m k s.base s.end (s.at + CALL_WORDS) l.stack.base stands.back

        pub cannot_join : CannotJoin (face_of s1.regs.stk) (Memory half) → HasFailed (run_of id id 11 t)
        cannot_join h =
            then_failed id id 1 RETURN_WORDS t s1 jumps (failed_more id id 1 9 s1
            (return_apart id id s1 s.base s.end (s.at + CALL_WORDS) l.stack.base code_is refl h))

        -- stk stands as it is where it isn't the register of the data half
        pub stk_kept : (c : CapFields) → own_stack l o.maps ≡ Some c → s1.regs.stk ≡ Mem c
        unfolding own_stack faces
        stk_kept c e =
            let f = face_of_own l (face_of (look o.maps.regs.stk)) c e in
            let w : look o.maps.regs.stk ≡ Mem c = mem_of_face (look o.maps.regs.stk) c f.0 in
            elim (cases_reg Stk r2) as (λ _. s1.regs.stk ≡ Mem c) [
              | inl same ↦
                  (let q : look (RetData n) ≡ Mem c =
                  ap look (sym e2 ∙ ap (reg o.maps.regs) (sym same)) ∙ w in cc)
              | inr ne ↦ reg-set_other t.regs r2 Stk (Int (pos 0)) ne ∙ m.regs Stk
                  ∙ flat-mem l o.frames o.maps.regs.stk c w
            ]

        -- and is then the overlay's
        pub stk_plain : (c : CapFields) → s1.regs.stk ≡ Mem c → look o.maps.regs.stk ≡ Mem c
        stk_plain c e = elim (cases_reg Stk r2) as (λ _. look o.maps.regs.stk ≡ Mem c) [
          | inl same ↦
              (let q : Int (pos 0) ≡ Mem c = sym (reg-set_same t.regs Stk (Int (pos 0)))
              ∙ ap (λ r. reg (set_reg t.regs r (Int (pos 0))) Stk) same ∙ e in cc)
          | inr ne ↦
              (let q : reg t.regs Stk ≡ Mem c = sym (reg-set_other t.regs r2 Stk (Int (pos 0)) ne) ∙ e in
              mem_of_face (look o.maps.regs.stk)
              c (sym (k.0 (R Stk) o.maps.regs.stk refl) ∙ ap face_of (sym (m.regs Stk) ∙ q)))
        ]

        -- stk can't be joined: the overlay fails too
        not_joint : (x : Word) → s1.regs.stk ≡ x → CannotJoin (face_of x) (Memory half)
            → EndsAgree l (return_by l (RetCode i) (RetData n) r2 o.frames o) (run_of id id 11 t)
        not_joint x e h =
            both_fail l _ _ (return_fails l i n r2 o.frames o (λ f fs s' c ef en ei es' ec ej.
            let q : f ≡ g = its_frame f fs ef en in
            let kept : s1.regs.stk ≡ Mem c = stk_kept c ec in
            let own = own_true l o.maps c ec in
            absurd (own_joins l c g own (ej ∙ ap (λ x. x.base) q) (rw (sym e ∙ kept) at h))))
            (cannot_join (rw e h))

        -- they join, but not from the stack's base
        off : (c : CapFields) → s1.regs.stk ≡ Mem c → (same_kind c half && (c.end + 1 == g.base)) ≡ true
            → c.base ≢ l.stack.base → c.base ≤ LAST_PLACE
            → EndsAgree l (return_by l (RetCode i) (RetData n) r2 o.frames o) (run_of id id 11 t)
        off c e h ne small =
            let p = and_parts _ _ h in
            let q = and_parts _ _ p.0 in
            both_fail l _ _ (return_fails l i n r2 o.frames o (λ f fs s' d ef en ei es' ed ej.
            let kept : Mem c ≡ Mem d = sym e ∙ stk_kept d ed in
            let same : c ≡ d = cc in
            ne (ap (λ x. x.base) same ∙ (own_parts l d (own_true l o.maps d ed)).2)))
            (then_failed id id 1 RETURN_WORDS t s1 jumps
            (failed_more id id 7 3 s1
            (rw (return_off_base id id (λ x. refl) s1 s.base s.end (s.at + CALL_WORDS) l.stack.base c half
            code_is
            refl e refl (same_lin_true (lin_is c.lin) q.1) refl p.0 (eqb-true (c.end + 1) g.base p.1)
            small at_return.small_base ne) tt)))

        overlay_goes : (c : CapFields) (fs : List OpenFrame) → n ≡ g.call → c.end + 1 ≡ g.base
            → own_stack l o.maps ≡ Some c
            → return_by l (RetCode i) (RetData n) r2 (g ∷ fs)
            (record o { frames = g ∷ fs })
            ≡ goes (state_resumed s c g fs (put o.maps (R r2) (zero_word Plain))
            (record o { frames = g ∷ fs }))
        unfolding ask need
        overlay_goes c fs en joint own =
            rw (eq-eqb n g.call en, eq-eqb i g.site site_is, es, own, eq-eqb (c.end + 1) g.base joint) refl

        beside_first : (fs : List OpenFrame) (w : Word) (ws : List OWord) → g.words ≡ Plain w ∷ ws
            → beside l (g ∷ fs) g.base ≡ Some w
        unfolding beside flat
        beside_first fs w ws e =
            let z : g.base - g.base ≡ 0 = omega arith in
            let there : word_of g g.base ≡ Some (Plain w) = word_of-within g g.base (omega arith)
            ∙ ap (λ x. slice_get x (g.base - g.base)) e ∙ ap (slice_get (Plain w ∷ ws)) z in
            ap (λ x. mapped_or (flat l (g ∷ fs)) (option_or x (framed fs g.base)) None) there

        finish : (c : CapFields) → s1.regs.stk ≡ Mem c → same_kind c half ≡ true → c.end + 1 ≡ g.base
            → c.base ≡ l.stack.base → (fs : List OpenFrame) → o.frames ≡ g ∷ fs → n ≡ g.call
            → own_stack l o.maps ≡ Some c
            → EndsAgree l (return_by l (RetCode i) (RetData n) r2 o.frames o) (run_of id id 11 t)
        finish c e kind joint low fs ef en own =
            let sound = at_return.frames g fs ef in
            let c_is : c ≡ record (stack_cap l.stack.base c.end 0) { addr = c.addr } =
            stack_of c g.base g.end g.base kind
            ∙ ap (λ b. record (stack_cap b c.end 0) { addr = c.addr }) low in
            let o1 : OState = record o { frames = g ∷ fs } in
            let m1 : IsFlat l o1 t = subst (λ x. IsFlat l (record o { frames = x }) t) ef m in
            let k1 : Looks l o1 = subst (λ x. Looks l (record o { frames = x })) ef k in
            let first_is : cell t.cells g.base ≡ Some sound.first =
            m1.cells g.base
            ∙ ap (λ x. mapped_or (flat l (g ∷ fs)) x (beside l (g ∷ fs) g.base))
            (sound.gone g.base (omega arith) sound.order)
            ∙ beside_first fs sound.first sound.rest sound.words in
            let twenty : s.at + CALL_WORDS + RETURN_WORDS ≡ s.at + SITE_WORDS = omega arith in
            let above = sound.above in
            let order = sound.order in
            let within = sound.in_stack in
            let small = at_return.small_stack in
            let ran =
            return_runs id id (λ x. refl) s1 s.base s.end (s.at + CALL_WORDS)
            l.stack.base c.end g.base g.end c.addr sound.first code_is
            refl (e ∙ ap Mem c_is) refl joint (omega (arith, above)) order (omega (arith, within, small))
            (stands.apart g.base (omega (arith, above)) (omega (arith, order, within)))
            first_is sound.normal in
            let other : (p : Place) (w : OWord) → word_at o.maps p ≡ Some w → p ≢ R r2 → IsOther g.call w =
            λ p w q ne. subst (λ x. IsOther x w) en (at_return.one_place n p w e2 q ne) in
            let framed_other : (a : ℕ) (w : OWord) → framed (g ∷ fs) a ≡ Some w → IsOther g.call w =
            λ a w q. subst (λ x. IsOther x w)
            en (at_return.in_frames n a w e2 (ap (λ x. framed x a) ef ∙ q)) in
            let apart : (a : ℕ) (w : OWord) → framed fs a ≡ Some w → word_of g a ≡ None =
            λ a w q. at_return.apart g fs a w ef q in
            subst (λ x. EndsAgree l (return_by l (RetCode i) (RetData n) r2 x (record o { frames = x }))
            (run_of id id 11 t)) (sym ef)
            (both_go l _ _ _ _
            (overlay_goes c fs en joint own
            ∙ ap (λ x. goes (state_resumed s x g fs (put o.maps (R r2) (zero_word Plain)) o1)) c_is)
            (run_then id id 1 RETURN_WORDS t s1 _ jumps ran ∙ ap (λ a. went (record t {
              regs = record (set_reg t.regs r2 (Int (pos 0))) {
                pc = Mem (code_cap s.base s.end a);
                stk = Mem (stack_cap l.stack.base g.end g.base);
                dat =
                    sound.first;
                t1 = Int (pos 0);
                t2 = Int (pos 0);
              };
              cells = set_cell t.cells g.base (Int (pos 0));
            })) twenty)
            (resumed_flat l o.maps g fs o.calls t r2 s c sound m1 k1 other framed_other apart)
            (resumed_looks l o.maps g fs o.calls t r2 s c sound m1 k1 other framed_other apart))

        -- they join from the stack's base: the call is the newest, and the overlay resumes it
        resumes : (c : CapFields) → s1.regs.stk ≡ Mem c → (same_kind c half && (c.end + 1 == g.base)) ≡ true
            → c.base ≡ l.stack.base
            → EndsAgree l (return_by l (RetCode i) (RetData n) r2 o.frames o) (run_of id id 11 t)
        resumes c e h low =
            let p = and_parts _ _ h in
            let q = and_parts _ _ p.0 in
            let joint : c.end + 1 ≡ g.base = eqb-true (c.end + 1) g.base p.1 in
            let kept = stk_plain c e in
            let newest = at_return.newest n g c eg kept low joint in
            let own = own_from l o.maps c kept (same_lin_true (lin_is c.lin) q.1) q.0 low in
            finish c e p.0 joint low newest.0 newest.1 newest.2 own

        -- whatever stk is
        by_stack : (x : Word) → s1.regs.stk ≡ x
            → EndsAgree l (return_by l (RetCode i) (RetData n) r2 o.frames o) (run_of id id 11 t)
        by_stack (Int z) e = not_joint (Int z) e tt
        by_stack (Seal z) e = not_joint (Seal z) e tt
        by_stack (Sealed q (MemIn z)) e = not_joint (Sealed q (MemIn z)) e tt
        by_stack (Sealed q (SealIn z)) e = not_joint (Sealed q (SealIn z)) e tt
        by_stack (Mem c) e =
            elim (cases_Bool (same_kind c half && (c.end + 1 == g.base)))
            as (λ _. EndsAgree l (return_by l (RetCode i) (RetData n) r2 o.frames o) (run_of id id 11 t)) [
              | inr lacks ↦ not_joint (Mem c) e lacks
              | inl holds ↦
                  elim (cases_eq c.base l.stack.base)
                  as (λ _. EndsAgree l (return_by l (RetCode i) (RetData n) r2 o.frames o)
                  (run_of id id 11 t)) [
                    | inl same ↦ resumes c e holds same
                    | inr ne ↦
                        (let q : FaceInOrder (Memory c) =
                        subst (λ w. FaceInOrder (face_of w)) (stk_plain c e) at_return.in_order in
                        off c e holds ne (omega (arith, q.0, q.1)))
                  ]
            ]

        its : EndsAgree l (return_by l (RetCode i) (RetData n) r2 o.frames o) (run_of id id 11 t)
        its = by_stack s1.regs.stk refl

  abbrev Both : Type 0
  Both = EndsAgree l (return_by l x1 x2 r2 o.frames o) (run_of id id (if is_ret_code x1 then 11 else 1) t)

  pub code_none : (i : ℕ) → x1 ≡ RetCode i → site_code l i ≡ None → opened_of (fl x1) ≡ None
  unfolding flat
  code_none i e q = ap (λ x. opened_of (fl x)) e ∙ ap (λ x. opened_of (flat_code x)) q

  pub code_some : (i : ℕ) (s : SiteCode) → x1 ≡ RetCode i → site_code l i ≡ Some s
      → opened_of (fl x1)
      ≡ Some (record { seal = s.seal; content = MemC (code_cap s.base s.end (s.at + CALL_WORDS)) })
  unfolding flat
  code_some i s e q = ap (λ x. opened_of (fl x)) e ∙ ap (λ x. opened_of (flat_code x)) q

  pub data_none : (n : ℕ) → x2 ≡ RetData n → frame_of o.frames n ≡ None → opened_of (fl x2) ≡ None
  unfolding flat
  data_none n e q = ap (λ x. opened_of (fl x)) e ∙ ap (λ x. opened_of (flat_data l x)) q

  pub data_is : (n : ℕ) (g : OpenFrame) (z : Option SiteCode) → x2 ≡ RetData n → frame_of o.frames n ≡ Some g
      → site_code l g.site ≡ z → fl x2 ≡ flat_range g z
  unfolding flat
  data_is n g z e q w = ap fl e ∙ ap (flat_data l) q ∙ ap (flat_range g) w

  as_code : (i : ℕ) → x1 ≡ RetCode i → EndsAgree l (return_by l (RetCode i) x2 r2 o.frames o)
      (run_of id id 11 t)
      → Both
  as_code i e h = rw e h

  -- the first word is a RetCode
  code_first : (i : ℕ) (x : Option SiteCode) → x1 ≡ RetCode i → site_code l i ≡ x → (y : OWord) → x2 ≡ y
      → EndsAgree l (return_by l (RetCode i) x2 r2 o.frames o) (run_of id id 11 t)
  code_first i None e es (Plain w) e2 =
      rw e2 (both_fail l _ _ refl (more (refuses None _ (code_none i e es) refl tt)))
  code_first i None e es (RetCode j) e2 =
      rw e2 (both_fail l _ _ refl (more (refuses None _ (code_none i e es) refl tt)))
  code_first i None e es (RetData n) e2 =
      rw e2 (both_fail l _ _
      (return_fails l i n r2 o.frames o
      (λ f fs s c ef en ei es' ec ej. let w : None ≡ Some s = sym es ∙ es' in cc))
      (more (refuses None _ (code_none i e es) refl tt)))
  code_first i (Some s) e es (Plain w) e2 =
      rw e2 (both_fail l _ _ refl (more (plain_second i e s es (code_some i s e es) w e2)))
  code_first i (Some s) e es (RetCode j) e2 =
      rw e2 (both_fail l _ _ refl (more (code_second i e s es (code_some i s e es) j e2)))
  code_first i (Some s) e es (RetData n) e2 = rw e2 (by_frame (frame_of o.frames n) refl)
    where
      by_seal : (g : OpenFrame) (z : Option SiteCode) → frame_of o.frames n ≡ Some g → site_code l g.site ≡ z
          → EndsAgree l (return_by l (RetCode i) (RetData n) r2 o.frames o) (run_of id id 11 t)
      by_seal g None eg eu =
          no_site i e s es (code_some i s e es) n e2 g eg eu (ap opened_of (data_is n g None e2 eg eu))
      by_seal g (Some u) eg eu =
          elim (cases_eq s.seal u.seal)
          as (λ _. EndsAgree l (return_by l (RetCode i) (RetData n) r2 o.frames o) (run_of id id 11 t)) [
            | inr ne ↦
                other_seal i e s es (code_some i s e es)
                n e2 g eg u eu ne (ap opened_of (data_is n g (Some u) e2 eg eu))
            | inl same ↦ (let site_is : i ≡ g.site = at_return.one_seal i g.site s u es eu same in
                let eu' : site_code l g.site ≡ Some s = ap (site_code l) (sym site_is) ∙ es in
                let flat_is = data_is n g (Some s) e2 eg eu' in
                its i e s es (code_some i s e es) n e2 g eg eu' (ap opened_of flat_is) flat_is site_is)
          ]

      by_frame : (z : Option OpenFrame) → frame_of o.frames n ≡ z
          → EndsAgree l (return_by l (RetCode i) (RetData n) r2 o.frames o) (run_of id id 11 t)
      by_frame None eg = both_fail l _ _ (return_fails l i n r2 o.frames o (λ f fs s' c ef en ei es' ec ej.
          let w : Some f ≡ None = sym (frame_of-newest f fs) ∙ ap (frame_of (f ∷ fs)) (sym en)
          ∙ ap (λ x. frame_of x n) (sym ef) ∙ eg in cc))
          (more (refuses _ None (code_some i s e es) (data_none n e2 eg) tt))
      by_frame (Some g) eg = by_seal g (site_code l g.site) eg refl

  first : (x y : OWord) → x1 ≡ x → x2 ≡ y → (is_plain x1 && is_plain x2) ≡ false → Both
  first (Plain w) (Plain v) e1 e2 h = (let bad : true ≡ false = rw (e1, e2) at h in cc)
  first (Plain w) (RetCode j) e1 e2 h =
      (let f : HasFailed (run_of id id 1 t) =
      plain_first w e1 (rw e2 (code_site l o.frames j)) in rw e1 (both_fail l _ _ refl f))
  first (Plain w) (RetData n) e1 e2 h =
      (let f : HasFailed (run_of id id 1 t) =
      plain_first w e1 (rw e2 (data_site l o.frames n)) in rw e1 (both_fail l _ _ refl f))
  first (RetData n) y e1 e2 h = (let f = data_first n e1 in rw e1 (both_fail l _ _ refl f))
  first (RetCode i) y e1 e2 h = as_code i e1 (code_first i (site_code l i) e1 refl y e2)

  pub return_agrees : (is_plain x1 && is_plain x2) ≡ false
      → EndsAgree l (return_step l r1 r2 o) (run_of id id (weight_by o.maps (Back r1 r2)) t)
  unfolding return_step
  return_agrees h = first x1 x2 refl refl h
