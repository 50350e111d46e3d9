-- A procedure that untrusted code entered ends while a call waits, and may return by the pair of that call.
use Rattle.std.proofs.Common.{◌≡◌, ◌≢◌, inl, inr, ℕ, suc, ◌+◌, ◌-◌, ◌≤◌, pos, List, ◌∷◌, Some, None, Bool}
use Rattle.std.proofs.Common.{true, false, refl, sym, ap, ◌∙◌, subst, arith, eqb-true, length, ◌<◌, ◌⊎◌}
use Rattle.std.specs.Prelude.{◌&&◌, ◌==◌, if◌then◌else◌}
use Rattle.std.specs.Str.{bytes_eq}
use Rattle.std.proofs.lemmas.Bool.{eq-eqb, ne_eqb}
use Rattle.std.proofs.Math.Bool.{and-false}
use Rattle.cap_words.specs.declared.Word.TheVariants.{Mem}
use Rattle.cap_words.specs.declared.CapFields.{CapFields}
use Rattle.lcm_isa.specs.declared.Reg.TheVariants.{Rcode, Rdata, A0}
use Rattle.lcm_isa.specs.declared.Instr.TheVariants.{Xjmp}
use Rattle.lcm_machine.specs.declared.Place.TheVariants.{R}
use Rattle.lcm_machine.specs.Cells.{put_back}
use Rattle.lcm_machine.specs.Table.{ask, need}
use Rattle.call_sequence.specs.Holds.{part_stack_cap as stack_at}
use Rattle.linked_starts.specs.Parts.{PartSeen}
use Rattle.trusted_border.specs.declared.layout.SiteCode.{SiteCode}
use Rattle.trusted_border.specs.declared.events.Event.TheVariants.{Returned as ReturnedTo}
use Rattle.trusted_border.specs.declared.events.Back.{Back}
use Rattle.trusted_border.specs.declared.events.Back.TheVariants.{Bad, Pair}
use Rattle.trusted_border.specs.Layout.{site_code}
use Rattle.trusted_border.specs.Reaches.{back_of, site_of_seal}
use Rattle.overlay_machine.specs.declared.words.OWord.TheVariants.{Plain, RetCode, RetData}
use Rattle.overlay_machine.specs.declared.cases.Case.TheVariants.{Other, Back as BackCase}
use Rattle.overlay_machine.specs.Words.{look, is_plain}
use Rattle.overlay_machine.specs.State.{OpenFrame, OState, frame_of}
use Rattle.overlay_machine.specs.Step.{fails, step_by, return_step, return_by, own_stack, overlay_step}
use Rattle.overlay_machine.specs.Step.{rest_words}
use Rattle.overlay_machine.specs.Step as step
use Rattle.overlay_machine.specs.Flat.{flat}
use Rattle.overlay_machine.specs.Link.{Link, ranges_of}
use Rattle.std.specs.List.{Contains}
use Rattle.overlay_machine.specs.Safe.{IsMet}
use Rattle.overlay_machine.specs.Invariant.{FrameLies, FramesLie}
use Rattle.overlay_machine.specs.Linked.{IsLink}
use Rattle.overlay_machine.proofs.Offers.{own_from, frame_in, frame_of-cons, below_all}
use Rattle.run_lines.specs.Layout.{part_name, site_of}
use Rattle.run_lines.specs.Views.{flat_view}
use Rattle.source_laws.proofs.Scenes.{Scene}
use Rattle.source_laws.proofs.Refined.{Wait, wipes, Comp, ends, resumed, returned}
use Rattle.source_events.specs.declared.End.TheVariants.{Fail as Fails}
use Rattle.template_runs.specs.Runs.{is_inside}
use Rattle.call_sequence.specs.declared.TheConstants.{CALL_WORDS, RETURN_WORDS, SITE_WORDS}
use Rattle.lcm_machine.specs.Runs.{code_cap}
use Rattle.template_runs.proofs.Offers.{Owing, Among, depth, ended, clean_pending, Valid, At, Placed}
use Rattle.template_runs.proofs.Offers.{inside_here, back_valid, case_is, resumed_to, back_makes}
use Rattle.template_runs.proofs.Offers.{back_returned, Named}
use Rattle.source_laws.proofs.Upto.{in_frame, Carries, UpTo, go_silent, spend}
use Rattle.template_runs.specs.Border.{zero}
use Rattle.source_laws.proofs.CallsIn.{first_frame, older_frames, ProcLaw, left_now}
use Rattle.run_lines.specs.Feed.{integer_in}
use Rattle.source_laws.proofs.Meanwhile.{Meets, Beneath, AtLeave, EndsAs, left_told, return_told, told_fails}
use Rattle.source_laws.proofs.Meanwhile.{ends_law}
use Rattle.source_laws.proofs.Waiting.{IsFor, Resumes, WaitLaw, LeaveLaw, call_waits}
use Rattle.source_laws.proofs.Waits.{rest_length}

module _ (g : Link) (linked : IsLink g) (p : PartSeen) (k : ℕ) (q : OState) (v : Valid g linked q)
    (at : At g linked p k q) (h : Placed g linked p k (Xjmp Rcode Rdata)) (i j : ℕ)
    (ec : q.maps.regs.rcode ≡ RetCode i) (ed : q.maps.regs.rdata ≡ RetData j)
    (f : OpenFrame) (fs : List OpenFrame) (frames : q.frames ≡ f ∷ fs) where
  pair_step : overlay_step g.layout q ≡ return_by g.layout (RetCode i) (RetData j) Rdata (f ∷ fs) q
  unfolding overlay_step return_step
  pair_step =
      ap (λ c. step_by g.layout c q)
      (case_is g linked p k q v at h
      ∙ ap (λ x. if is_plain x && is_plain q.maps.regs.rdata then Other else BackCase Rcode Rdata) ec)
      ∙ ap (λ x. return_by g.layout x q.maps.regs.rdata Rdata q.frames q) ec
      ∙ ap (λ x. return_by g.layout (RetCode i) x Rdata q.frames q) ed
      ∙ ap (λ x. return_by g.layout (RetCode i) (RetData j) Rdata x q) frames

  not_newest : ((j == f.call) && (i == f.site)) ≡ false → overlay_step g.layout q ≡ fails
  unfolding step.ask
  not_newest e = pair_step ∙ rw e refl

  not_joined : (u : SiteCode) (cap : CapFields) → ((j == f.call) && (i == f.site)) ≡ true
      → site_code g.layout i ≡ Some u → own_stack g.layout q.maps ≡ Some cap → (cap.end + 1 == f.base) ≡ false
      → overlay_step g.layout q ≡ fails
  unfolding step.ask step.need
  not_joined u cap e s own ne = pair_step ∙ rw (e, s, own, ne) refl

  module _ (u uh : SiteCode) (hf : OpenFrame) (iu : site_code g.layout i ≡ Some u)
      (fk : frame_of q.frames j ≡ Some hf) (iuh : site_code g.layout hf.site ≡ Some uh) where
    seals_differ : (u.seal == uh.seal) ≡ false
        → back_of g.layout (flat g.layout q.frames (RetCode i)) (flat g.layout q.frames (RetData j)) ≡ Bad
    unfolding flat ask need
    seals_differ e = rw (iu, fk) (rw iuh (rw e refl))

    seals_same : (u.seal == uh.seal) ≡ true → site_of_seal g.layout u.seal ≡ Some i
        → back_of g.layout (flat g.layout q.frames (RetCode i)) (flat g.layout q.frames (RetData j)) ≡ Pair i
        hf.base
    unfolding flat ask need
    seals_same e s = rw (iu, fk) (rw iuh (rw (e, s) refl))

module _ (scene : Scene) (named : Named scene.g)
  where
    open scene use {world, g, linked, Begins, StoreIs, RegsAre}

    -- what is left: the number of a site by its seal
    pub record Rest : Type 0 where
      pub sealed : (i : ℕ) (u : SiteCode) → site_code g.layout i ≡ Some u
          → site_of_seal g.layout u.seal ≡ Some i

    -- it returns by the pair of a call: of the newest, which goes on, or it fails
    module _ (rest : Rest) (n c : ℕ) (w : Wait world) (f : OpenFrame) (fs : List OpenFrame) (ow : Owing fs)
        (for : IsFor scene w f) (back : Resumes scene n c w f fs ow)
        (it : AtLeave scene (call_waits scene w f fs ow)) where
      open it use {t, p, en, o, q, v, st, mem, entry, fr, a, store}

      abbrev under : Beneath scene
      under = call_waits scene w f fs ow

      abbrev Told : Back → Type 0
      Told = EndsAs scene (suc n) c under it

      pub pair_law : (i j : ℕ) → q.maps.regs.rcode ≡ RetCode i → q.maps.regs.rdata ≡ RetData j
          → Told (return_told scene q.frames (RetCode i) (RetData j))
      unfolding flat
      pair_law i j ec ed =
          let m1 : IsMet g q.frames (RetCode i) =
          subst (IsMet g q.frames) ec (a.valid.holds.met (R Rcode) q.maps.regs.rcode refl) in
          let m2 : IsMet g q.frames (RetData j) =
          subst (IsMet g q.frames) ed (a.valid.holds.met (R Rdata) q.maps.regs.rdata refl) in
          let fit = a.valid.holds.frames_fit m2.0 (frame_in q.frames j m2.0 m2.1).0 in
          pair_told m1.0 fit.code m2.0 m1.1 m2.1 fit.code_is (m1.0.seal == fit.code.seal) refl
        where
          frames : q.frames ≡ f ∷ fs
          frames = a.frames ∙ fr

          -- the newest frame lies
          lies : FrameLies g.layout q.maps.cells f
          lies = (subst (FramesLie g.layout q.maps.cells q.calls) frames a.valid.holds.frames).0

          is_in : (q3 : OState) (i : ℕ) (u : SiteCode) → site_code g.layout i ≡ Some u
              → q3.maps.regs.pc ≡ Plain (Mem (code_cap u.base u.end (u.at + (CALL_WORDS + RETURN_WORDS))))
              → is_inside g.layout q3 ≡ true
          is_in q3 i u e pc =
              let s = linked.sites i u e in
              let a = s.3.at_is in
              let k : u.at + SITE_WORDS
              ≡ s.0.component.code_base + (s.3.offset + SITE_WORDS) = omega (arith, a) in
              inside_here g linked s.0 (s.3.offset + SITE_WORDS) q3 (record {
                trusted = s.2;
                pc = ap look pc ∙ ap (λ y. Mem (code_cap y u.end (u.at + SITE_WORDS))) s.3.base_is
                    ∙ ap (λ y. Mem (code_cap (ranges_of s.0).code_base y (u.at + SITE_WORDS))) s.3.end_is
                    ∙ ap (λ y. Mem (code_cap (ranges_of s.0).code_base (ranges_of s.0).code_last y)) k;
              })

          -- a frame's cells come back
          brings : (q3 : OState) → a.top + 1 ≡ f.base
              → q3.maps.cells ≡ put_back q.maps.cells f.base (zero ∷ rest_words f.words)
              → Carries g (ended a.top) q (in_frame f) q3
          brings q3 joins cells x low z =
              let ord = lies.order in
              let len = lies.words in
              let at : f.end - (f.end - f.base) ≡ f.base = omega (arith, ord) in
              let there : q3.maps.cells
              ≡ put_back q.maps.cells (f.end - (f.end - f.base)) (zero ∷ rest_words f.words) =
              cells ∙ ap (λ y. put_back q.maps.cells y (zero ∷ rest_words f.words)) (sym at) in
              clean_pending g x q q3 (f.end - f.base) f.end (rest_words f.words) (omega arith) there
              (rest_length f.words (f.end - f.base) (omega (arith, len, ord))) low a.top 1 (joins ∙ sym at) z

          -- where it returns to the newest call, nothing is owed any more
          spent : (q3 : OState) → q3.frames ≡ fs → (x : OState) → Among (en ∷ ow.owes) x
              → Among ow.owes x ⊎ (depth q3 < depth x)
          spent q3 e x (inl s) =
              inr (let a = ap depth s in
              let b = ap length e in
              let c = ap length entry.frames in
              let d = ap length fr in omega (arith, a, b, c, d))
          spent q3 e x (inr m) = inl m

          own : own_stack g.layout q.maps ≡ Some (stack_at (ranges_of a.part) a.top (pos a.top))
          own = own_from g.layout q.maps (stack_at (ranges_of a.part) a.top (pos a.top)) a.stk refl refl
              (linked.stack_bases a.part a.at.trusted)

          left_is : left_now scene o ≡ Some (a.top + 1 - g.layout.stack.base)
          left_is = a.left

          -- what is told of a pair
          told_pair : (base : ℕ) → left_told scene under it (Pair i base) ≡ resumed world (Some w)
              (part_name g.layout (site_of g.layout i).part) (site_of g.layout i).index base
              (Some (a.top + 1 - g.layout.stack.base)) (Some v) st
          told_pair base = ap (λ l. returned world (Some w) l (part_name g.layout (site_of g.layout i).part)
              (site_of g.layout i).index base v st) left_is

          -- by whether its frame and what is left of the stack are those of the call
          told_if : Bool → Bool → Comp
          told_if base left =
              if bytes_eq (part_name g.layout (site_of g.layout i).part) w.part
              && ((site_of g.layout i).index == w.site) && base && left then wipes w.given (w.resume v st)
              else ends Fails

          fails_if : (b : Bool) (m : Comp) → b ≡ false → (if b then m else ends Fails) ≡ ends Fails
          fails_if b m e = ap (λ z. if z then m else ends Fails) e

          newest : (u : SiteCode) → site_code g.layout i ≡ Some u → f.call ≡ j → i ≡ f.site
              → Told (Pair i f.base)
          newest u iu ej ei = by ((a.top + 1 - g.layout.stack.base) == w.given) refl
            where
              both : ((j == f.call) && (i == f.site)) ≡ true
              both = rw (eq-eqb j f.call (sym ej), eq-eqb i f.site ei) refl

              by : (b : Bool) → ((a.top + 1 - g.layout.stack.base) == w.given) ≡ b → Told (Pair i f.base)
              by false e =
                  let gv = for.given in
                  let ne : a.top + 1 ≢ f.base =
                  (λ x. (let eq : a.top + 1 - g.layout.stack.base ≡ w.given =
                  ap (λ y. y - g.layout.stack.base) x ∙ gv in
                  let bad : true ≡ false = sym (eq-eqb (a.top + 1 - g.layout.stack.base) w.given eq) ∙ e in
                  cc)) in
                  told_fails scene (suc n) c under it (Pair i f.base)
                  (told_pair f.base ∙ ap (told_if (f.base == w.base)) e ∙ fails_if _ _ (and-false _))
                  (not_joined g linked a.part a.offset q a.valid a.at a.jump i j ec ed f fs frames u
                  (stack_at (ranges_of a.part) a.top (pos a.top)) both iu own (ne_eqb (a.top + 1) f.base ne))
              by true e =
                  let gv = for.given in
                  let eq = eqb-true (a.top + 1 - g.layout.stack.base) w.given e in
                  let ab = lies.above in
                  let joins : a.top + 1 ≡ f.base = omega (arith, gv, eq, ab) in
                  let ec' : q.maps.regs.rcode ≡ RetCode f.site = ec ∙ ap RetCode ei in
                  let ed' : q.maps.regs.rdata ≡ RetData f.call = ed ∙ ap RetData (sym ej) in
                  let iu' : site_code g.layout f.site ≡ Some u = ap (site_code g.layout) (sym ei) ∙ iu in
                  let cap = stack_at (ranges_of a.part) a.top (pos a.top) in
                  let mk = back_makes g linked a.part a.offset q a.valid a.at a.jump f fs u cap ec' ed' frames
                  iu' own joins in
                  let q3 = resumed_to g linked a.part a.offset q a.valid a.at a.jump f fs u cap ec' ed' frames
                  iu' own joins in
                  let ret = back_returned g linked a.part a.offset q a.valid a.at a.jump f fs u cap ec' ed'
                  frames iu' own joins in
                  let same : ret.frame ≡ f =
                  first_frame ret.frame f ret.older fs (sym ret.frames_are ∙ frames) in
                  let older : ret.older ≡ fs =
                  older_frames ret.frame f ret.older fs (sym ret.frames_are ∙ frames) in
                  let less : 11 + c ≤ c + 100 = omega arith in
                  let value : integer_in ((flat_view g.layout q3).reg A0) ≡ Some v =
                  ap (λ z. integer_in (flat g.layout fs z)) a.value ∙ rw (a.fits) refl in
                  let m : Comp = resumed world (Some w) (part_name g.layout (site_of g.layout f.site).part)
                  (site_of g.layout f.site).index f.base None (Some v) st in
                  let is : left_told scene under it (Pair i f.base) ≡ m = told_pair f.base
                  ∙ ap (told_if (f.base == w.base)) e
                  ∙ ap (λ z. resumed world (Some w) (part_name g.layout (site_of g.layout z).part)
                  (site_of g.layout z).index f.base None (Some v) st) ei in
                  subst (UpTo g (en ∷ ow.owes) (ended a.top) (suc n) (c + 100) q) (sym is)
                  (spend g (suc n) (11 + c) (c + 100) q m less
                  (go_silent g n 11 c (Some (ReturnedTo true f.site f.base f.end)) q q3 m mk refl refl
                  (is_in q3 f.site u iu' refl) (brings q3 joins refl) (spent q3 refl)
                  (back Rcode Rdata q q3 st mem
                  (back_valid g linked a.part a.offset q a.valid a.at a.jump f fs u cap ec' ed' frames iu' own
                  joins) ret same older a.globs store (Some v) value)))

          pair_told : (u uh : SiteCode) (hf : OpenFrame) → site_code g.layout i ≡ Some u
              → frame_of q.frames j ≡ Some hf → site_code g.layout hf.site ≡ Some uh
              → (s : Bool) → (u.seal == uh.seal) ≡ s
              → Told (return_told scene q.frames (RetCode i) (RetData j))
          pair_told u uh hf iu fk iuh false es =
              subst Told
              (sym (seals_differ g linked a.part a.offset q a.valid a.at a.jump i j ec ed f fs frames u uh hf
              iu fk iuh es))
              (told_fails scene (suc n) c under it Bad refl
              (not_newest g linked a.part a.offset q a.valid a.at a.jump i j ec ed f fs frames test))
            where
              site_ne : i ≢ hf.site
              site_ne e =
                  let same : Some u ≡ Some uh = sym iu ∙ ap (site_code g.layout) e ∙ iuh in
                  let su : u ≡ uh = cc in
                  let bad : true ≡ false = sym (eq-eqb u.seal uh.seal (ap (λ x. x.seal) su)) ∙ es in cc

              test : ((j == f.call) && (i == f.site)) ≡ false
              test = elim (frame_of-cons f fs j hf (subst (λ x. frame_of x j ≡ Some hf) frames fk)) as (λ _.
                  ((j == f.call) && (i == f.site)) ≡ false) [
                    | inl h ↦ (let ne : i ≢ f.site = (λ e. site_ne (e ∙ ap (λ x. x.site) h.1)) in
                        ap (λ x. (j == f.call) && x) (ne_eqb i f.site ne) ∙ and-false (j == f.call))
                    | inr h ↦ ap (λ x. x && (i == f.site)) (ne_eqb j f.call (λ e. h.0 (sym e)))
                  ]
          pair_told u uh hf iu fk iuh true es =
              let site : i ≡ hf.site = linked.one_seal i hf.site u uh iu iuh (eqb-true u.seal uh.seal es) in
              subst Told
              (sym (seals_same g linked a.part a.offset q a.valid a.at a.jump i j ec ed f fs frames u uh hf iu
              fk iuh es (rest.sealed i u iu)))
              (elim (frame_of-cons f fs j hf (subst (λ x. frame_of x j ≡ Some hf) frames fk)) as
              (λ _. Told (Pair i hf.base)) [
                | inl h ↦ subst (λ y. Told (Pair i y.base)) h.1
                    (newest u iu h.0 (site ∙ ap (λ x. x.site) (sym h.1)))
                | inr h ↦ told_fails scene (suc n) c under it (Pair i hf.base)
                    (older_fails hf (frame_in fs j hf h.1).0)
                    (not_newest g linked a.part a.offset q a.valid a.at a.jump i j ec ed f fs frames
                    (ap (λ x. x && (i == f.site)) (ne_eqb j f.call (λ e. h.0 (sym e)))))
              ])
            where
              older_fails : (hf : OpenFrame) → Contains fs hf
                  → left_told scene under it (Pair i hf.base) ≡ ends Fails
              older_fails hf m =
                  let below = below_all g.layout q.maps.cells q.calls f fs hf
                  (subst (FramesLie g.layout q.maps.cells q.calls) frames a.valid.holds.frames) m in
                  let ord = lies.order in
                  let fb = for.base in
                  let ne : hf.base ≢ w.base =
                  (λ e. (let x : f.base ≡ hf.base = fb ∙ sym e in omega (arith, x, below, ord))) in
                  told_pair hf.base
                  ∙ ap (λ z. told_if z ((a.top + 1 - g.layout.stack.base) == w.given))
                  (ne_eqb hf.base w.base ne)
                  ∙ ap (λ z. if z && ((a.top + 1 - g.layout.stack.base) == w.given) then wipes w.given
                  (w.resume v st) else ends
                  Fails) (and-false _)

    pub leave_law : (n : ℕ) → Rest → Meets scene named → ProcLaw scene n → LeaveLaw scene n → WaitLaw scene n
        → LeaveLaw scene (suc n)
    leave_law n rest meets procs leaving waiting c w f fs ow for back =
        ends_law scene named meets n c (call_waits scene w f fs ow) procs (leaving c w f fs ow for fewer)
        (waiting c w f fs ow for fewer) (pair_law rest n c w f fs ow for (fewer n (omega arith)))
      where
        fewer : (m : ℕ) → m ≤ n → Resumes scene m c w f fs ow
        fewer m le = back m (omega (arith, le))
