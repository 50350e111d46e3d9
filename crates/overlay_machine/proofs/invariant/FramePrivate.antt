-- While a call is open, no plain instruction touches its frame.
use Rattle.std.proofs.Common.{◌≡◌, ◌≢◌, inl, inr, ℕ, ◌+◌, ◌-◌, ◌<◌, ◌≤◌, ℤ, pos, negsuc, true, false, ◌∷◌}
use Rattle.std.proofs.Common.{Some, None, refl, sym, ap, ◌∙◌, subst, arith}
use Rattle.std.specs.Prelude.{if◌then◌else◌}
use Rattle.cap_words.specs.declared.Word.{Word}
use Rattle.cap_words.specs.declared.Word.TheVariants.{Mem}
use Rattle.cap_words.specs.Faces.{address}
use Rattle.lcm_isa.specs.declared.Reg.{Reg}
use Rattle.lcm_machine.specs.Maps.{State}
use Rattle.lcm_machine.specs.Places.{reg}
use Rattle.lcm_machine.specs.Cells.{cell}
use Rattle.lcm_machine.specs.Row.{Outcome, went, halted, failed, step_of}
use Rattle.lcm_machine.specs.Runs.{run_of, code_cap}
use Rattle.lcm_machine.specs.Touched.{Untouched}
use Rattle.lcm_machine.proofs.Offers.{untouched_then}
use Rattle.call_sequence.specs.declared.TheConstants.{CALL_WORDS, ENTRY_WORDS}
use Rattle.call_sequence.specs.SequenceRuns.{stack_cap, IsOutsideRange}
use Rattle.call_sequence.specs.Holds.{code_at}
use Rattle.trusted_border.specs.declared.layout.Layout.{Layout}
use Rattle.overlay_machine.specs.declared.words.OWord.{OWord}
use Rattle.overlay_machine.specs.declared.words.OWord.TheVariants.{Plain, RetCode, RetData}
use Rattle.overlay_machine.specs.declared.cases.Case.{Case}
use Rattle.overlay_machine.specs.declared.cases.Case.TheVariants.{Call, Entry, Back, Other}
use Rattle.overlay_machine.specs.Words.{look, is_plain, is_ret_code}
use Rattle.overlay_machine.specs.State.{OpenFrame, OState, framed, frame_of, word_of}
use Rattle.overlay_machine.specs.Step.{goes, case_of, step_by, weight_by, overlay_step, weight_of, other_step}
use Rattle.overlay_machine.specs.Step.{new_frame}
use Rattle.overlay_machine.specs.Flat.{IsFlat}
use Rattle.overlay_machine.specs.Agree.{Looks, ReadyFor, AtSite, AtEntry}
use Rattle.overlay_machine.specs.Link.{Link, ranges_of}
use Rattle.overlay_machine.specs.Linked.{IsLink}
use Rattle.overlay_machine.specs.Invariant.{Invariant, KeepsAgreeing, FrameLies, FramesLie}
use Rattle.overlay_machine.specs.Runs.{Reached, begins, goes_on, plain_run}
use Rattle.overlay_machine.specs.Privacy.{FramesArePrivate, AllFramesArePrivate}
use Rattle.overlay_machine.proofs.FrameWords.{frame_of-later}
use Rattle.overlay_machine.proofs.invariant.Facts.{stack_apart}
use Rattle.overlay_machine.proofs.invariant.View.{View, at_entry, in_part, out, view}
use Rattle.overlay_machine.proofs.invariant.Ready.{ready, looks}
use Rattle.overlay_machine.proofs.invariant.FrameFacts.{frame_in, frame_known, lies_of, framed_by}
use Rattle.overlay_machine.proofs.invariant.FrameFacts.{word_in_frame, has_word, frames_apart}
use Rattle.overlay_machine.proofs.invariant.Popped.{framed_at}
use Rattle.overlay_machine.proofs.OwnStack.{own_is}
use Rattle.overlay_machine.proofs.invariant.EntryKept.{entered, never_entry}
use Rattle.overlay_machine.proofs.invariant.OtherKept.{went_other}
use Rattle.overlay_machine.proofs.invariant.CallKept.{Called, called}
use Rattle.overlay_machine.proofs.invariant.ReturnKept.{Returned, returned}
use Rattle.overlay_machine.proofs.invariant.Kept.{kept}
use Rattle.overlay_machine.proofs.RunsAgree.{good_at}
use Rattle.overlay_machine.proofs.invariant.StepQuiet.{other_quiet, call_quiet, entry_quiet, back_first}
use Rattle.overlay_machine.proofs.invariant.StepQuiet.{return_quiet}

above_zero : (low : ℕ) (z : ℤ) → low < address z → (b : ℕ) × (z ≡ pos (b + 1)) × (low ≤ b)
above_zero low (pos n) h = (n - 1, (let e : n ≡ n - 1 + 1 = omega (arith, h) in ap pos e), omega (arith, h))
above_zero low (negsuc n) h = absurd (omega (arith, h))

pub no_ret_code : (w : OWord) → is_plain w ≡ true → is_ret_code w ≡ false
no_ret_code (Plain x) e = refl
no_ret_code (RetCode i) e = cc
no_ret_code (RetData k) e = cc

-- the same, with a number of instructions that is another
untouched_by : (a n k : ℕ) (t : State Word) → n ≡ k → Untouched (λ w. w) (λ w. w) a k t
    → Untouched (λ w. w) (λ w. w) a n t
untouched_by a n k t e h = subst (λ y. Untouched (λ w. w) (λ w. w) a y t) (sym e) h

goes_by : (n k : ℕ) (t u : State Word) → n ≡ k → plain_run n t ≡ went u → plain_run k t ≡ went u
goes_by n k t u e h = subst (λ y. plain_run y t ≡ went u) e h

went_on : (g : Link) (q : OState) (r : Outcome Word) → KeepsAgreeing g (goes q) r
    → (u : State Word) × (r ≡ went u)
went_on g q (went u) h = (u, refl)
went_on g q halted h = absurd h
went_on g q (failed c at) h = absurd h

module _ (g : Link) (linked : IsLink g) where
  abbrev l : Layout
  l = g.layout

  -- an address of a frame is one of the stack, and has no cell
  pub where_is : (o : OState) (t : State Word) → Invariant g o t → (a : ℕ) (w : OWord)
      → framed o.frames a ≡ Some w
      → (l.stack.base ≤ a) × (a ≤ l.stack.end) × (cell o.maps.cells a ≡ None)
  where_is o t inv a w fa =
      let b = framed_by o.frames a w fa in
      let s = lies_of l o.maps.cells o.calls o.frames b.0 inv.frames b.1 in
      let r = word_in_frame l o.maps.cells b.0 a w s b.2 in
      let lo = r.0 in
      let hi = r.1 in (
        (let x = s.above in omega (arith, x, lo)),
        (let x = s.within in omega (arith, x, hi)),
        s.gone a r.0
            r.1,
      )

  module _ (o : OState) (t : State Word) (inv : Invariant g o t) (q : OState)
      (step : overlay_step g.layout o ≡ goes q) where
    m : IsFlat l o t
    m = inv.flat

    k : Looks l o
    k = looks g linked o t inv

    plain_goes : (u : State Word) × (run_of (λ w. w) (λ w. w) (weight_of l o) t ≡ went u)
    plain_goes =
        went_on g q _
        (subst (λ e. KeepsAgreeing g e (run_of (λ w. w) (λ w. w) (weight_of l o) t))
        step (kept g linked o t inv))

    module _ (a : ℕ) (w v : OWord) (fa : framed o.frames a ≡ Some w) (fq : framed q.frames a ≡ Some v) where
      abbrev here : (l.stack.base ≤ a) × (a ≤ l.stack.end) × (cell o.maps.cells a ≡ None)
      here = where_is o t inv a w fa

      call_by : (i : ℕ) (r : AtSite l i o) (u : State Word)
          → run_of (λ w. w) (λ w. w) (weight_by o.maps (Call i)) t ≡ went u → Called l i o q
          → Untouched (λ w. w) (λ w. w) a (weight_by o.maps (Call i)) t
      call_by i r u ran x =
          let own = own_is l o.maps x.cap x.own in
          let e : Mem x.cap ≡ Mem (record (stack_cap l.stack.base r.end 0) { addr = r.to }) =
          sym own.0 ∙ r.stk in
          let c : x.cap ≡ record (stack_cap l.stack.base r.end 0) { addr = r.to } = cc in
          let b = above_zero l.stack.base x.cap.addr x.above in
          let to : r.to ≡ pos (b.0 + 1) = sym (ap (λ y. y.addr) c) ∙ b.1 in
          let at : address x.cap.addr ≡ b.0 + 1 = ap address b.1 in
          let le : b.0 + 1 ≤ r.end =
          (let f = ap (λ y. y.end) c in let y = x.within in omega (arith, at, f, y)) in
          let n : (if is_ret_code o.maps.regs.c1 then CALL_WORDS + 1 else CALL_WORDS) ≡ CALL_WORDS =
          ap (λ y. if y then CALL_WORDS + 1 else CALL_WORDS) (no_ret_code o.maps.regs.c1 x.plain1) in
          untouched_by a (weight_by o.maps (Call i)) CALL_WORDS t n
          (call_quiet l o t m k a here.0 here.1 w fa here.2 i r b.0 to b.2 le u
          (goes_by (weight_by o.maps (Call i)) CALL_WORDS t u n ran))

      entry_by : (at : ℕ) → View g o.frames o.maps (Entry at) → (r : AtEntry l at o)
          → step_by l (Entry at) o ≡ goes q → Untouched (λ w. w) (λ w. w) a ENTRY_WORDS t
      entry_by at (at_entry p off ip ea en st) r e =
          let n = entered g linked o t inv q at (code_cap r.base r.end at) r.pc e in
          let s : Mem (code_cap r.base r.end at) ≡ Mem (code_at (ranges_of p) off) = sym r.pc ∙ st.at_pc in
          let c : code_cap r.base r.end at ≡ code_at (ranges_of p) off = cc in
          let b1 = ap (λ y. y.base) c in
          let b2 = ap (λ y. y.end) c in
          let away : IsOutsideRange a r.base r.end =
          elim (stack_apart g linked p ip a here.0 here.1) as (λ _. IsOutsideRange a r.base r.end)
          [ inl x ↦ inl (omega (arith, x, b1)) | inr x ↦ inr (omega (arith, x, b2)) ] in
          entry_quiet l o t m k a here.0 here.1 w fa here.2 at r n.0 n.1 away
      entry_by at (in_part p off ip ne ns st ec) r e = absurd (never_entry o.maps _ at ec)
      entry_by at (out h ec) r e = absurd (never_entry o.maps _ at ec)

      back_by : (r1 r2 : Reg) (r : ReadyFor l o (Back r1 r2)) → Returned l r1 r2 o q
          → Untouched (λ w. w) (λ w. w) a (weight_by o.maps (Back r1 r2)) t
      back_by r1 r2 r x =
          let older : framed x.older a ≡ Some v = sym (ap (λ y. framed y.frames a) x.result) ∙ fq in
          let fr : FramesLie l o.maps.cells o.calls (x.frame ∷ x.older) =
          subst (λ y. FramesLie l o.maps.cells o.calls y) x.frames_are inv.frames in
          let gone = frames_apart l o.maps.cells o.calls x.frame x.older a v fr older in
          let n : (if is_ret_code (reg o.maps.regs r1) then 11 else 1) ≡ 11 =
          ap (λ y. if is_ret_code y then 11 else 1) x.code_is in
          untouched_by a (weight_by o.maps (Back r1 r2))
          11 t n (return_quiet l o t m k a here.0 here.1 w fa here.2 r1 r2 r q x
          (λ e. not_base x fr.0 (ap (word_of x.frame) e ∙ gone)))
        where
          not_base : (x : Returned l r1 r2 o q) → FrameLies l o.maps.cells x.frame
              → word_of x.frame x.frame.base ≡ None → ⊥
          not_base x s n =
              (let u = has_word l o.maps.cells x.frame x.frame.base s (omega arith) s.order in
              let bad : Some u.0 ≡ None = sym u.1 ∙ n in cc)

      quiet_by : (c : Case) → View g o.frames o.maps c → ReadyFor l o c → (u : State Word)
          → run_of (λ w. w) (λ w. w) (weight_by o.maps c) t ≡ went u → step_by l c o ≡ goes q
          → Untouched (λ w. w) (λ w. w) a (weight_by o.maps c) t
      quiet_by (Call i) x r u ran e = call_by i r u ran (called l i o q e)
      quiet_by (Entry at) x r u ran e = entry_by at x r e
      quiet_by (Back r1 r2) x r u ran e = back_by r1 r2 r (returned l r1 r2 o q e)
      quiet_by Other x r u ran e = other_quiet l o t m k a here.0 here.1 w fa here.2 r

      -- an address that is in a frame before and after a step isn't touched
      pub step_quiet : Untouched (λ w. w) (λ w. w) a (weight_of l o) t
      unfolding overlay_step weight_of
      step_quiet = quiet_by (case_of l o.maps) (view g linked o.frames o.maps inv.code inv.pc)
          (ready g linked o t inv) plain_goes.0 plain_goes.1 step

    -- ---- which calls are open

    abbrev Stays : Type 0
    Stays = (o.calls ≤ q.calls)
        × ((n : ℕ) (f : OpenFrame) → n < o.calls → frame_of q.frames n ≡ Some f
        → frame_of o.frames n ≡ Some f)

    same_frames : q.frames ≡ o.frames → q.calls ≡ o.calls → Stays
    same_frames e1 e2 = (omega (arith, e2), λ n f lt e. ap (λ y. frame_of y n) (sym e1) ∙ e)

    call_opens : (i : ℕ) → Called l i o q → Stays
    call_opens i x = (
      (let e = ap (λ y. y.calls) x.result in omega (arith, e)),
      λ n f lt e.
          sym (frame_of-later (new_frame i (address x.cap.addr) x.cap.end o)
          o.frames n (let ne : n ≢ o.calls = omega (arith, lt) in ne))
          ∙ sym (ap (λ y. frame_of y.frames n) x.result) ∙ e,
    )

    back_opens : (r1 r2 : Reg) → Returned l r1 r2 o q → Stays
    back_opens r1 r2 x = (
      (let e = ap (λ y. y.calls) x.result in omega (arith, e)),
      λ n f lt e.
          (let fr : FramesLie l o.maps.cells o.calls (x.frame ∷ x.older) =
          subst (λ y. FramesLie l o.maps.cells o.calls y) x.frames_are inv.frames in
          let eo : frame_of x.older n ≡ Some f = sym (ap (λ y. frame_of y.frames n) x.result) ∙ e in
          let before : n < x.frame.call = frame_known l o.maps.cells x.frame.call x.older n f fr.3 eo in
          ap (λ y. frame_of y n) x.frames_are
          ∙ frame_of-later x.frame x.older n (let ne : n ≢ x.frame.call = omega (arith, before) in ne)
          ∙ eo),
    )

    entry_opens : (at : ℕ) → AtEntry l at o → step_by l (Entry at) o ≡ goes q → Stays
    entry_opens at r e =
        (let n = entered g linked o t inv q at (code_cap r.base r.end at) r.pc e in
        same_frames (ap (λ y. y.frames) n.2) (ap (λ y. y.calls) n.2))

    other_opens : other_step o ≡ goes q → Stays
    unfolding other_step
    other_opens e =
        (let n = went_other o.frames o.calls (step_of look Plain o.maps) q e in
        same_frames (ap (λ y. y.frames) n.2) (ap (λ y. y.calls) n.2))

    opens_by : (c : Case) → ReadyFor l o c → step_by l c o ≡ goes q → Stays
    opens_by (Call i) r e = call_opens i (called l i o q e)
    opens_by (Entry at) r e = entry_opens at r e
    opens_by (Back r1 r2) r e = back_opens r1 r2 (returned l r1 r2 o q e)
    opens_by Other r e = other_opens e

    pub stays_open : Stays
    unfolding overlay_step
    stays_open = opens_by (case_of l o.maps) (ready g linked o t inv) step

  -- ---- runs

  module _ (o : OState) (t : State Word) (inv : Invariant g o t) where
    matched : (j : ℕ) (p : OState) → Reached l o j p
        → (u : State Word) × (plain_run j t ≡ went u) × Invariant g p u
    matched j p r = good_at l (Invariant g) (λ q u i. i.flat) (λ q u i. kept g linked q u i) o t inv j p r

    calls_rise : (j : ℕ) (p : OState) → Reached l o j p → o.calls ≤ p.calls
    calls_rise _ _ begins = omega arith
    calls_rise _ q (goes_on {j = j} {p = p} r e) = let up = calls_rise j p r in let s =
        matched j p r in let n = (stays_open p s.0 s.2 q e).0 in omega (arith, up, n)

    framed_of : (p : OState) (u : State Word) → Invariant g p u → (n : ℕ) (f : OpenFrame)
        → frame_of p.frames n ≡ Some f → (a : ℕ) → f.base ≤ a → a ≤ f.end
        → (w : OWord) × (framed p.frames a ≡ Some w)
    framed_of p u h n f e a low high =
        let c = (frame_in p.frames n f e).0 in
        let s = lies_of l p.maps.cells p.calls p.frames f h.frames c in
        let v = has_word l p.maps.cells f a s low high in
        (v.0, framed_at l p.maps.cells p.calls p.frames f a v.0 h.frames c v.1)

    -- up to each matched point at which a call of before is open, its frame isn't touched
    private : (n : ℕ) (f : OpenFrame) (a : ℕ) → n < o.calls → f.base ≤ a → a ≤ f.end → (j : ℕ) (p : OState)
        → Reached l o j p → frame_of p.frames n ≡ Some f → Untouched (λ w. w) (λ w. w) a j t
    private n f a lt low high _ _ begins e = tt
    private n f a lt low high _ q (goes_on {j = j} {p = p} r step) e =
        let s = matched j p r in
        let s' = matched (j + weight_of l p) q (goes_on r step) in
        let up = calls_rise j p r in
        let before = (stays_open p s.0 s.2 q step).1 n f (omega (arith, lt, up)) e in
        let w = framed_of p s.0 s.2 n f before a low high in
        let v = framed_of q s'.0 s'.2 n f e a low high in
        untouched_then (λ w. w) (λ w. w) a j (weight_of l p) t s.0 (private n f a lt low high j p r before)
        s.1 (step_quiet p s.0 s.2 q step a w.0 v.0 w.1 v.1)

    -- nor does the `xjmp` that reaches its return sequence touch it
    private_return : (n : ℕ) (f : OpenFrame) (a : ℕ) → n < o.calls → f.base ≤ a → a ≤ f.end
        → (j : ℕ) (p : OState) → Reached l o j p → frame_of p.frames n ≡ Some f
        → (r1 r2 : Reg) → case_of l p.maps ≡ Back r1 r2 → Untouched (λ w. w) (λ w. w) a (j + 1) t
    private_return n f a lt low high j p r e r1 r2 c =
        let s = matched j p r in
        let w = framed_of p s.0 s.2 n f e a low high in
        let h = where_is p s.0 s.2 a w.0 w.1 in
        let rd : ReadyFor l p (Back r1 r2) = subst (λ y. ReadyFor l p y) c (ready g linked p s.0 s.2) in
        untouched_then (λ w. w) (λ w. w) a j 1 t s.0 (private n f a lt low high j p r e) s.1
        (back_first l p s.0 s.2.flat (looks g linked p s.0 s.2) a h.0 h.1 w.0 w.1 h.2 r1 r2 rd)

    pub frames_private : FramesArePrivate g o t
    frames_private = record {
      while_open =
          λ n f is j p r e a low high.
          private n f a (frame_known l o.maps.cells o.calls o.frames n f inv.frames is) low high j p r e;
      up_to_return =
          λ n f is j p r e r1 r2 c a low high. private_return n f a
          (frame_known l o.maps.cells o.calls o.frames n f inv.frames is) low high j p r e r1 r2 c;
    }

pub all_private : AllFramesArePrivate
all_private g o t linked inv = frames_private g linked o t inv
