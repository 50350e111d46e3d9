-- Two runs in lockstep.
use Rattle.std.proofs.Common.{◌≡◌, ◌≢◌, inl, inr, ℕ, ◌≤◌, ◌<◌, List, ◌∷◌, true, false, sym, ap, ◌∙◌, subst}
use Rattle.std.proofs.Common.{arith}
use Rattle.std.specs.Prelude.{◌↔◌}
use Rattle.trusted_border.specs.declared.layout.Layout.{Layout}
use Rattle.overlay_machine.specs.State.{OpenFrame, OState}
use Rattle.overlay_machine.specs.Step.{goes, overlay_step}
use Rattle.overlay_machine.specs.Link.{Link}
use Rattle.overlay_machine.specs.Linked.{IsLink}
use Rattle.overlay_machine.specs.Runs.{Reached, goes_on}
use Rattle.overlay_machine.specs.Invariant.{FramesLie}
use Rattle.template_runs.specs.Runs.{is_inside}
use Rattle.template_runs.proofs.Offers.{goes_same, halts_not, fails_not}
use Rattle.source_laws.specs.Secrets.{Until, still_there, one_more}
use Rattle.lockstep.specs.Related.{StandsOutside, SameNames, Calls, AreCalls, Alike, StepsAlike, both_halt}
use Rattle.lockstep.specs.Related.{both_fail, both_stay, both_come, ComesAlike}
use Rattle.lockstep.specs.Lockstep.{Round, IsRound, Path, SameCrossing, by_call, by_leave, SameObserved}
use Rattle.lockstep.specs.Lockstep.{InStep, at_end, round, AreBelow, HoldsAlong, Tidies, RunInStep}
use Rattle.lockstep.specs.Lockstep as spec
use Rattle.lockstep.proofs.Step.{step_alike}
use Rattle.lockstep.proofs.Counts.{call_new, step_rises, until_reached}
use Rattle.lockstep.proofs.Arrive.{arrive_alike}

pub first_inside : (l : Layout) (p q : OState) → Until l p q → is_inside l p ≡ true
first_inside l p _ (still_there i) = i
first_inside l p _ (one_more u s i) = first_inside l p _ u

pub runs_outside : (k : Link) (x : OState) → HoldsAlong k x → (i : ℕ) (p : OState) → Reached k.layout x i p
    → is_inside k.layout p ≡ false → StandsOutside k p
runs_outside k x holds i p r out =
    let v = holds i p r in record { plain = v.0; holds = v.1; outside = out }

-- calls that stand for each other go on to do so, and a new one is another
pub below_later : (cs : Calls) (p p' q q' : OState) → p.calls ≤ q.calls → p'.calls ≤ q'.calls
    → AreBelow cs p p' → AreBelow cs q q'
below_later cs p p' q q' up up' b = record {
  first = λ k m c. (let lt = b.first k m c in omega (arith, lt, up));
  second = λ k m c. (let lt = b.second k m c in omega (arith, lt, up'));
  one = b.one;
}

pub below_new : (cs : Calls) (n n' : ℕ) (p p' q q' : OState) → p.calls ≤ n → p'.calls ≤ n' → n < q.calls
    → n' < q'.calls → AreBelow cs p p' → AreBelow ((n, n') ∷ cs) q q'
below_new cs n n' p p' q q' up up' lo lo' b = record { first = first; second = second; one = one }
  where
    first : (k m : ℕ) → AreCalls ((n, n') ∷ cs) k m → k < q.calls
    first k m (inl e) = let e0 = e.0 in omega (arith, e0, lo)
    first k m (inr c) = let lt = b.first k m c in omega (arith, lt, up, lo)

    second : (k m : ℕ) → AreCalls ((n, n') ∷ cs) k m → m < q'.calls
    second k m (inl e) = let e1 = e.1 in omega (arith, e1, lo')
    second k m (inr c) = let lt = b.second k m c in omega (arith, lt, up', lo')

    one : (k m i j : ℕ) → AreCalls ((n, n') ∷ cs) k m → AreCalls ((n, n') ∷ cs) i j → (k ≡ i) ↔ (m ≡ j)
    one k m i j (inl e) (inl f) = (λ _. e.1 ∙ sym f.1, λ _. e.0 ∙ sym f.0)
    one k m i j (inr c) (inr d) = b.one k m i j c d
    one k m i j (inl e) (inr d) = (
      λ s. absurd (let lt = b.first i j d in let e0 = e.0 in omega (arith, lt, e0, s, up)),
      λ s. absurd (let lt = b.second i j d in let e1 = e.1 in omega (arith, lt, e1, s, up')),
    )
    one k m i j (inr c) (inl f) = (
      λ s. absurd (let lt = b.first k m c in let f0 = f.0 in omega (arith, lt, f0, s, up)),
      λ s. absurd (let lt = b.second k m c in let f1 = f.1 in omega (arith, lt, f1, s, up')),
    )

-- a call that goes out: its number, before it and after it
pub newest_below : (k : Link) (l : IsLink k) (x : OState) (holds : HoldsAlong k x) (i : ℕ) (q : OState)
    (f : OpenFrame)
    (older : List OpenFrame) → Reached k.layout x i q → q.frames ≡ f ∷ older → f.call < q.calls
newest_below k l x holds i q f older r e = let v = (holds i q r).1.frames in by v e
  where
    by : {fs : List OpenFrame} → FramesLie k.layout q.maps.cells q.calls fs → fs ≡ f ∷ older
        → f.call < q.calls
    by {fs} v e = (subst (FramesLie k.layout q.maps.cells q.calls) e v).1

module _ (g h : Link) (names : SameNames g h) (lg : IsLink g) (lh : IsLink h) (o o' : OState)
    (hg : HoldsAlong g o)
    (hh : HoldsAlong h o') (tg : Tidies g o) (th : Tidies h o') where
  pub alike_step : (cs : Calls) (i j : ℕ) (p p' : OState) → Reached g.layout o i p → Reached h.layout o' j p'
      → is_inside g.layout p ≡ false → is_inside h.layout p' ≡ false → Alike g h names cs p p'
      → AreBelow cs p p' → StepsAlike g h names cs p p'
  alike_step cs i j p p' r r' out out' al below =
      step_alike g h names cs lg lh below.one p p' (runs_outside g o hg i p r out)
      (runs_outside h o' hh j p' r' out') al

  module _ (cs : Calls) (a b : Round) (i j : ℕ) (ra : Reached g.layout o i a.before)
      (rb : Reached h.layout o' j b.before) (ia : IsRound g.layout a) (ib : IsRound h.layout b)
      (below : AreBelow cs a.before b.before) where
    last_a : (n : ℕ) × Reached g.layout o n a.last × (a.entered.calls ≤ a.last.calls)
    last_a = until_reached g lg o hg a.entered a.last _ (goes_on ra ia.comes) ia.until

    last_b : (n : ℕ) × Reached h.layout o' n b.last × (b.entered.calls ≤ b.last.calls)
    last_b = until_reached h lh o' hh b.entered b.last _ (goes_on rb ib.comes) ib.until

    up_a : a.before.calls ≤ a.last.calls
    up_a = let x = step_rises g lg o hg i a.before a.entered ra ia.comes in let y = last_a.2
        in omega (arith, x, y)

    up_b : b.before.calls ≤ b.last.calls
    up_b = let x = step_rises h lh o' hh j b.before b.entered rb ib.comes in let y = last_b.2
        in omega (arith, x, y)

    pub after_a : (n : ℕ) × Reached g.layout o n a.after
    after_a = (_, goes_on last_a.1 ia.lets)

    pub after_b : (n : ℕ) × Reached h.layout o' n b.after
    after_b = (_, goes_on last_b.1 ib.lets)

    pub below_after : (ds : Calls) → SameCrossing g h names cs a b ds → AreBelow ds a.after b.after
    below_after _ (by_call d f e s t ev ew base sites a0 a1 a2 a3) =
        let na = call_new g.layout a.last a.after ia.lets _ _ _ _ ev f s.older s.newest in
        let nb = call_new h.layout b.last b.after ib.lets _ _ _ _ ew e t.older t.newest in
        let x = up_a in
        let y = up_b in
        below_new cs f.call e.call a.before b.before a.after b.after (omega (arith, na, x))
        (omega (arith, nb, y))
        (newest_below g lg o hg after_a.0 a.after f s.older after_a.1 s.newest)
        (newest_below h lh o' hh after_b.0 b.after e t.older after_b.1 t.newest) below
    below_after _ (by_leave d top s t a0 newest) =
        let x = up_a in
        let y = up_b in
        let u = step_rises g lg o hg last_a.0 a.last a.after last_a.1 ia.lets in
        let v = step_rises h lh o' hh last_b.0 b.last b.after last_b.1 ib.lets in
        below_later cs a.before b.before a.after b.after (omega (arith, x, u)) (omega (arith, y, v)) below

  -- a step of the one that stays outside, and one of the other that comes in, aren't alike
  never_apart : (cs : Calls) (p p' q q' : OState) → StepsAlike g h names cs p p'
      → overlay_step g.layout p ≡ goes q → overlay_step h.layout p' ≡ goes q'
      → is_inside g.layout q ≢ is_inside h.layout q' → ⊥
  never_apart cs p p' q q' (both_halt x y) e f ne = halts_not q (sym x ∙ e)
  never_apart cs p p' q q' (both_fail x y) e f ne = fails_not q (sym x ∙ e)
  never_apart cs p p' q q' (both_stay m m' x y i j ev ew al) e f ne =
      ne (ap (is_inside g.layout) (goes_same q m (sym e ∙ x)) ∙ i
      ∙ sym (ap (is_inside h.layout) (goes_same q' m' (sym f ∙ y)) ∙ j))
  never_apart cs p p' q q' (both_come m m' x y i j c) e f ne =
      ne (ap (is_inside g.layout) (goes_same q m (sym e ∙ x)) ∙ i
      ∙ sym (ap (is_inside h.layout) (goes_same q' m' (sym f ∙ y)) ∙ j))

  stays_alike : (cs : Calls) (p p' q q' : OState) → StepsAlike g h names cs p p'
      → overlay_step g.layout p ≡ goes q → overlay_step h.layout p' ≡ goes q'
      → is_inside g.layout q ≡ false → Alike g h names cs q q'
  stays_alike cs p p' q q' (both_halt x y) e f i = absurd (halts_not q (sym x ∙ e))
  stays_alike cs p p' q q' (both_fail x y) e f i = absurd (fails_not q (sym x ∙ e))
  stays_alike cs p p' q q' (both_stay m m' x y im jm ev ew al) e f i =
      subst (λ z. Alike g h names cs q z) (goes_same m' q' (sym y ∙ f))
      (subst (λ z. Alike g h names cs z m') (goes_same m q (sym x ∙ e)) al)
  stays_alike cs p p' q q' (both_come m m' x y im jm c) e f i =
      absurd (let bad : true ≡ false = sym im ∙ ap (is_inside g.layout) (goes_same m q (sym x ∙ e)) ∙ i in cc)

  pub comes_alike : (cs : Calls) (p p' q q' : OState) → StepsAlike g h names cs p p'
      → overlay_step g.layout p ≡ goes q → overlay_step h.layout p' ≡ goes q'
      → is_inside g.layout q ≡ true → ComesAlike g h names cs p q p' q'
  comes_alike cs p p' q q' (both_halt x y) e f i = absurd (halts_not q (sym x ∙ e))
  comes_alike cs p p' q q' (both_fail x y) e f i = absurd (fails_not q (sym x ∙ e))
  comes_alike cs p p' q q' (both_stay m m' x y im jm ev ew al) e f i =
      absurd (let bad : false ≡ true = sym im ∙ ap (is_inside g.layout) (goes_same m q (sym x ∙ e)) ∙ i in cc)
  comes_alike cs p p' q q' (both_come m m' x y im jm c) e f i =
      subst (λ z. ComesAlike g h names cs p q p' z) (goes_same m' q' (sym y ∙ f))
      (subst (λ z. ComesAlike g h names cs p z p' m') (goes_same m q (sym x ∙ e)) c)

  pub in_step : (n i j : ℕ) (cs : Calls) (p q p' q' : OState) (as_ bs : List Round) → Reached g.layout o i p
      → Reached h.layout o' j p' → is_inside g.layout p ≡ false → is_inside h.layout p' ≡ false
      → Alike g h names cs p p' → AreBelow cs p p' → Path g.layout n p as_ q → Path h.layout n p' bs q'
      → SameObserved g h names cs as_ bs → InStep g h names cs as_ bs q q'
  in_step _ i j cs p _ p' _ _ _ r r' io io' al below spec.ends spec.ends obs =
      at_end al (alike_step cs i j p p' r r' io io' al below)
  in_step _ i j cs p q p' q' _ _ r r' io io' al below (spec.outside {n = n} {q = m} x s u k)
      (spec.outside {q = m'} x' s' u' k') obs =
      let st = alike_step cs i j p p' r r' io io' al below in
      in_step n _ _ cs m q m' q' _ _ (goes_on r s) (goes_on r' s') u u' (stays_alike cs p p' m m' st s s' u)
      (below_later cs p p' m m' (step_rises g lg o hg i p m r s) (step_rises h lh o' hh j p' m' r' s') below)
      k k' obs
  in_step _ i j cs _ q _ q' _ _ r r' io io' al below (spec.inside {n = n} {rs = as_} a ia k)
      (spec.inside {rs = bs} b ib k') obs =
      let st = alike_step cs i j a.before b.before r r' io io' al below in
      let ra = after_a cs a b i j r r' ia ib below in
      let rb = after_b cs a b i j r r' ia ib below in
      let oa = runs_outside g o hg ra.0 a.after ra.1 ia.gone in
      let ob = runs_outside h o' hh rb.0 b.after rb.1 ib.gone in
      round a b
      (comes_alike cs a.before b.before a.entered b.entered st ia.comes ib.comes
      (first_inside g.layout a.entered a.last ia.until))
      obs.1
      (in_step n ra.0 rb.0 obs.0 a.after q b.after q' as_ bs ra.1 rb.1 ia.gone ib.gone
      (arrive_alike g h names lg lh cs a b oa ob al.seen.1 (tg i a r ia) (th j b r' ib) obs.2 obs.0 obs.1)
      (below_after cs a b i j r r' ia ib below obs.0 obs.1) k k' obs.3)
  in_step _ i j cs p q _ q' _ _ r r' io io' al below (spec.outside {q = m} x s u k) (spec.inside b ib k')
      obs =
      absurd (never_apart cs p b.before m b.entered
      (alike_step cs i j p b.before r r' io io' al below) s ib.comes
      (λ e. (let bad : false ≡ true = sym u ∙ e ∙ first_inside h.layout b.entered b.last ib.until in cc)))
  in_step _ i j cs _ q p' q' _ _ r r' io io' al below (spec.inside a ia k) (spec.outside {q = m'} x s u k')
      obs =
      absurd (never_apart cs a.before p' a.entered m'
      (alike_step cs i j a.before p' r r' io io' al below) ia.comes s
      (λ e. (let bad : true ≡ false = sym (first_inside g.layout a.entered a.last ia.until) ∙ e ∙ u in cc)))

pub run_in_step : RunInStep
run_in_step g h names lg lh o o' hg hh tg th n i j cs p q p' q' as_ bs r r' io io' al below k k' obs =
    in_step g h names lg lh o o' hg hh tg th n i j cs p q p' q' as_ bs r r' io io' al below k k' obs
