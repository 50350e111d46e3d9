-- The plain run with its count and end agrees with the overlay's, where their states do.
use Rattle.std.proofs.Common.{◌≡◌, inl, inr, ℕ, ◌+◌, ℤ, Option, Some, None, refl, sym, ap, subst, ◌∙◌, arith}
use Rattle.cap_words.specs.declared.Word.{Word}
use Rattle.lcm_isa.specs.declared.Reg.TheVariants.{A0}
use Rattle.lcm_machine.specs.declared.FailCause.{FailCause}
use Rattle.lcm_machine.specs.declared.End.{End}
use Rattle.lcm_machine.specs.declared.End.TheVariants.{Halted, Failed}
use Rattle.lcm_machine.specs.Maps.{State}
use Rattle.lcm_machine.specs.Places.{reg}
use Rattle.lcm_machine.specs.Row.{Outcome, went, halted, failed, step_of}
use Rattle.lcm_machine.specs.Run.{Run, moved, next_state, plain, fresh, EndsAs}
use Rattle.lcm_machine.proofs.Offers.{plain_more, plain_ends}
use Rattle.linked_starts.specs.Started.{StartSeen}
use Rattle.trusted_border.specs.declared.layout.Layout.{Layout}
use Rattle.overlay_machine.specs.State.{OState}
use Rattle.overlay_machine.specs.Step.{halts, overlay_step, weight_of}
use Rattle.overlay_machine.specs.Flat.{IsFlat}
use Rattle.overlay_machine.specs.Runs.{plain_run, HaltsBehind, FailsBehind, RunsAgree}
use Rattle.overlay_machine.specs.Starting.{overlay_at}
use Rattle.run_lines.specs.Layout.{layout}
use Rattle.run_lines.specs.Views.{flat_view}
use Rattle.run_lines.specs.Cuts.{Matched, cut_overlay}
use Rattle.headline.specs.Headline.{OverlayHalts, OverlayFails, PlainEnds, WithinStep, Agrees}
use Rattle.run_lines.proofs.Offers.{stops_are_cuts, of_cut}

-- the machine after n instructions that went, and the next one
abbrev pub gone : State Word → ℕ → Run
gone u n = record { maps = u; count = n; end = None }

ended_none : (e : End) (o : Option End) → o ≡ Some e → o ≡ None → ⊥
ended_none e o h k = let bad : Some e ≡ None = sym h ∙ k in cc

module _ (t : State Word) where
  at_state : (n : ℕ) (u : State Word) → plain_run n t ≡ went u → plain n (fresh t) ≡ gone u n
  at_state n u e = subst (λ o. EndsAs n o (plain n (fresh t))) e (plain_ends n t)

  -- what has not ended has gone on
  pub has_gone : (n : ℕ) → (plain n (fresh t)).end ≡ None → (u : State Word) × (plain_run n t ≡ went u)
  has_gone n h = by_outcome (plain_run n t) refl (plain_ends n t)
    where
      by_outcome : (o : Outcome Word) → plain_run n t ≡ o → EndsAs n o (plain n (fresh t))
          → (u : State Word) × (plain_run n t ≡ went u)
      by_outcome (went u) e k = (u, e)
      by_outcome halted e k = absurd (ended_none Halted (plain n (fresh t)).end k h)
      by_outcome (failed c at) e k = absurd (ended_none (Failed c at) (plain n (fresh t)).end k h)

  next_is : (n : ℕ) (u : State Word) → plain_run n t ≡ went u
      → plain (n + 1) (fresh t) ≡ moved (step_of (λ w. w) (λ w. w) u) (gone u n)
  unfolding next_state
  next_is n u e = plain_more n (fresh t) ∙ ap next_state (at_state n u e)

  halts_there : (n : ℕ) → HaltsBehind n t
      → ((plain n (fresh t)).end ≡ None) × ((plain (n + 1) (fresh t)).end ≡ Some Halted)
  halts_there n (u, e, h) = (
    ap (λ (r : Run). r.end) (at_state n u e),
    ap (λ (r : Run). r.end) (next_is n u e ∙ ap (λ o. moved o (gone u n)) h),
  )

  there_halts : (n : ℕ) → (plain n (fresh t)).end ≡ None → (plain (n + 1) (fresh t)).end ≡ Some Halted
      → HaltsBehind n t
  there_halts n goes ends =
      let k = has_gone n goes in (
        k.0,
        k.1,
        by_step k.0 (step_of (λ w. w) (λ w. w) k.0)
            refl (sym (ap (λ (r : Run). r.end) (next_is n k.0 k.1)) ∙ ends),
      )
    where
      by_step : (u : State Word) → (o : Outcome Word) → step_of (λ w. w) (λ w. w) u ≡ o
          → (moved (step_of (λ w. w) (λ w. w) u) (gone u n)).end ≡ Some Halted
          → step_of (λ w. w) (λ w. w) u ≡ halted
      by_step u (went v) e h =
          absurd (let bad : None ≡ Some Halted = sym (ap (λ o. (moved o (gone u n)).end) e) ∙ h in cc)
      by_step u halted e h = e
      by_step u (failed c at) e h =
          absurd (let bad : Some (Failed c at) ≡ Some Halted =
          sym (ap (λ o. (moved o (gone u n)).end) e) ∙ h in cc)

  fails_there : (n : ℕ) → FailsBehind n t
      → (cause : FailCause) × (at : ℤ) × ((plain n (fresh t)).end ≡ None)
      × ((plain (n + 1) (fresh t)).end ≡ Some (Failed cause at))
  fails_there n (u, cause, at, e, h) = (
    cause,
    at,
    ap (λ (r : Run). r.end) (at_state n u e),
    ap (λ (r : Run). r.end) (next_is n u e ∙ ap (λ o. moved o (gone u n)) h),
  )

  there_fails : (n : ℕ) (cause : FailCause) (at : ℤ) → (plain n (fresh t)).end ≡ None
      → (plain (n + 1) (fresh t)).end ≡ Some (Failed cause at) → FailsBehind n t
  there_fails n cause at goes ends =
      let k = has_gone n goes in
      let f = by_step k.0 (step_of (λ w. w) (λ w. w) k.0)
      refl (sym (ap (λ (r : Run). r.end) (next_is n k.0 k.1)) ∙ ends) in
      (k.0, f.0, f.1, k.1, f.2)
    where
      by_step : (u : State Word) → (o : Outcome Word) → step_of (λ w. w) (λ w. w) u ≡ o
          → (moved (step_of (λ w. w) (λ w. w) u) (gone u n)).end ≡ Some (Failed cause at)
          → (c : FailCause) × (a : ℤ) × (step_of (λ w. w) (λ w. w) u ≡ failed c a)
      by_step u (went v) e h =
          absurd (let bad : None ≡ Some (Failed cause at) =
          sym (ap (λ o. (moved o (gone u n)).end) e) ∙ h in cc)
      by_step u halted e h =
          absurd (let bad : Some Halted ≡ Some (Failed cause at) =
          sym (ap (λ o. (moved o (gone u n)).end) e) ∙ h in cc)
      by_step u (failed c a) e h = (c, a, e)

-- ---- of a start

-- a step of the overlay that halts stands for one instruction
abbrev pub HaltsAlone : Type 0
HaltsAlone = (l : Layout) (o : OState) → overlay_step l o ≡ halts → weight_of l o ≡ 1

module _ (s : StartSeen) (is : s.state ≡ fresh s.state.maps) (alone : HaltsAlone)
    (runs : RunsAgree (layout s) (overlay_at s).state s.state.maps) where
  end_is : (n : ℕ) → (plain n s.state).end ≡ (plain n (fresh s.state.maps)).end
  end_is n = ap (λ (r : Run). (plain n r).end) is

  pub state_is : (n : ℕ) (u : State Word) → plain_run n s.state.maps ≡ went u → plain n s.state ≡ gone u n
  state_is n u e = ap (plain n) is ∙ at_state s.state.maps n u e

  ends_is : (n : ℕ) (e : End) → (plain n (fresh s.state.maps)).end ≡ None
      → (plain (n + 1) (fresh s.state.maps)).end ≡ Some e → PlainEnds s n e
  ends_is n e goes ends = record { goes = end_is n ∙ goes; ends = end_is (n + 1) ∙ ends }

  matched_is : (j : ℕ) (p : OState) → Matched s j p
      → ((plain j s.state).end ≡ None) × IsFlat (layout s) p (plain j s.state).maps
  matched_is j p m =
      let k = runs.matched j p m in
      let here = state_is j k.0 k.1 in
      (ap (λ (r : Run). r.end) here, subst (λ (r : Run). IsFlat (layout s) p r.maps) (sym here) k.2)

  alike_is : (n : ℕ) (p : OState) → Matched s n p → OverlayHalts s p
      → (weight_of (layout s) p ≡ 1)
      × (reg (plain (n + 1) s.state).maps.regs A0 ≡ (flat_view (layout s) p).reg A0)
  alike_is n p m h =
      let b = runs.overlay_halts n p m h in
      let u = b.0 in
      let next : plain (n + 1) s.state ≡ moved halted (gone u n) =
      ap (plain (n + 1)) is ∙ next_is s.state.maps n u b.1 ∙ ap (λ o. moved o (gone u n)) b.2 in
      let flat : IsFlat (layout s) p u =
      subst (λ (r : Run). IsFlat (layout s) p r.maps) (state_is n u b.1) (matched_is n p m).1 in
      (alone (layout s) p h, ap (λ (r : Run). reg r.maps.regs A0) next ∙ flat.regs A0)

  pub agrees : Agrees s
  agrees = record {
    matched = matched_is;
    halts = λ n. (
      λ e. (let k = runs.plain_halts n
          (there_halts s.state.maps n (sym (end_is n) ∙ e.goes) (sym (end_is (n + 1)) ∙ e.ends)) in
          subst (λ p. Matched s n p × OverlayHalts s p)
          (sym (stops_are_cuts s n n k.0 k.1 (omega arith, inr (inl k.2))).1) (k.1, k.2)),
      λ k. (let e = halts_there s.state.maps n (runs.overlay_halts n (cut_overlay s n) k.0 k.1) in
          ends_is n Halted e.0 e.1),
    );
    alike = alike_is;
    plain_fails =
        λ n cause at e.
        (let k = runs.plain_fails n
        (there_fails s.state.maps n cause at (sym (end_is n) ∙ e.goes) (sym (end_is (n + 1)) ∙ e.ends)) in
        of_cut s n k.0 k.1 k.2 (k.3, inl k.4) (λ j p. WithinStep s n j p × OverlayFails s p)
        ((k.2, k.3, k.4), k.5));
    overlay_fails =
        λ j p m h. (let k = runs.overlay_fails j p m h in let e = fails_there s.state.maps k.0 k.3 in
        (k.0, e.0, e.1, (m, k.1, k.2), ends_is k.0 (Failed e.0 e.1) e.2 e.3));
    goes = λ n e.
        (let u = has_gone s.state.maps n (sym (end_is n) ∙ e) in let k =
        runs.plain_goes n u.0 u.1 in
        of_cut s n k.0 k.1 k.2 (k.3, inl k.4) (λ j p. WithinStep s n j p) (k.2, k.3, k.4));
  }

-- the machine of a start has made no step, and hasn't ended
pub start_fresh : (s : StartSeen) → s.state.count ≡ 0 → s.state.end ≡ None → s.state ≡ fresh s.state.maps
start_fresh s count end = λ i. record { maps = s.state.maps; count = count i; end = end i }
