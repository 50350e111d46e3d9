-- What is observed of the plain run is observed of the overlay's, and the other way round.
use Rattle.std.proofs.Common.{◌≡◌, inl, inr, ℕ, ◌+◌, ◌<◌, ◌≤◌, Option, Some, None, refl, sym, ap, ◌∙◌, subst}
use Rattle.std.proofs.Common.{arith}
use Rattle.lcm_machine.specs.declared.End.{End}
use Rattle.lcm_machine.specs.declared.End.TheVariants.{Halted, Failed}
use Rattle.lcm_machine.specs.Run.{Run, plain}
use Rattle.lcm_machine.proofs.Offers.{plain_ended}
use Rattle.linked_starts.specs.Started.{StartSeen}
use Rattle.overlay_machine.specs.State.{OState}
use Rattle.overlay_machine.specs.Step.{Ending, goes, halts, fails, overlay_step, weight_of}
use Rattle.overlay_machine.specs.Runs.{Reached}
use Rattle.run_lines.specs.Layout.{layout}
use Rattle.run_lines.specs.Cuts.{Matched, cut, cut_overlay, StopsAreCuts}
use Rattle.headline.specs.Headline.{OverlayHalts, PlainEnds, Agrees}
use Rattle.full_abstraction.specs.Contexts.{Observation, halting, halting_with, failing, running, OnPlain}
use Rattle.full_abstraction.specs.Contexts.{OnOverlay}

-- a run that hasn't ended hasn't ended before
earlier : (r : Run) (n j : ℕ) → n ≤ j → (plain j r).end ≡ None → (plain n r).end ≡ None
earlier r n j le none = by (plain n r).end refl
  where
    by : (o : Option End) → (plain n r).end ≡ o → o ≡ None
    by None e = refl
    by (Some x) e =
        absurd (let z : Some x ≡ None =
        sym e ∙ ap (λ (t : Run). t.end) (sym (plain_ended j n r x le e)) ∙ none in cc)

module _ (stops : StopsAreCuts) (s : StartSeen) (agree : Agrees s) where
  -- where the overlay halts at a matched point, the plain run halts there
  halts_too : (n : ℕ) (p : OState) → Matched s n p → OverlayHalts s p → PlainEnds s n Halted
  halts_too n p m h =
      let same : cut_overlay s n ≡ p = (stops s n n p m (omega arith, inr (inl h))).1 in
      (agree.halts n).1 (subst (λ q. Matched s n q × OverlayHalts s q) (sym same) (m, h))

  pub on_overlay : (seen : Observation) → OnPlain s seen → OnOverlay s seen
  on_overlay halting (n, e) = let k = (agree.halts n).0 e in (n, cut_overlay s n, k.0, k.1)
  on_overlay (halting_with w) (n, e, a) =
      let k = (agree.halts n).0 e in
      (n, cut_overlay s n, k.0, k.1, sym (agree.alike n (cut_overlay s n) k.0 k.1).1 ∙ a)
  on_overlay failing (n, cause, at, e) =
      let k = agree.plain_fails n cause at e in
      ((cut s n).at, cut_overlay s n, (k.0).0, k.1)
  on_overlay running goes_on =
      λ n. (let k = agree.goes n (goes_on n) in
      let p = cut_overlay s n in
      by n (cut s n).at p k.0 k.2 (overlay_step (layout s) p) refl)
    where
      never : (n : ℕ) (e : End) → PlainEnds s n e → ⊥
      never n e h = let z : None ≡ Some e = sym (goes_on (n + 1)) ∙ h.ends in cc

      by : (n at : ℕ) (p : OState) → Matched s at p → n < at + weight_of (layout s) p → (e : Ending)
          → overlay_step (layout s) p ≡ e → (j : ℕ) × (q : OState) × (n ≤ j) × Matched s j q
      by n at p m lt (goes q) e =
          (at + weight_of (layout s) p, q, omega (arith, lt), Reached.goes_on m e)
      by n at p m lt halts e = absurd (never at Halted (halts_too at p m e))
      by n at p m lt fails e =
          let k = agree.overlay_fails at p m e in
          absurd (never k.0 (Failed k.1 k.2) k.4)

  pub on_plain : (seen : Observation) → OnOverlay s seen → OnPlain s seen
  on_plain halting (n, p, m, h) = (n, halts_too n p m h)
  on_plain (halting_with w) (n, p, m, h, a) = (n, halts_too n p m h, (agree.alike n p m h).1 ∙ a)
  on_plain failing (n, p, m, h) = let k = agree.overlay_fails n p m h in (k.0, k.1, k.2, k.4)
  on_plain running reaches =
      λ n. (let k = reaches n in earlier s.state n k.0 k.2 (agree.matched k.0 k.1 k.3).0)
