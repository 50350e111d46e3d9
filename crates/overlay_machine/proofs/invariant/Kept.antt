-- The invariant is kept by every step that goes, and a step is as many plain ones as it weighs.
use Rattle.std.proofs.Common.{◌≡◌, ◌≢◌, ℕ, false, refl, inl, inr}
use Rattle.cap_words.specs.declared.Word.{Word}
use Rattle.lcm_isa.specs.declared.Reg.{Reg}
use Rattle.lcm_isa.specs.declared.Reg.TheVariants.{Dat}
use Rattle.lcm_machine.specs.Maps.{State}
use Rattle.lcm_machine.specs.Places.{reg}
use Rattle.lcm_machine.specs.Table.{is_pc}
use Rattle.lcm_machine.specs.Row.{Outcome, went, halted, failed}
use Rattle.lcm_machine.specs.Runs.{run_of}
use Rattle.lcm_machine.specs.Regions.{StaysHeldOnce}
use Rattle.lcm_machine.proofs.Offers.{run_stays}
use Rattle.overlay_machine.specs.declared.cases.Case.{Case}
use Rattle.overlay_machine.specs.declared.cases.Case.TheVariants.{Call, Entry, Back, Other}
use Rattle.overlay_machine.specs.State.{OState}
use Rattle.overlay_machine.specs.Step.{Ending, goes, halts, fails, case_of, step_by, overlay_step, weight_of}
use Rattle.overlay_machine.specs.Agree.{EndsAgree, ReadyFor}
use Rattle.overlay_machine.specs.Link.{Link, regions}
use Rattle.overlay_machine.specs.Linked.{IsLink}
use Rattle.overlay_machine.specs.Safe.{IsSafe}
use Rattle.overlay_machine.specs.Invariant.{Invariant, KeepsAgreeing}
use Rattle.overlay_machine.proofs.OneStep.{one_step}
use Rattle.overlay_machine.proofs.invariant.View.{View, at_site, in_part, out, view}
use Rattle.overlay_machine.proofs.invariant.Glue.{glue_shows}
use Rattle.overlay_machine.proofs.invariant.Ready.{ready, looks, fetched_case}
use Rattle.overlay_machine.proofs.invariant.Standing.{Stand, whole}
use Rattle.overlay_machine.proofs.invariant.OtherKept.{other_kept}
use Rattle.overlay_machine.proofs.invariant.EntryKept.{entry_kept, never_call}
use Rattle.overlay_machine.proofs.invariant.ReturnKept.{returned, return_kept}
use Rattle.overlay_machine.proofs.invariant.CallKept.{called, call_kept}

module _ (g : Link) (linked : IsLink g) (o : OState) (t : State Word) (inv : Invariant g o t) where
  abbrev Shown : Type 0
  Shown = (d : Reg) → is_pc d ≡ false → d ≢ Dat → IsSafe g o.frames (reg o.maps.regs d)

  shown : (r1 r2 : Reg) → View g o.frames o.maps (Back r1 r2) → Shown
  shown r1 r2 (out h c) = λ d p ne. h d
  shown r1 r2 (in_part p off ip ne ns at c) = elim (fetched_case o.maps _ (Back r1 r2) c) as (λ _. Shown) [
    | inl e ↦ absurd (not_other e)
    | inr e ↦
        (glue_shows g linked o.frames o.maps p ip (inv.code p ip) inv.cells off at ne ns e.0 e.1 e.2 e.4).0
  ]
    where
      not_other : Back r1 r2 ≡ Other → ⊥
      not_other e = cc

  call_stands : (i : ℕ) (q : OState) → View g o.frames o.maps (Call i) → step_by g.layout (Call i) o ≡ goes q
      → Stand g q
  call_stands i q (at_site p index u ip eu st at) e =
      call_kept g linked o t inv i p index u ip eu st at q (called g.layout i o q e)
  call_stands i q (in_part p off ip ne ns at c) e = absurd (never_call o.maps _ i c)
  call_stands i q (out h c) e = absurd (never_call o.maps _ i c)

  by_case : (c : Case) → View g o.frames o.maps c → ReadyFor g.layout o c → (q : OState)
      → step_by g.layout c o ≡ goes q → Stand g q
  by_case (Call i) v r q e = call_stands i q v e
  by_case (Entry a) v r q e = entry_kept g linked o t inv a q v e
  by_case (Back r1 r2) v r q e =
      return_kept g linked o t inv r1 r2 q (returned g.layout r1 r2 o q e) r (shown r1 r2 v)
  by_case Other v r q e = other_kept g linked o t inv q v e

  -- what stands after a step that goes
  pub stands_after : (q : OState) → overlay_step g.layout o ≡ goes q → Stand g q
  unfolding overlay_step
  stands_after q e = by_case (case_of g.layout o.maps) (view g linked o.frames o.maps inv.code inv.pc)
      (ready g linked o t inv) q e

  once_after : (u : State Word) → run_of (λ w. w) (λ w. w) (weight_of g.layout o) t ≡ went u
      → StaysHeldOnce (λ w. w) t u
  once_after u e = run_stays (λ w. w) (λ w. w) (λ x. refl) (weight_of g.layout o) t u e

  by_ends : (e : Ending) (r : Outcome Word) → overlay_step g.layout o ≡ e
      → run_of (λ w. w) (λ w. w) (weight_of g.layout o) t ≡ r → EndsAgree g.layout e r → KeepsAgreeing g e r
  unfolding StaysHeldOnce
  by_ends (goes q) (went u) ee er a =
      whole g q u (stands_after q ee) a.0 a.1 (once_after u er (regions g) linked.apart inv.once)
  by_ends halts halted ee er a = tt
  by_ends fails (failed c at) ee er a = tt
  by_ends (goes q) halted ee er a = absurd a
  by_ends (goes q) (failed c at) ee er a = absurd a
  by_ends halts (went u) ee er a = absurd a
  by_ends halts (failed c at) ee er a = absurd a
  by_ends fails (went u) ee er a = absurd a
  by_ends fails halted ee er a = absurd a

  pub kept : KeepsAgreeing g (overlay_step g.layout o) (run_of (λ w. w) (λ w. w) (weight_of g.layout o) t)
  kept = by_ends _ _ refl refl
      (one_step g.layout o t (ready g linked o t inv) inv.flat (looks g linked o t inv))
