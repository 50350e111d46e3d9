-- The lines that a trace writes are those of the steps that it makes, up to where it is to stop.
use Rattle.std.proofs.Common.{◌≡◌, inl, inr, ℕ, zero, suc, ◌+◌, ◌<◌, ◌≤◌, Bool, true, false, List, [], ◌++◌}
use Rattle.std.proofs.Common.{Option, Some, None, refl, sym, ap, ◌∙◌, arith, subst}
use Rattle.std.specs.Prelude.{nat_lt, if◌then◌else◌}
use Rattle.std.proofs.lemmas.Bool.{ltb-true, ltb-false}
use Rattle.std.proofs.lemmas.List.{append_assoc, append-nil}
use Rattle.trusted_border.specs.declared.layout.Layout.{Layout}
use Rattle.overlay_machine.proofs.Offers.{weight_some}
use Rattle.overlay_machine.specs.declared.overlay.OStep.{OStep}
use Rattle.overlay_machine.specs.declared.overlay.OStep.TheVariants.{Went, Halted, Failed}
use Rattle.overlay_machine.specs.declared.overlay.OEnd.{OEnd}
use Rattle.overlay_machine.specs.declared.overlay.OEnd.TheVariants.{Halted as AtHalt, Failed as AtFailure}
use Rattle.overlay_machine.specs.State.{OState}
use Rattle.overlay_machine.specs.Step.{Ending, goes, halts, fails, overlay_step, weight_of}
use Rattle.overlay_machine.specs.Events.{step_event}
use Rattle.overlay_machine.specs.Seen.{OverlaySeen, moved, next_by, next_overlay, ending_answer, answer_by}
use Rattle.overlay_machine.specs.Seen.{answer_of}
use Rattle.run_lines.specs.declared.run.RunEnd.TheVariants.{Halted as RunHalted, Failed as RunFailed}
use Rattle.run_lines.specs.Views.{overlay_view}
use Rattle.run_lines.specs.Lines.{Line}
use Rattle.run_lines.specs.EndLines.{halted_text, failed_text}
use Rattle.run_lines.specs.Traces.{weight_with, lines_after, Traced, ended, behind, stopped, traced_by}
use Rattle.run_lines.specs.Traces.{traced, trace_of}
use Rattle.run_lines.specs.Told.{step_lines, Told, none_yet, and_then, EndsOverlay, StopsAt, TracesSteps}

-- one run after another
told_then : (l : Layout) (o p q : OState) (j k : ℕ) (ls ms : List Line) → Told l o j ls p → Told l p k ms q
    → Told l o (j + k) (ls ++ ms) q
told_then l o p _ j _ ls _ h none_yet =
    let at : j ≡ j + 0 = omega arith in
    subst (λ i. Told l o i (ls ++ []) p) at (subst (λ x. Told l o j x p) (sym (append-nil ls)) h)
told_then l o p q j _ ls _ h (and_then {j = k} {ls = ms} {p = r} more e) =
    let t = told_then l o p r j k ls ms h more in
    let at : (j + k) + weight_of l r ≡ j + (k + weight_of l r) = omega arith in
    subst (λ i. Told l o i (ls ++ (ms ++ step_lines l r q)) q)
    at (subst (λ x. Told l o ((j + k) + weight_of l r) x q) (append_assoc ls ms (step_lines l r q))
    (and_then t e))

-- what a step of a seen overlay is
pub data StepIs (o : OverlaySeen) : OStep → OverlaySeen → Type 0 where
  it_went : (q : OState) → overlay_step o.layout o.state ≡ goes q
      → StepIs o (Went (step_event o.layout o.state q))
      (record o { state = q; weight = o.weight + weight_of o.layout o.state })
  it_halted : (p : OverlaySeen) → p.state ≡ o.state → (o.end ≡ None → EndsOverlay o.layout o.state)
      → StepIs o Halted p
  it_failed : (p : OverlaySeen) → p.state ≡ o.state → (o.end ≡ None → EndsOverlay o.layout o.state)
      → StepIs o Failed p

by_ending : (o : OverlaySeen) (e : Ending) → overlay_step o.layout o.state ≡ e
    → StepIs o (ending_answer o e) (moved e o)
by_ending o (goes q) h = it_went q h
by_ending o halts h = it_halted _ refl (λ _. inl h)
by_ending o fails h = it_failed _ refl (λ _. inr h)

by_end : (o : OverlaySeen) (e : Option OEnd) → o.end ≡ e → StepIs o (answer_by e o) (next_by e o)
by_end o None h = by_ending o (overlay_step o.layout o.state) refl
by_end o (Some AtHalt) h =
    it_halted o refl (λ none. absurd (let bad : None ≡ Some AtHalt = sym none ∙ h in cc))
by_end o (Some AtFailure) h =
    it_failed o refl (λ none. absurd (let bad : None ≡ Some AtFailure = sym none ∙ h in cc))

pub step_is : (o : OverlaySeen) → StepIs o (answer_of o) (next_overlay o)
unfolding answer_of next_overlay
step_is o = by_end o o.end refl

-- A trace is told from an overlay's state, on this layout; and where there are steps enough for the limit, it
-- stops where it is to.
abbrev pub ToldFrom : Layout → ℕ → ℕ → OverlaySeen → Traced → Type 0
ToldFrom l limit n o t =
    (j : ℕ) × Told l o.state j t.lines t.overlay.state
    × (o.end ≡ None → o.weight ≤ limit → limit < o.weight + n
    → StopsAt l limit (o.weight + j) t.overlay.state)

stays_told : (l : Layout) (limit n : ℕ) (o p : OverlaySeen) → o.layout ≡ l → p.state ≡ o.state
    → (o.end ≡ None → EndsOverlay o.layout o.state)
    → (j : ℕ) × Told l o.state j [] p.state
    × (o.end ≡ None → o.weight ≤ limit → limit < o.weight + n → StopsAt l limit (o.weight + j) p.state)
stays_told l limit n o p same e ends = (
  0,
  subst (λ y. Told l o.state 0 [] y) (sym e) none_yet,
  λ none low high. (
    omega (arith, low),
    inr
        (subst (λ y. EndsOverlay y p.state) same (subst (λ y. EndsOverlay o.layout y) (sym e) (ends none))),
  ),
)

-- `traced_by`, with the next overlay beside
abbrev pub traced_with : OStep → OverlaySeen → OverlaySeen → (OverlaySeen → Traced) → Traced
traced_with (Went event) o next more = behind (lines_after next event) (more next)
traced_with Halted o next more = ended RunHalted o.weight next
    (halted_text (overlay_view next) (weight_with o))
traced_with Failed o next more = ended RunFailed o.weight next (failed_text (overlay_view next) o.weight)

pub with_next : (a : OStep) (o : OverlaySeen) (more : OverlaySeen → Traced)
    → traced_by a o more ≡ traced_with a o (next_overlay o) more
with_next (Went event) o more = refl
with_next Halted o more = refl
with_next Failed o more = refl

told_with : (l : Layout) (limit n : ℕ) (o : OverlaySeen) (a : OStep) (next : OverlaySeen) → o.layout ≡ l
    → weight_with o ≤ limit → StepIs o a next
    → ((p : OverlaySeen) → p.layout ≡ l → ToldFrom l limit n p (traced limit n p))
    → ToldFrom l limit (suc n) o (traced_with a o next (traced limit n))
told_with l limit n o _ _ same within (it_went q e) h =
    let p : OverlaySeen = record o { state = q; weight = o.weight + weight_of o.layout o.state } in
    let first : Told l o.state (0 + weight_of l o.state) ([] ++ step_lines l o.state q) q =
    and_then none_yet (ap (λ y. overlay_step y o.state) (sym same) ∙ e) in
    let t = h p same in
    let lines : step_lines l o.state q ≡ lines_after p (step_event o.layout o.state q) =
    ap (λ y. step_lines y o.state q) (sym same) in
    let k = told_then l o.state q (traced limit n p).overlay.state (0 + weight_of l o.state)
    t.0 (step_lines l o.state q) (traced limit n p).lines first t.1 in
    let w : weight_of l o.state ≡ weight_of o.layout o.state = ap (λ y. weight_of y o.state) (sym same) in
    let some = weight_some o.layout o.state in
    let at : (o.weight + weight_of o.layout o.state) + t.0 ≡ o.weight + ((0 + weight_of l o.state) + t.0) =
    omega (arith, w) in (
      (0 + weight_of l o.state) + t.0,
      subst (λ y. Told l o.state ((0 + weight_of l o.state) + t.0) (y ++ (traced limit n p).lines)
          (traced limit n p).overlay.state) lines k,
      λ none low high. subst (λ i. StopsAt l limit i (traced limit n p).overlay.state)
          at (t.2 none within (omega (arith, high, some))),
    )
told_with l limit n o _ _ same within (it_halted p e ends) h = stays_told l limit (suc n) o p same e ends
told_with l limit n o _ _ same within (it_failed p e ends) h = stays_told l limit (suc n) o p same e ends

told_by_limit : (l : Layout) (limit n : ℕ) (o : OverlaySeen) (b : Bool) → nat_lt limit (weight_with o) ≡ b
    → o.layout ≡ l → ((p : OverlaySeen) → p.layout ≡ l → ToldFrom l limit n p (traced limit n p))
    → ToldFrom l limit (suc n) o (if b then stopped o else traced_by (answer_of o) o (traced limit n))
told_by_limit l limit n o true over same more =
    let past = ltb-true limit (weight_with o) over in
    let w : weight_of l o.state ≡ weight_of o.layout o.state = ap (λ y. weight_of y o.state) (sym same) in
    (0, none_yet, λ none low high. (omega (arith, low), inl (omega (arith, past, w))))
told_by_limit l limit n o false over same more =
    subst (ToldFrom l limit (suc n) o) (sym (with_next (answer_of o) o (traced limit n)))
    (told_with l limit n o (answer_of o) (next_overlay o) same (ltb-false limit (weight_with o) over)
    (step_is o) more)

pub traced_told : (l : Layout) (limit n : ℕ) (o : OverlaySeen) → o.layout ≡ l
    → ToldFrom l limit n o (traced limit n o)
traced_told l limit zero o same = (0, none_yet, λ none low high. absurd (omega (arith, low, high)))
traced_told l limit (suc n) o same =
    told_by_limit l limit n o (nat_lt limit (weight_with o)) refl same (λ p e. traced_told l limit n p e)

pub trace_stands : (o : OverlaySeen) → TracesSteps o
trace_stands o none unmoved limit =
    let t = traced_told o.layout limit (limit + 1) o refl in
    let at : o.weight + t.0 ≡ t.0 = omega (arith, unmoved) in (
      t.0,
      t.1,
      subst (λ i. StopsAt o.layout limit i (trace_of limit o).overlay.state)
          at (t.2 none (omega (arith, unmoved)) (omega (arith, unmoved))),
    )
