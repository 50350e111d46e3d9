-- Where steps lead that stop at a limit, there is the cut point.
use Rattle.std.proofs.Common.{◌≡◌, inl, inr, ℕ, zero, suc, ◌+◌, ◌≤◌, ◌<◌, Bool, true, false, None, refl}
use Rattle.std.proofs.Common.{sym, ap, ◌∙◌, arith, subst}
use Rattle.std.specs.Prelude.{nat_lt, if◌then◌else◌}
use Rattle.std.proofs.lemmas.Bool.{le-ltb, lt-ltb}
use Rattle.linked_starts.specs.Started.{StartSeen}
use Rattle.overlay_machine.specs.declared.overlay.OStep.{OStep}
use Rattle.overlay_machine.specs.State.{OState}
use Rattle.overlay_machine.specs.Step.{goes, halts, fails, overlay_step, weight_of}
use Rattle.overlay_machine.specs.Runs.{begins, goes_on}
use Rattle.overlay_machine.specs.Seen.{OverlaySeen, next_overlay, answer_of, moved, ending_answer}
use Rattle.overlay_machine.specs.Starting.{overlay_at}
use Rattle.overlay_machine.proofs.Offers.{weight_some}
use Rattle.run_lines.specs.Layout.{layout}
use Rattle.run_lines.specs.Told.{StopsAt, EndsOverlay}
use Rattle.run_lines.specs.Traces.{weight_with, Traced, stopped, traced_by, traced}
use Rattle.run_lines.specs.Cuts.{Matched, cut, cut_overlay, is_inside, weighed, trusted_by, trusted_in, Leads}
use Rattle.run_lines.specs.Cuts.{no_step, and_step, CutsAreGreatest, StopsAreCuts}
use Rattle.run_lines.proofs.TraceTold.{StepIs, it_went, it_halted, it_failed, step_is, traced_with}
use Rattle.run_lines.proofs.TraceTold.{with_next}

module _ (s : StartSeen) (limit : ℕ) where
  -- the overlay of the start, moved on
  abbrev on : OState → ℕ → OverlaySeen
  on p j = record (overlay_at s) { state = p; weight = j }

  -- a run stops here, and no weight of it is trusted code's
  record Here (j : ℕ) (p : OState) (t : Traced) (n : ℕ) : Type 0 where
    at : t.at ≡ j
    state : t.overlay.state ≡ p
    trusted : n ≡ 0

  -- ---- where a run is to stop it stays

  here_by : (o : OverlaySeen) (a : OStep) (next : OverlaySeen) (more : OverlaySeen → Traced) (n : ℕ)
      → EndsOverlay o.layout o.state → o.end ≡ None → StepIs o a next
      → Here o.weight o.state (traced_with a o next more) (trusted_by a o n)
  here_by o _ _ more n (inl ends) none (it_went q e) = absurd (let z : goes q ≡ halts = sym e ∙ ends in cc)
  here_by o _ _ more n (inr ends) none (it_went q e) = absurd (let z : goes q ≡ fails = sym e ∙ ends in cc)
  here_by o _ _ more n ends none (it_halted p e k) = record { at = refl; state = e; trusted = refl }
  here_by o _ _ more n ends none (it_failed p e k) = record { at = refl; state = e; trusted = refl }

  here_if : (o : OverlaySeen) (b : Bool) (more : OverlaySeen → Traced) (n : ℕ)
      → EndsOverlay o.layout o.state → o.end ≡ None
      → Here o.weight o.state (if b then stopped o else traced_by (answer_of o) o more)
      (if b then 0 else trusted_by (answer_of o) o n)
  here_if o true more n ends none = record { at = refl; state = refl; trusted = refl }
  here_if o false more n ends none =
      subst (λ t. Here o.weight o.state t (trusted_by (answer_of o) o n))
      (sym (with_next (answer_of o) o more))
      (here_by o (answer_of o) (next_overlay o) more n ends none (step_is o))

  stays : (n j : ℕ) (p : OState) → StopsAt (layout s) limit j p
      → Here j p (traced limit n (on p j)) (trusted_in limit n (on p j))
  stays zero j p stop = record { at = refl; state = refl; trusted = refl }
  stays (suc n) j p (within, inl past) =
      let o = on p j in
      let over : nat_lt limit (weight_with o) ≡ true = lt-ltb limit (weight_with o) past in
      subst (λ b. Here j p (if b then stopped o else traced_by (answer_of o) o (traced limit n))
      (if b then 0 else trusted_by (answer_of o) o (trusted_in limit n (next_overlay o)))) (sym over)
      (record { at = refl; state = refl; trusted = refl })
  stays (suc n) j p (within, inr ends) =
      let o = on p j in
      here_if o (nat_lt limit (weight_with o)) (traced limit n)
      (trusted_in limit n (next_overlay o)) ends refl

  -- ---- a run passes each point within the limit to which steps lead

  -- from the start on, with n steps at most; after it m are left
  record Passes (n m j t : ℕ) (p : OState) : Type 0 where
    enough : limit < j + m
    at : (traced limit n (on (overlay_at s).state 0)).at ≡ (traced limit m (on p j)).at
    state : (traced limit n (on (overlay_at s).state 0)).overlay.state
        ≡ (traced limit m (on p j)).overlay.state
    trusted : trusted_in limit n (on (overlay_at s).state 0) ≡ t + trusted_in limit m (on p j)

  -- the step after it
  step_goes : (p q : OState) (j m : ℕ) → overlay_step (layout s) p ≡ goes q
      → j + weight_of (layout s) p ≤ limit
      → ((traced limit (suc m) (on p j)).at ≡ (traced limit m (on q (j + weight_of (layout s) p))).at)
      × ((traced limit (suc m) (on p j)).overlay.state
      ≡ (traced limit m (on q (j + weight_of (layout s) p))).overlay.state)
      × (trusted_in limit (suc m) (on p j)
      ≡ weighed (is_inside (layout s) p) (weight_of (layout s) p)
      + trusted_in limit m (on q (j + weight_of (layout s) p)))
  unfolding answer_of next_overlay
  step_goes p q j m e within =
      let o = on p j in
      let fits : nat_lt limit (weight_with o) ≡ false = le-ltb limit (weight_with o) within in
      let whole : traced limit (suc m) o ≡ traced_by (ending_answer o (goes q)) o (traced limit m) =
      ap (λ b. if b then stopped o else traced_by (answer_of o) o (traced limit m)) fits
      ∙ ap (λ x. traced_by (ending_answer o x) o (traced limit m)) e in
      let next : next_overlay o ≡ on q (j + weight_of (layout s) p) = ap (λ x. moved x o) e in
      let own = weighed (is_inside (layout s) p) (weight_of (layout s) p) in (
        ap (λ (t : Traced). t.at) whole ∙ ap (λ x. (traced limit m x).at) next,
        ap (λ (t : Traced). t.overlay.state) whole ∙ ap (λ x. (traced limit m x).overlay.state) next,
        ap (λ b. if b then 0 else trusted_by (answer_of o) o (trusted_in limit m (next_overlay o))) fits
            ∙ ap (λ x. trusted_by (ending_answer o x) o (trusted_in limit m (next_overlay o))) e
            ∙ ap (λ x. own + trusted_in limit m x) next,
      )

  passes_on : (n m j t : ℕ) (p q : OState) → Passes n m j t p → overlay_step (layout s) p ≡ goes q
      → j + weight_of (layout s) p ≤ limit
      → (k : ℕ) × Passes n k (j + weight_of (layout s) p)
      (t + weighed (is_inside (layout s) p) (weight_of (layout s) p)) q
  passes_on n zero j t p q r e within =
      let some = weight_some (layout s) p in
      let enough = r.enough in absurd (omega (arith, within, enough, some))
  passes_on n (suc m) j t p q r e within =
      let some = weight_some (layout s) p in
      let enough = r.enough in
      let trusted = r.trusted in
      let k = step_goes p q j m e within in
      let more = k.2 in (
        m,
        record {
          enough = omega (arith, enough, some);
          at = r.at ∙ k.0;
          state = r.state ∙ k.1;
          trusted = omega (arith, trusted, more);
        },
      )

  passes : (j t : ℕ) (p : OState) → Leads (layout s) (overlay_at s).state j t p → j ≤ limit
      → (m : ℕ) × Passes (limit + 1) m j t p
  passes _ _ _ no_step within = (
    limit + 1,
    record { enough = omega arith; at = refl; state = refl; trusted = omega arith },
  )
  passes _ _ q (and_step {j = j} {t = t} {p = p} h e) within =
      let k = passes j t p h (omega (arith, within)) in
      passes_on (limit + 1) k.0 j t p q k.1 e within

pub cut_is : CutsAreGreatest
cut_is s n j t p h stop =
    let k = passes s n j t p h stop.0 in
    let here = stays s n k.0 j p stop in
    let trusted = k.1.trusted in
    let none = here.trusted in
    (k.1.at ∙ here.at, k.1.state ∙ here.state, omega (arith, trusted, none))

-- ---- of matched points

-- steps lead to each, with some weight of trusted code
leads_to : (s : StartSeen) (j : ℕ) (p : OState) → Matched s j p
    → (t : ℕ) × Leads (layout s) (overlay_at s).state j t p
leads_to s _ _ begins = (0, no_step)
leads_to s _ q (goes_on {j = j} {p = p} r e) =
    let k = leads_to s j p r in
    (k.0 + weighed (is_inside (layout s) p) (weight_of (layout s) p), and_step k.1 e)

pub stops_are_cuts : StopsAreCuts
stops_are_cuts s n j p m stop =
    let k = leads_to s j p m in
    let e = cut_is s n j k.0 p k.1 stop in
    (e.0, e.1)

-- what holds of such a point holds of the cut point
pub of_cut : (s : StartSeen) (n j : ℕ) (p : OState) → Matched s j p → StopsAt (layout s) n j p
    → (P : ℕ → OState → Type 0) → P j p → P (cut s n).at (cut_overlay s n)
of_cut s n j p m stop P h =
    let e = stops_are_cuts s n j p m stop in
    subst (λ q. P (cut s n).at q) (sym e.1) (subst (λ i. P i p) (sym e.0) h)
