-- What no step of a run touches isn't touched at any state of it.
use Rattle.std.proofs.Common.{◌≡◌, ℕ, zero, suc, ◌+◌, ◌<◌, refl, sym, ap, ◌∙◌, arith, subst}
use Rattle.cap_words.specs.declared.Word.{Word}
use Rattle.lcm_machine.specs.Maps.{State}
use Rattle.lcm_machine.specs.Row.{Outcome, went, halted, failed, step_of}
use Rattle.lcm_machine.specs.Runs.{and_then, run_of}
use Rattle.lcm_machine.specs.Refusals.{HasFailed}
use Rattle.lcm_machine.specs.Touched.{Touches, Untouched}
use Rattle.lcm_machine.proofs.Offers.{failed_more, after_went, after_each}
use Rattle.headline.proofs.alike.Calm.{id}

-- what has failed hasn't gone on
pub not_failed : (n m : ℕ) (s v : State Word) → HasFailed (run_of id id n s) → run_of id id (n + m) s ≡ went v
    → ⊥
not_failed n m s v h e =
    (let f : HasFailed (went v) = subst (λ r. HasFailed r) e (failed_more id id n m s h) in f)

pub run_none : (s v : State Word) → run_of id id 0 s ≡ went v → s ≡ v
unfolding run_of
run_none s v e = cc

-- the first step of a run that went, and the rest
pub first_step : (n : ℕ) (s v : State Word) → run_of id id (suc n) s ≡ went v
    → (u : State Word) × (step_of id id s ≡ went u) × (run_of id id n u ≡ went v)
unfolding run_of
first_step n s v e = by_step (step_of id id s) refl e
  where
    by_step : (r : Outcome Word) → step_of id id s ≡ r → and_then r (run_of id id n) ≡ went v
        → (u : State Word) × (step_of id id s ≡ went u) × (run_of id id n u ≡ went v)
    by_step (went u) m g = (u, m, g)
    by_step halted m g = cc
    by_step (failed c at) m g = cc

pub untouched_at : (a n i : ℕ) (s v : State Word) → Untouched id id a n s → run_of id id i s ≡ went v → i < n
    → Touches id v a → ⊥
unfolding run_of
untouched_at a zero i s v h e lt x = absurd (omega (arith, lt))
untouched_at a (suc n) zero s v h e lt x = (let q : s ≡ v = cc in h.0 (subst (λ y. Touches id y a) (sym q) x))
untouched_at a (suc n) (suc i) s v h e lt x =
    let k = first_step i s v e in
    untouched_at a n i k.0 v (after_went (Untouched id id a n) (step_of id id s) k.0 h.1 k.1)
    k.2 (omega (arith, lt)) x

-- a run spares an address if none of its states touches it
pub untouched_if : (a n : ℕ) (s : State Word)
    → ((k : ℕ) (t : State Word) → k < n → run_of id id k s ≡ went t → Touches id t a → ⊥)
    → Untouched id id a n s
unfolding run_of
untouched_if a zero s spares = tt
untouched_if a (suc n) s spares = (
  spares 0 s (omega arith) refl,
  after_each (Untouched id id a n) (step_of id id s) (λ u goes.
      untouched_if a n u (λ k t lt ran. spares (suc k) t (omega (arith, lt))
      (ap (λ y. and_then y (run_of id id k)) goes ∙ ran))),
)
