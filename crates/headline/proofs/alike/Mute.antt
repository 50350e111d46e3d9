-- Runs of which no step has a line, whatever the last `xjmp` was: an `xjmp` may be among them.
use Rattle.std.proofs.Common.{◌≡◌, ◌⊎◌, inl, inr, ℕ, zero, suc, ◌+◌, ◌≤◌, Bool, [], ◌++◌, refl, ap, ◌∙◌}
use Rattle.std.proofs.Common.{arith, subst}
use Rattle.cap_words.specs.declared.Word.{Word}
use Rattle.lcm_machine.specs.Maps.{State}
use Rattle.lcm_machine.specs.Row.{Outcome, went, halted, failed, step_of}
use Rattle.lcm_machine.specs.Run.{next_state}
use Rattle.lcm_machine.specs.Runs.{and_then, run_of}
use Rattle.trusted_border.specs.declared.layout.Layout.{Layout}
use Rattle.overlay_machine.specs.State.{OState}
use Rattle.overlay_machine.specs.Step.{Ending, goes, halts, fails}
use Rattle.overlay_machine.specs.Flat.{IsFlat}
use Rattle.overlay_machine.specs.Agree.{EndAlike}
use Rattle.run_lines.specs.Views.{View, view_of, flat_view}
use Rattle.run_lines.specs.Events.{noted, inward_after, event_after}
use Rattle.run_lines.specs.Lines.{lines_for}
use Rattle.run_lines.specs.Runs.{watched_next, line_next, lines_of}
use Rattle.headline.proofs.alike.Calm.{id, at_state, quiet_line, IsEnd, Calm, one_more, stop_lines}

abbrev pub Mute : Layout → ℕ → State Word → Type 0
Mute l zero s = Unit {0}
Mute l (suc n) s = (s' : State Word) → step_of id id s ≡ went s'
    → ((c : ℕ) (inward : Bool) → line_next l (at_state s c inward) ≡ []) × Mute l n s'

pub calm_mute : (l : Layout) (n : ℕ) (s : State Word) → Calm l n s → Mute l n s
calm_mute l zero s h = tt
calm_mute l (suc n) s h = λ s' e. let q =
    h s' e in (λ c inward. quiet_line l s c inward q.0, calm_mute l n s' q.1)

-- of which the first n steps are mute, and those after them
pub mute_more : (l : Layout) (n k : ℕ) (s : State Word) → Mute l n s
    → ((u : State Word) → run_of id id n s ≡ went u → Mute l k u) → Mute l (n + k) s
unfolding run_of
mute_more l zero k s h more = let z : k ≡ 0 + k = omega arith in subst (λ j. Mute l j s) z (more s refl)
mute_more l (suc n) k s h more = let z : suc (n + k) ≡ suc n + k = omega arith in
    subst (λ j. Mute l j s)
    z (λ s' e. let q =
    h s' e in (q.0, mute_more l n k s' q.1 (λ u r. more u (ap (λ y. and_then y (run_of id id n)) e ∙ r))))

-- a step that goes
next_goes : (l : Layout) (s s' : State Word) (c : ℕ) (inward : Bool) → step_of id id s ≡ went s'
    → watched_next l (at_state s c inward) ≡ at_state s' (c + 1) (inward_after (noted l s) inward)
unfolding next_state
next_goes l s s' c inward e = rw e refl

pub mute_step : (l : Layout) (s s' : State Word) (c : ℕ) (inward : Bool) (k : ℕ)
    → line_next l (at_state s c inward) ≡ [] → step_of id id s ≡ went s' → lines_of l (at_state s c inward)
    (suc k) ≡ lines_of l (at_state s' (c + 1) (inward_after (noted l s) inward)) k
mute_step l s s' c inward k q e =
    one_more l (at_state s c inward) k
    ∙ ap (λ y. y ++ lines_of l (watched_next l (at_state s c inward)) k) q
    ∙ ap (λ w. lines_of l w k) (next_goes l s s' c inward e)

-- a front of a mute run has no line
pub mute_lines : (l : Layout) (n k : ℕ) (s : State Word) (c : ℕ) (inward : Bool) → Mute l n s → k ≤ n
    → lines_of l (at_state s c inward) k ≡ []
mute_lines l n zero s c inward h le = refl
mute_lines l zero (suc k) s c inward h le = absurd (omega (arith, le))
mute_lines l (suc n) (suc k) s c inward h le =
    by_step (step_of id id s) refl (λ s' i m. mute_lines l n k s' (c + 1) i m (omega (arith, le)))
  where
    by_step : (r : Outcome Word) → step_of id id s ≡ r
        → ((s' : State Word) (i : Bool) → Mute l n s' → lines_of l (at_state s' (c + 1) i) k ≡ [])
        → lines_of l (at_state s c inward) (suc k) ≡ []
    by_step (went s') e more =
        (let m = h s' e in mute_step l s s' c inward k (m.0 c inward) e
        ∙ more s' (inward_after (noted l s) inward) m.1)
    by_step halted e more = stop_lines l s c inward (rw e tt) (suc k)
    by_step (failed f a) e more = stop_lines l s c inward (rw e tt) (suc k)

-- with one instruction more, which ends the machine if it hasn't ended before
pub mute_ends : (l : Layout) (n : ℕ) (s : State Word) (c : ℕ) (inward : Bool) → Mute l n s
    → IsEnd (run_of id id (suc n) s) → (k : ℕ) → lines_of l (at_state s c inward) k ≡ []
unfolding run_of
mute_ends l n s c inward h e zero = refl
mute_ends l zero s c inward h e (suc k) = by_step (step_of id id s) refl e
  where
    by_step : (r : Outcome Word) → step_of id id s ≡ r → IsEnd (and_then r (run_of id id 0))
        → lines_of l (at_state s c inward) (suc k) ≡ []
    by_step halted m e = stop_lines l s c inward (rw m tt) (suc k)
    by_step (failed f a) m e = stop_lines l s c inward (rw m tt) (suc k)
    by_step (went s') m e = absurd e
mute_ends l (suc n) s c inward h e (suc k) =
    by_step (step_of id id s) refl e (λ s' i m d. mute_ends l n s' (c + 1) i m d k)
  where
    by_step : (r : Outcome Word) → step_of id id s ≡ r → IsEnd (and_then r (run_of id id (suc n)))
        → ((s' : State Word) (i : Bool) → Mute l n s' → IsEnd (run_of id id (suc n) s')
        → lines_of l (at_state s' (c + 1) i) k ≡ []) → lines_of l (at_state s c inward) (suc k) ≡ []
    by_step halted m e more = stop_lines l s c inward (rw m tt) (suc k)
    by_step (failed f a) m e more = stop_lines l s c inward (rw m tt) (suc k)
    by_step (went s') m e more =
        (let q = h s' m in mute_step l s s' c inward k (q.0 c inward) m
        ∙ more s' (inward_after (noted l s) inward) q.1 e)

-- ---- one plain step that goes, and the state that it goes to as a flattening

pub line_goes : (l : Layout) (s u : State Word) (c : ℕ) (inward : Bool) → step_of id id s ≡ went u
    → line_next l (at_state s c inward) ≡ lines_for l (view_of u)
    (event_after l (noted l s) inward (view_of u))
unfolding line_next next_state
line_goes l s u c inward e = rw e refl

same_view : (v w : View) → v.reg ≡ w.reg → v.cell ≡ w.cell → v ≡ w
same_view v w e f =
    ap (λ r. let y : View = record { reg = r; cell = v.cell } in y) e
    ∙ ap (λ c. let y : View = record { reg = w.reg; cell = c } in y) f

pub view_is : (l : Layout) (q : OState) (u : State Word) → IsFlat l q u → view_of u ≡ flat_view l q
view_is l q u m = same_view (view_of u) (flat_view l q) (λ i r. m.regs r i) (λ i a. m.cells a i)

pub line_flat : (l : Layout) (q : OState) (s u : State Word) (c : ℕ) (inward : Bool)
    → step_of id id s ≡ went u → IsFlat l q u
    → line_next l (at_state s c inward) ≡ lines_for l (flat_view l q)
    (event_after l (noted l s) inward (flat_view l q))
line_flat l q s u c inward e m = line_goes l s u c inward e
    ∙ ap (λ v. lines_for l v (event_after l (noted l s) inward v)) (view_is l q u m)

pub alike_goes : (Good : OState → State Word → Type 0) (q : OState) (r : Outcome Word)
    → EndAlike Good (goes q) r → (u : State Word) × (r ≡ went u) × Good q u
alike_goes Good q (went u) h = (u, refl, h)
alike_goes Good q halted h = absurd h
alike_goes Good q (failed c at) h = absurd h

ends_halts : (Good : OState → State Word → Type 0) (r : Outcome Word) → EndAlike Good halts r → IsEnd r
ends_halts Good halted a = tt
ends_halts Good (went u) a = absurd a
ends_halts Good (failed c at) a = absurd a

ends_fails : (Good : OState → State Word → Type 0) (r : Outcome Word) → EndAlike Good fails r → IsEnd r
ends_fails Good (failed c at) a = tt
ends_fails Good (went u) a = absurd a
ends_fails Good halted a = absurd a

pub alike_ends : (Good : OState → State Word → Type 0) (e : Ending) (r : Outcome Word) → (e ≡ halts)
    ⊎ (e ≡ fails) → EndAlike Good e r → IsEnd r
alike_ends Good e r (inl h) a = ends_halts Good r (subst (λ y. EndAlike Good y r) h a)
alike_ends Good e r (inr h) a = ends_fails Good r (subst (λ y. EndAlike Good y r) h a)
