-- Runs don't depend on what may not be read.
use Rattle.std.proofs.Common.{◌≡◌, ℕ, zero, suc, ◌+◌, true, false, refl, sym, ap, subst, ◌∙◌, arith}
use Rattle.std.proofs.Common.{Some, None, is_some, inl, inr}
use Rattle.std.specs.Prelude.{Bool, IsTrue, not, if◌then◌else◌}
use Rattle.std.specs.FinMap as map
use Rattle.std.proofs.lemmas.Bool.{not-true, true_from_ne_false}
use Rattle.cap_words.specs.declared.Word.{Word}
use Rattle.cap_words.specs.declared.Perm.{Perm}
use Rattle.cap_words.specs.declared.Perm.TheVariants.{No, R as ReadOnly, Rw, Rx, Rwx}
use Rattle.cap_words.specs.Face.{opened_of}
use Rattle.cap_words.specs.Faces.{may_read, may_run}
use Rattle.lcm_isa.specs.declared.Reg.{Reg}
use Rattle.lcm_isa.specs.declared.Reg.TheVariants.{Pc}
use Rattle.lcm_machine.specs.Maps.{State}
use Rattle.lcm_machine.specs.Places.{reg}
use Rattle.lcm_machine.specs.Cells.{cell}
use Rattle.lcm_machine.specs.Touched.{used_by, Touches}
use Rattle.lcm_machine.specs.Row.{Outcome, went, halted, failed, faces, cell_faces, opens, step_of}
use Rattle.lcm_machine.specs.Row.{Fetched, none, some, fetch}
use Rattle.lcm_machine.specs.Runs.{and_then, run_of}
use Rattle.lcm_machine.specs.Acts.{JumpsUnder, May}
use Rattle.lcm_machine.specs.Blind.{SameBut, Keeps, HasNoMore, EndsAlike}
use Rattle.lcm_machine.proofs.Offers.{tied_same, fetch_blind, step_blind, does_as_it_may}
use Rattle.authority_report.specs.Within.{Authority, IsWithin}
use Rattle.authority_report.specs.Bounds.{plain_run, StaysIn, IsBounded}
use Rattle.authority_report.specs.Influence.{Unread, RunsBlind}
use Rattle.authority_report.proofs.RunsWithin.{holds_on, reads, stays_here, stays_next, used}

pub runs_read : (q : Perm) → may_run q ≡ true → may_read q ≡ true
runs_read No e = cc
runs_read ReadOnly e = cc
runs_read Rw e = cc
runs_read Rx e = refl
runs_read Rwx e = refl

abbrev FetchOf : State Word → Fetched
FetchOf s = fetch (faces (λ w. w) s Pc) (cell_faces (λ w. w) s)

abbrev StepOf : State Word → Outcome Word
StepOf s = step_of (λ w. w) (λ w. w) s

module _ (g : Authority) where
  -- the cells that may not be read, by a test
  abbrev closed : ℕ → Bool
  closed a = not (g.read a)

  abbrev Closed : ℕ → Type 0
  Closed a = IsTrue (closed a)

  -- the state without them
  abbrev bare : State Word → State Word
  bare s = record s { cells = map.retain_keys s.cells g.read }

  cell_bare : (s : State Word) (a : ℕ) → cell (bare s).cells a ≡ (if g.read a then cell s.cells a else None)
  unfolding cell
  cell_bare s a = map.get-retain_keys s.cells g.read a (λ x e. ap g.read (sym (tied_same a x e)))

  -- which differs from it in no other, and so from each that differs from it in no other
  like_bare : (s t : State Word) → SameBut (Unread g) s t → SameBut Closed t (bare s)
  like_bare s t d = record {
    regs = sym d.regs;
    cells = λ a off.
        let is : g.read a ≡ true = true_from_ne_false (g.read a) (λ f. off (ap not f)) in
        cell_bare s a ∙ ap (λ b. if b then cell s.cells a else None) is
        ∙ sym (d.cells a (λ f. off (ap not f)));
    spans = sym d.spans;
  }

  bare_less : (s t : State Word) → HasNoMore Closed t (bare s)
  bare_less s t a p is =
      let gone : cell (bare s).cells a ≡ None = cell_bare s a
      ∙ ap (λ b. if b then cell s.cells a else None) (not-true (g.read a) p) in
      let f : true ≡ false = sym is ∙ ap is_some gone in
      cc

  same_as_is : (s : State Word) → SameBut (Unread g) s s
  same_as_is s = record { regs = refl; cells = λ a off. refl; spans = refl }

  -- a step touches no cell that may not be read
  module _ (s : State Word) (h : IsBounded g s) where
    fetched_read : (a : ℕ) → May may_run (λ w. w) s a → g.read a ≡ true
    fetched_read a (r, (c, is, may, low, high)) = reads g s h a (r, (c, is, runs_read c.perm may, low, high))

    used_read : (a : ℕ) (f : Fetched) → FetchOf s ≡ f
        → used_by f (faces (λ w. w) s) (cell_faces (λ w. w) s) ≡ Some a → g.read a ≡ true
    used_read a (none c) is e = cc
    used_read a (some i next) is e = used g s h i (next, is) a e

    touched_read : (a : ℕ) → Touches (λ w. w) s a → g.read a ≡ true
    touched_read a (inl e) = fetched_read a ((does_as_it_may (λ w. w) (λ w. w) s).fetches a e)
    touched_read a (inr e) = used_read a (FetchOf s) refl e

    spares : (a : ℕ) → Closed a → ¬ (Touches (λ w. w) s a)
    spares a p e = let f : true ≡ false = sym (touched_read a e) ∙ not-true (g.read a) p in cc

  -- so it goes as without them
  step_bare : (s t : State Word) → IsBounded g t → SameBut (Unread g) s t
      → EndsAlike Closed t (bare s) (StepOf t) (StepOf (bare s))
  step_bare s t h d =
      step_blind Closed (λ w. w) (λ w. w) t (bare s) (like_bare s t d) (bare_less s t) (spares t h)

  fetch_bare : (s t : State Word) → IsBounded g t → SameBut (Unread g) s t → FetchOf (bare s) ≡ FetchOf t
  fetch_bare s t h d =
      fetch_blind Closed (λ w. w) (λ w. w) t (bare s) (like_bare s t d) (bare_less s t) (spares t h)

  -- two that end like a third end alike
  joined : (s t u : State Word) (o p q : Outcome Word) → EndsAlike Closed s u o q → EndsAlike Closed t u p q
      → EndsAlike (Unread g) s t o p
  joined s t u (went x) (went y) (went z) k m = (
    record {
      regs = sym m.0.regs ∙ k.0.regs;
      cells = λ a off. sym (m.0.cells a (λ p. off (not-true (g.read a) p)))
          ∙ k.0.cells a (λ p. off (not-true (g.read a) p));
      spans = sym m.0.spans ∙ k.0.spans;
    },
    λ a f. k.1 a (ap not f),
    λ a f. m.1 a (ap not f),
  )
  joined s t u halted halted halted k m = tt
  joined s t u (failed c at) (failed d to) (failed e x) k m = (k.0 ∙ sym m.0, k.1 ∙ sym m.1)
  joined s t u o (went y) halted k m = absurd m
  joined s t u o (went y) (failed e x) k m = absurd m
  joined s t u o halted (went z) k m = absurd m
  joined s t u o halted (failed e x) k m = absurd m
  joined s t u o (failed d to) (went z) k m = absurd m
  joined s t u o (failed d to) halted k m = absurd m
  joined s t u _ _ _ k m = absurd assumption

  holds_same : (s t : State Word) → IsBounded g s → SameBut (Unread g) s t → IsBounded g t
  holds_same s t h d = record {
    regs = λ r. subst (λ m. IsWithin g (reg m r)) (sym d.regs) (h.regs r);
    cells = λ a w reads there.
        h.cells a w reads (sym (d.cells a (λ f. let bad : true ≡ false = sym reads ∙ f in cc)) ∙ there);
  }

  step_alike : (s t : State Word) → IsBounded g s → SameBut (Unread g) s t
      → EndsAlike (Unread g) s t (StepOf s) (StepOf t)
  step_alike s t h d =
      joined s t (bare s) _ _ _ (step_bare s s h (same_as_is s)) (step_bare s t (holds_same s t h d) d)

  fetch_alike : (s t : State Word) → IsBounded g s → SameBut (Unread g) s t → FetchOf s ≡ FetchOf t
  fetch_alike s t h d =
      sym (fetch_bare s s h (same_as_is s)) ∙ fetch_bare s t (holds_same s t h d) d

  -- where the second goes, the first does
  goes_too : (s t y : State Word) (o : Outcome Word) → EndsAlike (Unread g) s t o (went y)
      → (x : State Word) × (o ≡ went x) × SameBut (Unread g) x y
  goes_too s t y (went x) k = (x, refl, k.0)
  goes_too s t y halted k = absurd k
  goes_too s t y (failed c at) k = absurd k

  went_too : (s t y : State Word) → IsBounded g s → SameBut (Unread g) s t → StepOf t ≡ went y
      → (x : State Word) × (StepOf s ≡ went x) × SameBut (Unread g) x y
  went_too s t y h d e =
      goes_too s t y (StepOf s) (subst (EndsAlike (Unread g) s t (StepOf s)) e (step_alike s t h d))

  opens_alike : (s t : State Word) → SameBut (Unread g) s t → (r : Reg)
      → opens (λ w. w) s r ≡ opens (λ w. w) t r
  unfolding opens
  opens_alike s t d r = ap (λ m. opened_of (reg m r)) (sym d.regs)

  jumps_alike : (s t : State Word) → IsBounded g s → SameBut (Unread g) s t → (n : ℕ)
      → JumpsUnder (λ w. w) (λ w. w) t n → JumpsUnder (λ w. w) (λ w. w) s n
  jumps_alike s t h d n (r1, r2, next, code, is, at, y, e) =
      let k = went_too s t y h d e in
      (r1, r2, (next.0, fetch_alike s t h d ∙ next.1), code, opens_alike s t d r1 ∙ is, at, k.0, k.1)

  -- ---- runs

  stays_alike : (n : ℕ) (s t : State Word) → IsBounded g s → SameBut (Unread g) s t → StaysIn g.own n s
      → StaysIn g.own n t
  unfolding run_of
  stays_alike zero s t h d stays k u seal lt run jumps = absurd (omega (arith, lt))
  stays_alike (suc n) s t h d stays zero u seal lt run jumps =
      let same : t ≡ u = cc in
      stays_here g n s stays seal
      (jumps_alike s t h d seal (subst (λ x. JumpsUnder (λ w. w) (λ w. w) x seal) (sym same) jumps))
  stays_alike (suc n) s t h d stays (suc k) u seal lt run jumps =
      by_step (StepOf t) refl run (λ x y e same. stays_alike n x y
      (holds_on g s h x e (stays_here g n s stays)) same (stays_next g n s x e stays))
    where
      by_step : (o : Outcome Word) → StepOf t ≡ o → and_then o (plain_run k) ≡ went u
          → ((x y : State Word) → StepOf s ≡ went x → SameBut (Unread g) x y → StaysIn g.own n y)
          → g.own seal ≡ true
      by_step halted e r on = cc
      by_step (failed c at) e r on = cc
      by_step (went y) e r on =
          let x = went_too s t y h d e in
          on x.0 y x.1 x.2 k u seal (omega (arith, lt)) r jumps

  -- ends after a first step
  then_alike : (s t u v : State Word) (o q : Outcome Word) → Keeps (Unread g) s u → Keeps (Unread g) t v
      → EndsAlike (Unread g) u v o q → EndsAlike (Unread g) s t o q
  then_alike s t u v (went x) (went y) k m h = (h.0, λ a p. h.1 a p ∙ k a p, λ a p. h.2 a p ∙ m a p)
  then_alike s t u v halted halted k m h = tt
  then_alike s t u v (failed c at) (failed d to) k m h = h
  then_alike s t u v _ _ k m h = absurd assumption

  after_first : (n : ℕ) (s t : State Word) (o q : Outcome Word) → EndsAlike (Unread g) s t o q
      → ((u v : State Word) → o ≡ went u → SameBut (Unread g) u v
      → EndsAlike (Unread g) u v (plain_run n u) (plain_run n v))
      → EndsAlike (Unread g) s t (and_then o (plain_run n)) (and_then q (plain_run n))
  after_first n s t (went u) (went v) k on = then_alike s t u v _ _ k.1 k.2 (on u v refl k.0)
  after_first n s t halted halted k on = tt
  after_first n s t (failed c at) (failed d to) k on = k
  after_first n s t _ _ k on = absurd assumption

  ends_alike : (n : ℕ) (s t : State Word) → IsBounded g s → SameBut (Unread g) s t → StaysIn g.own n s
      → EndsAlike (Unread g) s t (plain_run (suc n) s) (plain_run (suc n) t)
  unfolding run_of
  ends_alike zero s t h d stays =
      after_first zero s t (StepOf s) (StepOf t) (step_alike s t h d)
      (λ u v e k. (k, λ a p. refl, λ a p. refl))
  ends_alike (suc n) s t h d stays =
      after_first (suc n) s t (StepOf s) (StepOf t) (step_alike s t h d)
      (λ u v e k. ends_alike n u v (holds_on g s h u e (stays_here g n s stays)) k
      (stays_next g n s u e stays))

  turned : (s t : State Word) → SameBut (Unread g) s t → SameBut (Unread g) t s
  turned s t d = record { regs = sym d.regs; cells = λ a off. sym (d.cells a off); spans = sym d.spans }

  pub runs_blind : (s : State Word) → IsBounded g s → RunsBlind g s
  runs_blind s h t d n =
      let one : suc n ≡ n + 1 = omega arith in
      record {
        stay = (stays_alike n s t h d, stays_alike n t s (holds_same s t h d) (turned s t d));
        ends = λ stays. subst (λ m. EndsAlike (Unread g) s t (plain_run m s) (plain_run m t)) one
            (ends_alike n s t h d stays);
      }
