-- The run of the overlay and the plain one agree, from one step on.
use Rattle.call_sequence.specs.declared.TheConstants.{CALL_WORDS}
use Rattle.std.proofs.Common.{◌≡◌, ◌⊎◌, inl, inr, ℕ, zero, suc, ◌+◌, ◌-◌, ◌<◌, ◌≤◌, ℤ, Bool, true, false}
use Rattle.std.proofs.Common.{List, [], ◌∷◌, Some, None, refl, ap, sym, subst, ◌∙◌, arith}
use Rattle.std.specs.Prelude.{Option, if◌then◌else◌}
use Rattle.std.proofs.lemmas.Bool.{cases_lt}
use Rattle.cap_words.specs.declared.Word.{Word}
use Rattle.lcm_isa.specs.declared.Reg.{Reg}
use Rattle.lcm_isa.specs.declared.Reg.TheVariants.{C1, C2}
use Rattle.lcm_isa.specs.declared.Instr.TheVariants.{Xjmp}
use Rattle.lcm_machine.specs.declared.FailCause.{FailCause}
use Rattle.lcm_machine.specs.Plan.{Plan, Fails, Halts, Goes}
use Rattle.lcm_machine.specs.Maps.{State}
use Rattle.lcm_machine.specs.Places.{reg}
use Rattle.lcm_machine.specs.Table.{ask as plan_ask, need as plan_need}
use Rattle.lcm_machine.specs.Row.{Outcome, went, halted, failed, step_of, row, outcome, plan_in}
use Rattle.lcm_machine.specs.Runs.{and_then, run_of}
use Rattle.lcm_machine.proofs.Offers.{run_of-add, run_then, run_one}
use Rattle.trusted_border.specs.declared.layout.Layout.{Layout}
use Rattle.overlay_machine.specs.declared.words.OWord.{OWord}
use Rattle.overlay_machine.specs.declared.words.OWord.TheVariants.{Plain, RetCode, RetData}
use Rattle.overlay_machine.specs.declared.cases.Case.{Case}
use Rattle.overlay_machine.specs.declared.cases.Case.TheVariants.{Call, Entry, Back, Other}
use Rattle.overlay_machine.specs.Words.{look, is_ret_code}
use Rattle.overlay_machine.specs.State.{OpenFrame, OState}
use Rattle.overlay_machine.specs.Step.{Ending, goes, halts, fails, ask, need, with_frames, call_step}
use Rattle.overlay_machine.specs.Step.{entry_step, return_by, return_step, case_of, step_by, weight_by}
use Rattle.overlay_machine.specs.Step.{overlay_step, weight_of}
use Rattle.overlay_machine.specs.Flat.{IsFlat}
use Rattle.overlay_machine.specs.Agree.{EndAlike, EndsAgree, Looks, ReadyFor}
use Rattle.overlay_machine.specs.Runs.{Reached, begins, goes_on, plain_run, HaltsBehind, FailsBehind}
use Rattle.overlay_machine.specs.Runs.{RunsAgree}
use Rattle.overlay_machine.proofs.OneStep.{one_step}

-- a property that each step carries on to, with as many plain instructions as it weighs
abbrev pub Simulates : Layout → (OState → State Word → Type 0) → Type 0
Simulates l Good =
    (o : OState) (t : State Word) → Good o t → EndAlike Good (overlay_step l o) (plain_run (weight_of l o) t)

-- a property under which the plain state is the overlay flattened and the next step is ready, and which each
-- step that goes keeps
pub record Carries (l : Layout) (Good : OState → State Word → Type 0) : Type 0 where
  pub flat : (o : OState) (t : State Word) → Good o t → IsFlat l o t
  pub looks : (o : OState) (t : State Word) → Good o t → Looks l o
  pub ready : (o : OState) (t : State Word) → Good o t → ReadyFor l o (case_of l o.maps)
  pub kept : (o q : OState) (t u : State Word) → Good o t → overlay_step l o ≡ goes q
      → plain_run (weight_of l o) t ≡ went u → IsFlat l q u → Looks l q → Good q u

abbrev id : Word → Word
id w = w

-- ---- weights

weight_if : (b : Bool) (n m : ℕ) → 1 ≤ n → 1 ≤ m → 1 ≤ (if b then n else m)
weight_if true n m h g = h
weight_if false n m h g = g

weight_case : (s : State OWord) (c : Case) → 1 ≤ weight_by s c
weight_case s (Call i) = weight_if (is_ret_code s.regs.c1) (CALL_WORDS + 1) CALL_WORDS (omega arith)
    (omega arith)
weight_case s (Entry a) = omega arith
weight_case s (Back r1 r2) = weight_if (is_ret_code (reg s.regs r1)) 11 1 (omega arith) (omega arith)
weight_case s Other = omega arith

pub weight_some : (l : Layout) (o : OState) → 1 ≤ weight_of l o
unfolding weight_of
weight_some l o = weight_case o.maps (case_of l o.maps)

-- ---- what halts is one instruction: a sequence doesn't halt, nor does `xjmp`

abbrev GoesOrFails : Ending → Type 0
GoesOrFails (goes o) = Unit {0}
GoesOrFails halts = ⊥
GoesOrFails fails = Unit {0}

asked : (b : Bool) (e : Ending) → GoesOrFails e → GoesOrFails (ask b e)
unfolding ask
asked true e h = h
asked false e h = tt

needed : {A : Type 0} (x : Option A) (k : A → Ending) → ((a : A) → GoesOrFails (k a)) → GoesOrFails (need x k)
unfolding need
needed None k h = tt
needed (Some a) k h = h a

abbrev NeverHalts : Plan → Type 0
NeverHalts (Fails c) = Unit {0}
NeverHalts Halts = ⊥
NeverHalts (Goes e) = Unit {0}

plan_asked : (c : FailCause) (b : Bool) (p : Plan) → NeverHalts p → NeverHalts (plan_ask c b p)
unfolding plan_ask
plan_asked c true p h = h
plan_asked c false p h = tt

plan_needed : {A : Type 0} (c : FailCause) (x : Option A) (k : A → Plan) → ((a : A) → NeverHalts (k a))
    → NeverHalts (plan_need c x k)
unfolding plan_need
plan_needed c None k h = tt
plan_needed c (Some a) k h = h a

xjmp_plan : (s : State OWord) (next : Word) → NeverHalts (plan_in look s (Xjmp C1 C2) next)
unfolding plan_in
xjmp_plan s next =
    plan_needed _ _ _
    (λ a. plan_needed _ _ _
    (λ b. plan_asked _ _ _
    (plan_needed _ _ _ (λ c. plan_asked _ _ _ (plan_asked _ _ _ (plan_asked _ _ _ tt))))))

planned : (fs : List OpenFrame) (n : ℕ) (s : State OWord) (p : Plan) → NeverHalts p
    → GoesOrFails (with_frames fs n (outcome look Plain s p))
planned fs n s (Fails c) h = tt
planned fs n s Halts h = absurd h
planned fs n s (Goes e) h = tt

xjmp_goes_or_fails : (fs : List OpenFrame) (n : ℕ) (next : Word) (s : State OWord)
    → GoesOrFails (with_frames fs n (row look Plain (Xjmp C1 C2) next s))
unfolding row
xjmp_goes_or_fails fs n next s = planned fs n s (plan_in look s (Xjmp C1 C2) next) (xjmp_plan s next)

call_goes_or_fails : (l : Layout) (i : ℕ) (o : OState) → GoesOrFails (call_step l i o)
unfolding call_step
call_goes_or_fails l i o =
    needed _ _ (λ s. needed _ _ (λ c. asked _ _ (asked _ _ (asked _ _ (xjmp_goes_or_fails _ _ _ _)))))

entry_goes_or_fails : (l : Layout) (a : ℕ) (o : OState) → GoesOrFails (entry_step l a o)
unfolding entry_step
entry_goes_or_fails l a o = needed _ _ (λ p. needed _ _ (λ c. tt))

return_goes_or_fails : (l : Layout) (x y : OWord) (r2 : Reg) (fs : List OpenFrame) (o : OState)
    → GoesOrFails (return_by l x y r2 fs o)
return_goes_or_fails l (RetCode i) (RetData k) r2 (f ∷ fs) o =
    asked _ _ (needed _ _ (λ s. needed _ _ (λ c. asked _ _ tt)))
return_goes_or_fails l (RetCode i) (RetData k) r2 [] o = tt
return_goes_or_fails l (RetCode i) (RetCode k) r2 fs o = tt
return_goes_or_fails l (RetCode i) (Plain w) r2 fs o = tt
return_goes_or_fails l (RetData i) y r2 fs o = tt
return_goes_or_fails l (Plain w) y r2 fs o = tt

never : (e : Ending) → GoesOrFails e → e ≡ halts → ⊥
never (goes o) h e = cc
never halts h e = h
never fails h e = cc

halt_weight : (l : Layout) (o : OState) (c : Case) → step_by l c o ≡ halts → weight_by o.maps c ≡ 1
unfolding return_step
halt_weight l o (Call i) e = absurd (never _ (call_goes_or_fails l i o) e)
halt_weight l o (Entry a) e = absurd (never _ (entry_goes_or_fails l a o) e)
halt_weight l o (Back r1 r2) e =
    absurd (never _ (return_goes_or_fails l (reg o.maps.regs r1) (reg o.maps.regs r2) r2 o.frames o) e)
halt_weight l o Other e = refl

pub halts_alone : (l : Layout) (o : OState) → overlay_step l o ≡ halts → weight_of l o ≡ 1
unfolding overlay_step weight_of
halts_alone l o e = halt_weight l o (case_of l o.maps) e

-- ---- plain runs

-- an end stays
stays_halted : (n m : ℕ) (t : State Word) → plain_run n t ≡ halted → plain_run (n + m) t ≡ halted
stays_halted n m t e = run_of-add id id n m t ∙ ap (λ r. and_then r (run_of id id m)) e

stays_failed : (n m : ℕ) (t : State Word) (c : FailCause) (at : ℤ) → plain_run n t ≡ failed c at
    → plain_run (n + m) t ≡ failed c at
stays_failed n m t c at e = run_of-add id id n m t ∙ ap (λ r. and_then r (run_of id id m)) e

up_halted : (t : State Word) (n k : ℕ) → n ≤ k → plain_run n t ≡ halted → plain_run k t ≡ halted
up_halted t n k h e = let m : n + (k - n) ≡ k = omega arith in rw (← m) (stays_halted n (k - n) t e)

up_failed : (t : State Word) (n k : ℕ) (c : FailCause) (at : ℤ) → n ≤ k → plain_run n t ≡ failed c at
    → plain_run k t ≡ failed c at
up_failed t n k c at h e = let m : n + (k - n) ≡ k = omega arith in rw (← m) (stays_failed n (k - n) t c at e)

-- the instruction after those that went
next_is : (t u : State Word) (n : ℕ) (r : Outcome Word) → plain_run n t ≡ went u → step_of id id u ≡ r
    → plain_run (n + 1) t ≡ r
next_is t u n r e f = run_then id id n 1 t u r e (run_one id id u ∙ f)

step_after : (t u : State Word) (n : ℕ) (r : Outcome Word) → plain_run n t ≡ went u → plain_run (n + 1) t ≡ r
    → step_of id id u ≡ r
step_after t u n r e f = sym (next_is t u n _ e refl) ∙ f

-- a run that failed by n, and that went at j, failed at one instruction between
first_failure : (t : State Word) (j w : ℕ) (v : State Word) (c : FailCause) (at : ℤ) → plain_run j t ≡ went v
    → plain_run (j + w) t ≡ failed c at → (n : ℕ) × (j ≤ n) × (n < j + w) × FailsBehind n t
first_failure t j zero v c at e f = let same : j + 0 ≡ j = omega arith in let bad : went v ≡ failed c at =
    sym e ∙ ap (λ k. plain_run k t) (sym same) ∙ f in cc
first_failure t j (suc w) v c at e f = by_next (plain_run (j + w) t) refl (first_failure t j w v)
  where
    by_next : (r : Outcome Word) → plain_run (j + w) t ≡ r
        → ((d : FailCause) (a : ℤ) → plain_run j t ≡ went v → plain_run (j + w) t ≡ failed d a → (n : ℕ)
        × (j ≤ n) × (n < j + w) × FailsBehind n t)
        → (n : ℕ) × (j ≤ n) × (n < j + suc w) × FailsBehind n t
    by_next (went u) g more =
        let one : j + suc w ≡ j + w + 1 = omega arith in (
          j + w,
          omega arith,
          omega arith,
          (u, c, at, g, step_after t u (j + w) (failed c at) g (ap (λ k. plain_run k t) (sym one) ∙ f)),
        )
    by_next halted g more =
        absurd (let bad : halted ≡ failed c at =
        sym (up_halted t (j + w) (j + suc w) (omega arith) g) ∙ f in cc)
    by_next (failed d a) g more = let h = more d a e g in (h.0, h.1, (let k = h.2 in omega (arith, k)), h.3)

-- ---- the greatest matched point up to a number of instructions

abbrev HasEnded : Ending → Type 0
HasEnded (goes o) = ⊥
HasEnded halts = Unit {0}
HasEnded fails = Unit {0}

-- its next step passes that number, or ends the run within it
record Greatest (l : Layout) (o : OState) (n : ℕ) : Type 0 where
  pub at : ℕ
  pub state : OState
  pub reached : Reached l o at state
  pub within : at ≤ n
  pub rest : (n < at + weight_of l state) ⊎ ((at + weight_of l state ≤ n) × HasEnded (overlay_step l state))

module _ (l : Layout) (o : OState) where
  greatest_on : (n j : ℕ) (p : OState) → Reached l o j p → j ≤ n → (e : Ending) → overlay_step l p ≡ e
      → j + weight_of l p ≤ n → ((q : OState) → Reached l o (j + weight_of l p) q → Greatest l o n)
      → Greatest l o n
  greatest_on n j p r le (goes q) e ge more = more q (goes_on r e)
  greatest_on n j p r le halts e ge more =
      record { at = j; state = p; reached = r; within = le; rest = inr (ge, rw e tt) }
  greatest_on n j p r le fails e ge more =
      record { at = j; state = p; reached = r; within = le; rest = inr (ge, rw e tt) }

  greatest_from : (fuel n j : ℕ) (p : OState) → Reached l o j p → j ≤ n → n ≤ j + fuel → Greatest l o n
  greatest_from zero n j p r le up = let w =
      weight_some l p in record { at = j; state = p; reached = r; within = le; rest = inl (omega arith) }
  greatest_from (suc fuel) n j p r le up = elim (cases_lt n (j + weight_of l p)) as (λ _. Greatest l o n) [
    | inl lt ↦ record { at = j; state = p; reached = r; within = le; rest = inl lt }
    | inr ge ↦
        (let w = weight_some l p in greatest_on n j p r le (overlay_step l p)
        refl ge (λ q r'. greatest_from fuel n (j + weight_of l p) q r' ge (omega arith)))
  ]

  greatest : (n : ℕ) → Greatest l o n
  greatest n = greatest_from n n 0 o begins (omega arith) (omega arith)

-- ---- both runs

-- what makes steps ready and is kept is carried on
module _ (l : Layout) (Good : OState → State Word → Type 0) (carries : Carries l Good) where
  carried : (o : OState) (t : State Word) → Good o t → (e : Ending) (r : Outcome Word) → overlay_step l o ≡ e
      → plain_run (weight_of l o) t ≡ r → EndsAgree l e r → EndAlike Good e r
  carried o t g (goes q) (went u) ee er h = carries.kept o q t u g ee er h.0 h.1
  carried o t g halts halted ee er h = tt
  carried o t g fails (failed c at) ee er h = tt
  carried o t g (goes q) halted ee er h = absurd h
  carried o t g (goes q) (failed c at) ee er h = absurd h
  carried o t g halts (went u) ee er h = absurd h
  carried o t g halts (failed c at) ee er h = absurd h
  carried o t g fails (went u) ee er h = absurd h
  carried o t g fails halted ee er h = absurd h

  pub simulates : Simulates l Good
  simulates o t g =
      carried o t g _ _ refl refl
      (one_step l o t (carries.ready o t g) (carries.flat o t g) (carries.looks o t g))

module _ (l : Layout) (Good : OState → State Word → Type 0)
    (flat : (p : OState) (u : State Word) → Good p u → IsFlat l p u) (sim : Simulates l Good) (o : OState)
    (t : State Word) (good : Good o t) where
  abbrev At : ℕ → OState → Type 0
  At j p = (u : State Word) × (plain_run j t ≡ went u) × Good p u

  next : (j : ℕ) (p q : OState) (u : State Word) (e : Ending) (r : Outcome Word) → plain_run j t ≡ went u
      → e ≡ goes q → plain_run (weight_of l p) u ≡ r → EndAlike Good e r → At (j + weight_of l p) q
  next j p q u e (went v) ej eq er h = let k : EndAlike Good (goes q) (went v) =
      rw eq at h in (v, run_then id id j (weight_of l p) t u _ ej er, k)
  next j p q u e halted ej eq er h = absurd (let k : EndAlike Good (goes q) halted = rw eq at h in k)
  next j p q u e (failed c at) ej eq er h =
      absurd (let k : EndAlike Good (goes q) (failed c at) = rw eq at h in k)

  start_at : At 0 o
  unfolding run_of
  start_at = (t, refl, good)

  -- at each matched point the property holds
  pub good_at : (j : ℕ) (p : OState) → Reached l o j p → At j p
  good_at _ _ begins = start_at
  good_at _ q (goes_on {j = j} {p = p} r e) = let h =
      good_at j p r in next j p q h.0 _ _ h.1 e refl (sim p h.0 h.2)

  flat_at : (j : ℕ) (p : OState) → Reached l o j p
      → (u : State Word) × (plain_run j t ≡ went u) × IsFlat l p u
  flat_at j p r = let h = good_at j p r in (h.0, h.1, flat p h.0 h.2)

  halting : (e : Ending) (r : Outcome Word) → e ≡ halts → EndAlike Good e r → r ≡ halted
  halting e halted ee h = refl
  halting e (went v) ee h = absurd (let k : EndAlike Good halts (went v) = rw ee at h in k)
  halting e (failed c at) ee h = absurd (let k : EndAlike Good halts (failed c at) = rw ee at h in k)

  overlay_halts : (j : ℕ) (p : OState) → Reached l o j p → overlay_step l p ≡ halts → HaltsBehind j t
  overlay_halts j p r e =
      let h = good_at j p r in
      let ends : plain_run (weight_of l p) h.0 ≡ halted = halting _ _ e (sim p h.0 h.2) in
      (h.0, h.1, sym (run_one id id h.0) ∙ ap (λ k. plain_run k h.0) (sym (halts_alone l p e)) ∙ ends)

  halted_by : (j : ℕ) (p : OState) → Reached l o j p → overlay_step l p ≡ halts → plain_run (j + 1) t ≡ halted
  halted_by j p r e = let h = overlay_halts j p r e in next_is t h.0 j halted h.1 h.2

  failing : (e : Ending) (r : Outcome Word) → e ≡ fails → EndAlike Good e r
      → (c : FailCause) × (at : ℤ) × (r ≡ failed c at)
  failing e (failed c at) ee h = (c, at, refl)
  failing e (went v) ee h = absurd (let k : EndAlike Good fails (went v) = rw ee at h in k)
  failing e halted ee h = absurd (let k : EndAlike Good fails halted = rw ee at h in k)

  failed_by : (j : ℕ) (p : OState) → Reached l o j p → overlay_step l p ≡ fails
      → (c : FailCause) × (at : ℤ) × (plain_run (j + weight_of l p) t ≡ failed c at)
  failed_by j p r e =
      let h = good_at j p r in
      let f = failing _ _ e (sim p h.0 h.2) in
      (f.0, f.1, run_then id id j (weight_of l p) t h.0 _ h.1 f.2)

  overlay_fails : (j : ℕ) (p : OState) → Reached l o j p → overlay_step l p ≡ fails
      → (n : ℕ) × (j ≤ n) × (n < j + weight_of l p) × FailsBehind n t
  overlay_fails j p r e =
      let h = good_at j p r in
      let f = failed_by j p r e in
      first_failure t j (weight_of l p) h.0 f.0 f.1 h.1 f.2

  -- a plain run that has gone so far hasn't ended before
  not_halted : (n k : ℕ) (u : State Word) → plain_run n t ≡ halted → plain_run k t ≡ went u → k < n
  not_halted n k u e f =
      elim (cases_lt k n) as (λ _. k < n)
      [ inl lt ↦ lt | inr ge ↦ (let bad : halted ≡ went u = sym (up_halted t n k ge e) ∙ f in cc) ]

  not_failed : (n k : ℕ) (u : State Word) (c : FailCause) (at : ℤ) → plain_run n t ≡ failed c at
      → plain_run k t ≡ went u → k < n
  not_failed n k u c at e f =
      elim (cases_lt k n) as (λ _. k < n)
      [ inl lt ↦ lt | inr ge ↦ (let bad : failed c at ≡ went u = sym (up_failed t n k c at ge e) ∙ f in cc) ]

  one_end : (n k : ℕ) (c : FailCause) (at : ℤ) → plain_run n t ≡ halted → plain_run k t ≡ failed c at → ⊥
  one_end n k c at e f = elim (cases_lt n k) as (λ _. ⊥) [
    | inl lt ↦ (let bad : halted ≡ failed c at = sym (up_halted t n k (omega arith) e) ∙ f in cc)
    | inr ge ↦ (let bad : failed c at ≡ halted = sym (up_failed t k n c at ge f) ∙ e in cc)
  ]

  -- what goes on passes the number
  passes : (n : ℕ) (g : Greatest l o n) (q : OState) → overlay_step l g.state ≡ goes q
      → n < g.at + weight_of l g.state
  passes n g q ex = elim g.rest as (λ _. n < g.at + weight_of l g.state) [
    | inl before ↦ before
    | inr after ↦ absurd (let k : HasEnded (goes q) = rw ex at after.1 in k)
  ]

  abbrev Halting : ℕ → Type 0
  Halting n = (p : OState) × Reached l o n p × (overlay_step l p ≡ halts)

  halts_at : (n : ℕ) (g : Greatest l o n) (x : Ending) → overlay_step l g.state ≡ x → (u : State Word)
      → plain_run n t ≡ went u → plain_run (n + 1) t ≡ halted → Halting n
  halts_at n g (goes q) ex u e f =
      let h = good_at (g.at + weight_of l g.state) q (goes_on g.reached ex) in
      let lt = not_halted (n + 1) (g.at + weight_of l g.state) h.0 f h.1 in
      let past = passes n g q ex in
      absurd (omega (arith, lt, past))
  halts_at n g halts ex u e f =
      let lt = not_halted (g.at + 1) n u (halted_by g.at g.state g.reached ex) e in
      let w = g.within in
      let same : g.at ≡ n = omega (arith, lt, w) in
      (g.state, subst (λ k. Reached l o k g.state) same g.reached, ex)
  halts_at n g fails ex u e f = let b =
      failed_by g.at g.state g.reached ex in
      absurd (one_end (n + 1) (g.at + weight_of l g.state) b.0 b.1 f b.2)

  plain_halts : (n : ℕ) → HaltsBehind n t → Halting n
  plain_halts n h = let g =
      greatest l o n in halts_at n g (overlay_step l g.state) refl h.0 h.1 (next_is t h.0 n halted h.1 h.2)

  abbrev Failing : ℕ → Type 0
  Failing n = (j : ℕ) × (p : OState) × Reached l o j p × (j ≤ n) × (n < j + weight_of l p)
      × (overlay_step l p ≡ fails)

  fails_at : (n : ℕ) (g : Greatest l o n) (x : Ending) → overlay_step l g.state ≡ x
      → (u : State Word) (c : FailCause) (at : ℤ) → plain_run n t ≡ went u → plain_run (n + 1) t ≡ failed c at
      → Failing n
  fails_at n g (goes q) ex u c at e f =
      let h = good_at (g.at + weight_of l g.state) q (goes_on g.reached ex) in
      let lt = not_failed (n + 1) (g.at + weight_of l g.state) h.0 c at f h.1 in
      let past = passes n g q ex in
      absurd (omega (arith, lt, past))
  fails_at n g halts ex u c at e f =
      absurd (one_end (g.at + 1) (n + 1) c at (halted_by g.at g.state g.reached ex) f)
  fails_at n g fails ex u c at e f =
      let b = failed_by g.at g.state g.reached ex in
      (g.at, g.state, g.reached, g.within, not_failed (g.at + weight_of l g.state) n u b.0 b.1 b.2 e, ex)

  plain_fails : (n : ℕ) → FailsBehind n t → Failing n
  plain_fails n h = let g =
      greatest l o n in fails_at n g (overlay_step l g.state)
      refl h.0 h.1 h.2 h.3 (next_is t h.0 n (failed h.1 h.2) h.3 h.4)

  abbrev Going : ℕ → Type 0
  Going n = (j : ℕ) × (p : OState) × Reached l o j p × (j ≤ n) × (n < j + weight_of l p)

  goes_past : (n : ℕ) (g : Greatest l o n) (x : Ending) → overlay_step l g.state ≡ x → (u : State Word)
      → plain_run n t ≡ went u → n < g.at + weight_of l g.state
  goes_past n g (goes q) ex u e = passes n g q ex
  goes_past n g halts ex u e = let w = halts_alone l g.state ex in let lt =
      not_halted (g.at + 1) n u (halted_by g.at g.state g.reached ex) e in omega (arith, w, lt)
  goes_past n g fails ex u e = let b =
      failed_by g.at g.state g.reached ex in not_failed (g.at + weight_of l g.state) n u b.0 b.1 b.2 e

  plain_goes : (n : ℕ) (u : State Word) → plain_run n t ≡ went u → Going n
  plain_goes n u e = let g =
      greatest l o n in (g.at, g.state, g.reached, g.within, goes_past n g (overlay_step l g.state) refl u e)

  pub runs_agree : RunsAgree l o t
  runs_agree = record {
    matched = flat_at;
    overlay_halts = overlay_halts;
    plain_halts = plain_halts;
    overlay_fails = overlay_fails;
    plain_fails = plain_fails;
    plain_goes = plain_goes;
  }
