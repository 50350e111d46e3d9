-- A step counts at most one, an ended machine stays as it is, and a run is where its instructions lead.
use Rattle.std.proofs.Common.{◌≡◌, ◌≢◌, ℕ, zero, suc, ◌+◌, ◌≤◌, ◌<◌, Option, Some, None, refl, sym, ap, subst}
use Rattle.std.proofs.Common.{◌∙◌, arith, add-one, inl, inr}
use Rattle.std.specs.Prelude.{IfSome, Bool, true, false, not, ◌&&◌, is_some}
use Rattle.std.proofs.lemmas.Bool.{cases_lt}
use Rattle.cap_words.specs.declared.Word.{Word}
use Rattle.lcm_machine.specs.declared.Step.{Step}
use Rattle.lcm_machine.specs.declared.Step.TheVariants.{Went, Halted as AtHalt, Failed as AtFailure}
use Rattle.lcm_machine.specs.declared.End.{End}
use Rattle.lcm_machine.specs.declared.End.TheVariants.{Halted, Failed}
use Rattle.lcm_isa.specs.declared.Reg.{Reg}
use Rattle.lcm_machine.specs.declared.steps.Which.{Which}
use Rattle.lcm_machine.specs.declared.steps.Which.TheVariants.{All, Within}
use Rattle.lcm_machine.specs.Ends.{end_answer, Meets}
use Rattle.lcm_machine.specs.Row.{Outcome, went, halted, failed, step_of, pc_at, jump_at}
use Rattle.lcm_machine.specs.Maps.{State}
use Rattle.lcm_machine.specs.Within.{lies, is_of, is_next, within}
use Rattle.lcm_machine.specs.Run.{Run, moved, next_by, next_state, jump_by, next_jump, answer, answer_by}
use Rattle.lcm_machine.specs.Run.{plain, fresh, EndsAs}
use Rattle.lcm_machine.specs.Runs.{and_then, run_of}
use Rattle.lcm_machine.proofs.Goes.{run_of-add}
use Rattle.lcm_machine.proofs.StepRows.{run_one}

count_moved : (r : Outcome Word) (s : Run) → (moved r s).count ≤ s.count + 1
count_moved (went t) s = omega arith
count_moved halted s = omega arith
count_moved (failed cause at) s = omega arith

count_by : (e : Option End) (s : Run) → (next_by e s).count ≤ s.count + 1
count_by None s = count_moved (step_of (λ w. w) (λ w. w) s.maps) s
count_by (Some e) s = omega arith

pub count_next : (s : Run) → (next_state s).count ≤ s.count + 1
unfolding next_state
count_next s = count_by s.end s

pub plain_count : (n : ℕ) (s : Run) → (plain n s).count ≤ s.count + n
plain_count zero s = omega arith
plain_count (suc n) s = let h = plain_count n s in let k = count_next (plain n s) in omega (arith, h, k)

moved_stays : (o : Outcome Word) (s : Run) → answer (moved o s) ≢ Went → (moved o s).maps ≡ s.maps
moved_stays (went t) s h = absurd (h refl)
moved_stays halted s h = refl
moved_stays (failed cause at) s h = refl

stays_by : (e : Option End) (s : Run) → answer (next_by e s) ≢ Went → (next_by e s).maps ≡ s.maps
stays_by None s h = moved_stays (step_of (λ w. w) (λ w. w) s.maps) s h
stays_by (Some e) s h = refl

-- a step that doesn't go leaves registers and cells
pub next_stays : (s : Run) → answer (next_state s) ≢ Went → (next_state s).maps ≡ s.maps
unfolding next_state
next_stays s = stays_by s.end s

pub plain_more : (n : ℕ) (s : Run) → plain (n + 1) s ≡ next_state (plain n s)
plain_more n s = rw add-one

next_state-ended : (s : Run) (e : End) → s.end ≡ Some e → next_state s ≡ s
unfolding next_state
next_state-ended s e h = ap (λ o. next_by o s) h

-- a run that has ended stays there
pub plain_ended : (n i : ℕ) (s : Run) (e : End) → i ≤ n → (plain i s).end ≡ Some e → plain n s ≡ plain i s
plain_ended zero zero s e le h = refl
plain_ended zero (suc i) s e le h = absurd (omega arith)
plain_ended (suc n) i s e le h = elim (cases_lt n i) as (λ _. plain (suc n) s ≡ plain i s) [
  | inl above ↦ (let same : i ≡ suc n = omega arith in ap (λ k. plain k s) (sym same))
  | inr below ↦ ap next_state (plain_ended n i s e below h) ∙ next_state-ended (plain i s) e h
]

ended_at : (n : ℕ) (s t : Run) (r : Step) (o : Option End) → s.end ≡ o → t ≡ plain n s → r ≡ answer t
    → IfSome o (λ e. (r ≡ end_answer e) × (t ≡ s))
ended_at n s t r None h k a = tt
ended_at n s t r (Some e) h k a =
    let same : t ≡ s = k ∙ plain_ended n 0 s e (omega arith) h in
    (a ∙ ap answer same ∙ ap answer_by h, same)

-- an ended machine answers its end, and a run leaves it as it is
pub run_ended : (n : ℕ) (s t : Run) (r : Step) → t ≡ plain n s → r ≡ answer t
    → IfSome s.end (λ e. (r ≡ end_answer e) × (t ≡ s))
run_ended n s t r k a = ended_at n s t r s.end refl k a

-- where a run comes to an end, it stays
over_by : (n i : ℕ) (s : Run) (o : Option End) → (plain i s).end ≡ o → is_some o ≡ true → i ≤ n
    → plain n s ≡ plain i s
over_by n i s None e h le = absurd (cc)
over_by n i s (Some e) is h le = plain_ended n i s e le is

pub plain_over : (n i : ℕ) (s t : Run) → i ≤ n → t ≡ plain i s → is_some t.end ≡ true → t ≡ plain n s
plain_over n i s t le at over =
    at ∙ sym (over_by n i s (plain i s).end refl (subst (λ (r : Run). is_some r.end ≡ true) at over) le)

pub is_none : {A : Type 0} (o : Option A) → is_some o ≡ false → o ≡ None
is_none None h = refl
is_none (Some x) h = absurd (cc)

-- ---- steps in a loop, which counts them after it

-- n steps of a run were made, each one of these, and are still to be counted
pub record Making (which : Which) (s : Run) (n : ℕ) (t : Run) : Type 0 where
  pub is : record t { count = t.count + n } ≡ plain n s
  pub count : t.count ≡ s.count
  pub on : t.end ≡ None
  pub each : (k : ℕ) → k < n → is_next which (plain k s) ≡ true

pub making_none : (which : Which) (s : Run) → is_some s.end ≡ false → Making which s 0 s
making_none which s on = record {
  is = let e : s.count + 0 ≡ s.count = omega arith in ap (λ k. let t : Run = record s { count = k } in t) e;
  count = refl;
  on = is_none s.end on;
  each = λ k lt. absurd (omega (arith, lt));
}

-- how a machine has ended by a step that answered this, if it has
abbrev end_by : Step → Option End
end_by Went = None
end_by AtHalt = Some Halted
end_by (AtFailure cause at) = Some (Failed cause at)

-- what a step answers and leaves is where it moves the machine
met_moved : (s : State Word) (n : ℕ) (e : Option End) (o : Outcome Word) (r : Step) (t : State Word)
    → Meets s o r t
    → moved o (record { maps = s; count = n; end = e }) ≡ record { maps = t; count = n + 1; end = end_by r }
met_moved s n e (went u) r t m = rw (m.0, m.1) refl
met_moved s n e halted r t m = rw (m.0, m.1) refl
met_moved s n e (failed f at) r t m = rw (m.0, m.1) refl

-- one step more
making_next : (which : Which) (s : Run) (n : ℕ) (t : Run) (r : Step) (maps : State Word)
    → Making which s n t → Meets t.maps (step_of (λ w. w) (λ w. w) t.maps) r maps
    → plain (n + 1) s ≡ record { maps = maps; count = t.count + n + 1; end = end_by r }
unfolding next_state
making_next which s n t r maps k m =
    plain_more n s ∙ ap next_state (sym k.is) ∙ ap (λ e. next_by e (record t { count = t.count + n })) k.on
    ∙ met_moved t.maps (t.count + n) t.end (step_of (λ w. w) (λ w. w) t.maps) r maps m

-- whether the next step is one of these doesn't rest on the count
next_is : (which : Which) (s : Run) (n : ℕ) (t : Run) (b : Bool) → Making which s n t
    → is_of (λ w. w) which t.maps ≡ b → is_next which (plain n s) ≡ b
unfolding is_next
next_is which s n t b k e =
    ap (is_next which) (sym k.is) ∙ ap (λ o. not (is_some o) && is_of (λ w. w) which t.maps) k.on ∙ e

pub each_next : (which : Which) (s : Run) (n : ℕ) (t : Run) → Making which s n t
    → is_of (λ w. w) which t.maps ≡ true → (k : ℕ) → k < n + 1 → is_next which (plain k s) ≡ true
each_next which s n t m e k lt = elim (cases_lt k n) as (λ _. is_next which (plain k s) ≡ true) [
  | inl below ↦ m.each k below
  | inr above ↦ (let same : n ≡ k = omega arith in
      subst (λ i. is_next which (plain i s) ≡ true) same (next_is which s n t true m e))
]

-- where it went, the loop goes on
pub making_went : (which : Which) (s : Run) (n : ℕ) (t u : Run) → Making which s n t
    → Meets t.maps (step_of (λ w. w) (λ w. w) t.maps) Went u.maps → u ≡ record t { maps = u.maps }
    → is_of (λ w. w) which t.maps ≡ true → Making which s (n + 1) u
making_went which s n t u k m same e =
    let count : u.count ≡ t.count = ap (λ (r : Run). r.count) same in
    let on : u.end ≡ None = ap (λ (r : Run). r.end) same ∙ k.on in
    let c : u.count + (n + 1) ≡ t.count + n + 1 = omega (arith, count) in
    record {
      is = ap (λ c. let r : Run = record u { count = c } in r) c
          ∙ ap (λ o. let r : Run = record { maps = u.maps; count = t.count + n + 1; end = o } in r) on
          ∙ sym (making_next which s n t Went u.maps k m);
      count = count ∙ k.count;
      on = on;
      each = each_next which s n t k e;
    }

-- where the machine ended, it did so by the last one
pub making_ended : (which : Which) (s : Run) (n : ℕ) (t u v : Run) (r : Step) → Making which s n t
    → Meets t.maps (step_of (λ w. w) (λ w. w) t.maps) r u.maps → u ≡ record t { maps = u.maps }
    → v ≡ record u { count = u.count + n + 1; end = end_by r } → v ≡ plain (n + 1) s
making_ended which s n t u v r k m same e =
    let count : u.count ≡ t.count = ap (λ (r : Run). r.count) same in
    e ∙ ap (λ c. let r : Run = record { maps = u.maps; count = c + n + 1; end = end_by r } in r) count
    ∙ sym (making_next which s n t r u.maps k m)

-- an ended machine makes none
pub none_ended : (which : Which) (s : Run) → is_some s.end ≡ true → is_next which s ≡ false
unfolding is_next
none_ended which s e = ap (λ b. not b && is_of (λ w. w) which s.maps) e

and_none : (b : Bool) → (b && false) ≡ false
and_none true = refl
and_none false = refl

pub none_of : (which : Which) (s : Run) → is_of (λ w. w) which s.maps ≡ false → is_next which s ≡ false
unfolding is_next
none_of which s e = ap (λ b. not (is_some s.end) && b) e ∙ and_none (not (is_some s.end))

ended_all : (b : Bool) → (not b && (true && true)) ≡ false → b ≡ true
ended_all true e = refl
ended_all false e = absurd (cc)

over_all : (t : Run) → is_next All t ≡ false → is_some t.end ≡ true
unfolding is_next is_of
over_all t e = ended_all (is_some t.end) e

-- where each step is to be made, all are, or all up to the end
pub all_made : (n m : ℕ) (s t : Run) → t ≡ plain m s → m ≤ n → (m < n → is_next All t ≡ false)
    → t ≡ plain n s
all_made n m s t at le stops = elim (cases_lt m n) as (λ _. t ≡ plain n s) [
  | inl below ↦ plain_over n m s t le at (over_all t (stops below))
  | inr above ↦ (let same : m ≡ n = omega arith in subst (λ k. t ≡ plain k s) same at)
]

within_by : (o : Option End) (l : Bool) (j : Option Reg)
    → (not (is_some o) && (l && not (is_some j))) ≡ true → (o ≡ None) × (l ≡ true) × (j ≡ None)
within_by None true None e = (refl, refl, refl)
within_by None true (Some r) e = absurd cc
within_by None false j e = absurd cc
within_by (Some x) l j e = absurd cc

-- in a stretch the machine hasn't ended, pc's address is there, and the next step makes no `xjmp`
pub within_parts : (from to : ℕ) (s : Run) → within from to s ≡ true
    → (s.end ≡ None) × (lies from to (pc_at (λ w. w) s.maps) ≡ true) × (next_jump s ≡ None)
unfolding within next_jump
within_parts from to s e =
    let p = within_by s.end (lies from to (pc_at (λ w. w) s.maps)) (jump_at (λ w. w) s.maps) e in
    (p.0, p.1, ap (λ o. jump_by o s) p.0 ∙ p.2)

-- what is next in a stretch
pub next_within : (from to : ℕ) (s : Run) → within from to s ≡ is_next (Within from to) s
unfolding within is_next is_of
next_within from to s = refl

-- ---- where the instructions lead

-- one step more
moved_ends : (n : ℕ) (t : State Word) (o : Outcome Word)
    → EndsAs (suc n) o (moved o (record { maps = t; count = n; end = None }))
moved_ends n t (went u) = let e : n + 1 ≡ suc n =
    omega arith in ap (λ k. record { maps = u; count = k; end = None }) e
moved_ends n t halted = refl
moved_ends n t (failed c at) = refl

went_next : (n : ℕ) (t : State Word) (r : Run) → r ≡ record { maps = t; count = n; end = None }
    → EndsAs (suc n) (step_of (λ w. w) (λ w. w) t) (next_state r)
unfolding next_state
went_next n t r e = rw e (moved_ends n t (step_of (λ w. w) (λ w. w) t))

ended_next : (r : Run) (e : End) → r.end ≡ Some e → (next_state r).end ≡ Some e
ended_next r e h = ap (λ x. x.end) (next_state-ended r e h) ∙ h

ends_next : (n : ℕ) (o : Outcome Word) (r : Run) → EndsAs n o r
    → EndsAs (suc n) (and_then o (run_of (λ w. w) (λ w. w) 1)) (next_state r)
ends_next n (went t) r h = rw (run_one (λ w. w) (λ w. w) t) (went_next n t r h)
ends_next n halted r h = ended_next r Halted h
ends_next n (failed c at) r h = ended_next r (Failed c at) h

-- the machine with its count and end is where its instructions lead
pub plain_ends : (n : ℕ) (s : State Word) → EndsAs n (run_of (λ w. w) (λ w. w) n s) (plain n (fresh s))
unfolding run_of
plain_ends zero s = refl
plain_ends (suc n) s =
    let e : n + 1 ≡ suc n = omega arith in
    let q : run_of (λ w. w) (λ w. w) (suc n) s ≡ and_then (run_of (λ w. w) (λ w. w) n s)
    (run_of (λ w. w) (λ w. w) 1) =
    ap (λ k. run_of (λ w. w) (λ w. w) k s) (sym e) ∙ run_of-add (λ w. w) (λ w. w) n 1 s in
    rw q (ends_next n (run_of (λ w. w) (λ w. w) n s) (plain n (fresh s)) (plain_ends n s))
