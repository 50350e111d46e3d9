-- What the calls do, of a debugger that is kept as a state and notes.
use Rattle.std.proofs.Common.{◌≡◌, ◌≤◌, ◌+◌, ◌-◌, ◌<◌, arith, Bool, true, false, length, ℕ, zero, suc, List}
use Rattle.std.proofs.Common.{[], ◌∷◌, take, drop, refl, sym, ap, ◌∙◌, subst}
use Rattle.std.specs.Prelude.{Option, Some, None, slice_get, if◌then◌else◌}
use Rattle.std.specs.Option.{option_map}
use Rattle.std.specs.Ordering.{nat_cmp}
use Rattle.std.specs.FinSet.{FinSet}
use Rattle.lcm_machine.specs.declared.Step.{Step}
use Rattle.lcm_machine.specs.declared.End.{End}
use Rattle.lcm_machine.specs.declared.undo.Undo.{Undo}
use Rattle.lcm_machine.specs.Ends.{end_answer}
use Rattle.lcm_machine.specs.Run.{Run, next_state, answer, answer_by}
use Rattle.lcm_machine.specs.Back.{back as undone, CanUndo}
use Rattle.step_back.specs.Seen.{Debugging}
use Rattle.step_back.specs.Notes.{states_before, CanUndoAll}
use Rattle.step_back.specs.Debug.{forward, forward_by, back, back_by, any, can_go_back, go_back, go, go_by}
use Rattle.step_back.specs.Debug.{spent, is_stop}
use Rattle.step_back.specs.declared.debugger.Stop.{Stop}
use Rattle.step_back.specs.declared.debugger.Stop.TheVariants.{Break, Ended, Spent}
use Rattle.lcm_machine.proofs.Offers.{count_next}
use Rattle.step_back.proofs.NoteLemmas.{states_taken, undo_taken}

-- a debugger in a state with notes
abbrev pub seen : FinSet nat_cmp → ℕ → Run → List Undo → Debugging
seen stops depth s us = record { now = s; before = states_before s us; stops = stops; depth = depth }

module _ (stops : FinSet nat_cmp) (depth : ℕ) (s : Run) where
  pub none_back : (us : List Undo) → None ≡ slice_get us 0
      → seen stops depth s (drop 1 us) ≡ back (seen stops depth s us)
  unfolding back
  none_back [] e = refl
  none_back (u ∷ us) e = cc

  pub one_back : (us : List Undo) (u : Undo) (t : Run) → Some u ≡ slice_get us 0 → t ≡ undone s u
      → seen stops depth t (drop 1 us) ≡ back (seen stops depth s us)
  unfolding back
  one_back [] u t e k = cc
  one_back (v ∷ us) u t e k = let same : u ≡ v = cc in rw (k, same) refl

  pub step_forward : (us : List Undo) (u : Undo) (t : Run) → s.end ≡ None → t ≡ next_state s
      → undone t u ≡ s → seen stops depth t (take depth (u ∷ us)) ≡ forward (seen stops depth s us)
  unfolding forward
  step_forward us u t going next e =
      ap (λ ss. record { now = t; before = ss; stops = stops; depth = depth })
      (states_taken depth t (u ∷ us) ∙ ap (λ r. take depth (r ∷ states_before r us)) e)
      ∙ ap (λ r. record
      { now = r; before = take depth (s ∷ states_before s us); stops = stops; depth = depth }) next
      ∙ ap (λ o. forward_by o (seen stops depth s us)) (sym going)

pub step_undone : (depth : ℕ) (s t : Run) (us : List Undo) (u : Undo) → undone t u ≡ s → CanUndo t u
    → CanUndoAll s us → CanUndoAll t (take depth (u ∷ us))
step_undone depth s t us u e can all = undo_taken depth t (u ∷ us) (can, rw e all)

-- the step that is taken back came after the state that it led from
pub no_later : (s t : Run) (us : List Undo) (u : Undo) → Some u ≡ slice_get us 0 → t ≡ undone s u
    → CanUndoAll s us
    → t.count ≤ s.count
unfolding undone CanUndo
no_later s t [] u e k h = cc
no_later s t (v ∷ us) u e k h =
    let same : u ≡ v = cc in
    let count : t.count ≡ v.count = ap (λ r. r.count) k ∙ ap (λ x. x.count) same in
    omega (arith, count, h.0.1)

pub ended_stays : (d : Debugging) (a : Step) → Some a ≡ option_map end_answer d.now.end → d ≡ forward d
unfolding forward
ended_stays d a e = by_end d.now.end e
  where
    by_end : (o : Option End) → Some a ≡ option_map end_answer o → d ≡ forward_by o d
    by_end None k = cc
    by_end (Some x) k = refl

pub none_ended : (d : Debugging) (a : Step) → Some a ≡ option_map end_answer d.now.end → d.now.end ≡ None → ⊥
none_ended d a e going = let none : Some a ≡ None = e ∙ ap (option_map end_answer) going in cc

-- ---- several steps

back_stays : (d : Debugging) → false ≡ can_go_back d → back d ≡ d
unfolding back
back_stays d h = stays d.before h
  where
    stays : (ss : List Run) → false ≡ any ss → back_by ss d ≡ d
    stays [] k = refl
    stays (s ∷ ss) k = cc

-- where nothing is before it, going back changes nothing
none_before : (n : ℕ) (d : Debugging) → false ≡ can_go_back d → go_back n d ≡ d
none_before zero d h = refl
none_before (suc n) d h = ap (go_back n) (back_stays d h) ∙ none_before n d h

less_one : (n i : ℕ) → i < n → n - i ≡ suc (n - (i + 1))
less_one n i h = omega arith

-- so many steps back, of which i were made: no more can be, or one more is
pub back_ends : (n i : ℕ) (d e t : Debugging) → i < n → false ≡ can_go_back t → e ≡ back t
    → go_back (n - i) t ≡ go_back n d → e ≡ go_back n d
back_ends n i d e t lt none is h = is ∙ back_stays t none ∙ sym (none_before (n - i) t none) ∙ h

pub back_goes : (n i : ℕ) (d e t : Debugging) → i < n → e ≡ back t → go_back (n - i) t ≡ go_back n d
    → go_back (n - (i + 1)) e ≡ go_back n d
back_goes n i d e t lt is h = rw is (rw (less_one n i lt) at h)

pub back_shorter : (d : Debugging) → true ≡ can_go_back d → length (back d).before + 1 ≡ length d.before
unfolding back
back_shorter d h = shorter d.before h
  where
    shorter : (ss : List Run) → true ≡ any ss → length (back_by ss d).before + 1 ≡ length ss
    shorter [] k = cc
    shorter (s ∷ ss) k = omega arith

-- ---- going forward

pub go_ended : (n : ℕ) (d : Debugging) (a : Step) → Some a ≡ option_map end_answer d.now.end
    → go n d ≡ (Ended a, d)
unfolding go
go_ended n d a e = by_end d.now.end e
  where
    by_end : (o : Option End) → Some a ≡ option_map end_answer o → go_by o n d ≡ (Ended a, d)
    by_end None k = cc
    by_end (Some x) k = let same : a ≡ end_answer x = cc in ap (λ b. (Ended b, d)) (sym same)

pub go_none : (d : Debugging) → go 0 d ≡ (spent d.now.end, d)
unfolding go
go_none d = by_end d.now.end
  where
    by_end : (o : Option End) → go_by o 0 d ≡ (spent o, d)
    by_end None = refl
    by_end (Some x) = refl

go_next : (n : ℕ) (d : Debugging) → d.now.end ≡ None
    → go (suc n) d ≡ (if is_stop (forward d) then (Break, forward d) else go n (forward d))
unfolding go
go_next n d e = ap (λ o. go_by o (suc n) d) e

pub go_breaks : (n i : ℕ) (d e t : Debugging) → i < n → t.now.end ≡ None → e ≡ forward t → is_stop e ≡ true
    → go (n - i) t ≡ go n d → go n d ≡ (Break, e)
go_breaks n i d e t lt going is stop h =
    sym h ∙ ap (λ k. go k t) (less_one n i lt) ∙ go_next (n - (i + 1)) t going
    ∙ ap (λ x. if is_stop x then (Break, x) else go (n - (i + 1)) x) (sym is)
    ∙ ap (λ b. if b then (Break, e) else go (n - (i + 1)) e) stop

pub go_goes : (n i : ℕ) (d e t : Debugging) → i < n → t.now.end ≡ None → e ≡ forward t → is_stop e ≡ false
    → go (n - i) t ≡ go n d → go (n - (i + 1)) e ≡ go n d
go_goes n i d e t lt going is none h =
    sym (sym h ∙ ap (λ k. go k t) (less_one n i lt) ∙ go_next (n - (i + 1)) t going
    ∙ ap (λ x. if is_stop x then (Break, x) else go (n - (i + 1)) x) (sym is)
    ∙ ap (λ b. if b then (Break, e) else go (n - (i + 1)) e) none)

pub forward_count : (d : Debugging) → (forward d).now.count ≤ d.now.count + 1
unfolding forward
forward_count d = by_end d.now.end
  where
    by_end : (o : Option End) → (forward_by o d).now.count ≤ d.now.count + 1
    by_end None = count_next d.now
    by_end (Some x) = omega arith

-- ---- where going forward leads

by_stop : (P : Stop × Debugging → Type 0) (b : Bool) (x y : Stop × Debugging) → (b ≡ true → P x)
    → P y
    → P (if b then x else y)
by_stop P true x y one other = one refl
by_stop P false x y one other = other

-- as many more steps at most
abbrev FewMore : ℕ → ℕ → Stop × Debugging → Type 0
FewMore n count p = p.1.now.count ≤ count + n

-- an end is that of the state
abbrev TellsEnd : Stop × Debugging → Type 0
TellsEnd p = (step : Step) → p.0 ≡ Ended step → step ≡ answer p.1.now

end_told : (d : Debugging) (o : Option End) → d.now.end ≡ o → TellsEnd (spent o, d)
end_told d None e step k = absurd (let bad : Spent ≡ Ended step = k in cc)
end_told d (Some x) e step k =
    let same : end_answer x ≡ step = cc in
    sym same ∙ ap answer_by (sym e)

few_by : (n : ℕ) (o : Option End) (d : Debugging) → FewMore n d.now.count (go_by o n d)
few_by n (Some x) d = omega arith
few_by zero None d = omega arith
few_by (suc n) None d =
    let one = forward_count d in
    let more = few_by n (forward d).now.end (forward d) in
    by_stop (FewMore (suc n) d.now.count) (is_stop (forward d)) (Break, forward d)
    (go_by (forward d).now.end n (forward d)) (λ e. omega (arith, one)) (omega (arith, one, more))

told_by : (n : ℕ) (o : Option End) (d : Debugging) → d.now.end ≡ o → TellsEnd (go_by o n d)
told_by n (Some x) d e = end_told d (Some x) e
told_by zero None d e = end_told d None e
told_by (suc n) None d e =
    by_stop TellsEnd (is_stop (forward d)) (Break, forward d) (go_by (forward d).now.end n (forward d))
    (λ b step k. absurd (let bad : Break ≡ Ended step = k in cc))
    (told_by n (forward d).now.end (forward d) refl)

pub go_count : (n : ℕ) (d e : Debugging) (stop : Stop) → go n d ≡ (stop, e)
    → e.now.count ≤ d.now.count + n
unfolding go
go_count n d e stop h = subst (FewMore n d.now.count) h (few_by n d.now.end d)

pub go_end : (n : ℕ) (d e : Debugging) (stop : Stop) → go n d ≡ (stop, e) → (step : Step) → stop
    ≡ Ended step
    → step ≡ answer e.now
unfolding go
go_end n d e stop h = subst TellsEnd h (told_by n d.now.end d refl)
