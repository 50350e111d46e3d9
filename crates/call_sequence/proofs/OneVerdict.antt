-- There is one answer that is right of the flow of a component's code.
use Rattle.std.proofs.Common.{◌≡◌, ℕ, zero, suc, ◌+◌, ◌<◌, ◌≤◌, inl, inr, Bool, true, false, length, Option}
use Rattle.std.proofs.Common.{Some, None, Result, Ok, Err, refl, sym, ap, subst, ◌∙◌, arith, lt-ltb}
use borrow.Author.Tests.{ltb-true}
use Rattle.std.specs.Prelude.{nat_lt, if◌then◌else◌}
use Rattle.std.specs.Result.{result_and}
use Rattle.std.proofs.lemmas.Bool.Decides.{nat_tests}
use Rattle.component_file.specs.declared.component.ComponentFields.{ComponentFields}
use Rattle.component_check.specs.declared.rule.Broken.{Broken}
use Rattle.component_check.specs.declared.rule.Group.TheVariants.{K}
use Rattle.component_check.specs.RuleText.{broken_at}
use Rattle.component_check.specs.Verdict.{IsFirstBroken, NoneBroken, check_from}
use Rattle.component_check.proofs.Offers.{first_broken, is_tried}
use Rattle.call_sequence.specs.declared.TheConstants.{SITE_WORDS, ENTRY_WORDS}
use Rattle.call_sequence.specs.declared.flow.Flow.{Flow}
use Rattle.call_sequence.specs.declared.flow.Flow.TheVariants.{Breaks, Flows}
use Rattle.call_sequence.specs.declared.flow.Walk.{Walk}
use Rattle.call_sequence.specs.declared.flow.Walk.TheVariants.{Before, Ended, Broken as BrokenThere}
use Rattle.call_sequence.specs.Kinds.{Row, entry_row, clean_row}
use Rattle.call_sequence.specs.Lists.{lists}
use Rattle.call_sequence.specs.Places.{begins_entry, begins_site, declared}
use Rattle.call_sequence.specs.Walk.{instr_at, keep, comes_in, site_ready, good_target, flow_of, after_flow}
use Rattle.call_sequence.specs.Walk.{at_row, past, at_word, at_entry, at_end, next_from, next, walk, Arrives}
use Rattle.call_sequence.specs.Verdict.{IsFirstOfFlow, found_by, flow_answer}
use Rattle.call_sequence.proofs.Walks.{stays}

-- ---- a walk ends within the code's length

-- it stands after an offset, if it goes on
abbrev Behind : ℕ → Walk → Type 0
Behind o (Before p current) = o < p
Behind o Ended = Unit {0}
Behind o (BrokenThere number place) = Unit {0}

module _ (c : ComponentFields) (o : ℕ) where
  behind_keep : (number place : ℕ) (b : Bool) (w : Walk) → Behind o w → Behind o (keep number place b w)
  unfolding keep
  behind_keep number place true w h = h
  behind_keep number place false w h = tt

  behind_flow : (r : Row) (f : Flow) → Behind o (after_flow c o r f)
  behind_flow r (Breaks number) = tt
  behind_flow r (Flows None after) = omega arith
  behind_flow r (Flows (Some t) after) =
      behind_keep 7 o (good_target c r t) (Before (o + 1) after) (omega arith)

  behind_row : (r : Row) → Behind o (at_row c o r)
  unfolding at_row
  behind_row r = by_site (begins_site c o)
    where
      by_site : (b : Bool)
          → Behind o
          (if b then keep 10 o (site_ready r)
          (Before (o + SITE_WORDS) (Some clean_row)) else after_flow c o r (flow_of (instr_at c o) o r))
      by_site true = behind_keep 10 o (site_ready r) (Before (o + SITE_WORDS) (Some clean_row)) (omega arith)
      by_site false = behind_flow r (flow_of (instr_at c o) o r)

  behind_past : Behind o (past c o)
  unfolding past
  behind_past = by_site (begins_site c o)
    where
      by_site : (b : Bool) → Behind o (Before (if b then o + SITE_WORDS else o + 1) None)
      by_site true = omega arith
      by_site false = omega arith

  behind_word : (d current : Option Row) → Behind o (at_word c o d current)
  unfolding at_word
  behind_word (Some d) current = behind_keep 8 o (comes_in current d) (at_row c o d) (behind_row d)
  behind_word None (Some r) = behind_row r
  behind_word None None = behind_past

  goes_behind : (current : Option Row) → o < length c.code → Behind o (next_from c o current)
  unfolding next_from
  goes_behind current lt = rw (lt-ltb o (length c.code) lt) (by_entry (begins_entry c o))
    where
      by_entry : (b : Bool) → Behind o (if b then at_entry o current else at_word c o (declared c o) current)
      by_entry true = behind_keep 8 o (comes_in current entry_row) (Before (o + ENTRY_WORDS) (Some clean_row))
          (omega arith)
      by_entry false = behind_word (declared c o) current

module _ (c : ComponentFields) where
  -- after n steps it stands at n or after, if it goes on
  abbrev Far : ℕ → Walk → Type 0
  Far n (Before p current) = n ≤ p
  Far n Ended = Unit {0}
  Far n (BrokenThere number place) = Unit {0}

  farther : (n o : ℕ) (w : Walk) → n ≤ o → Behind o w → Far (suc n) w
  farther n o (Before p current) le h = omega (arith, le, h)
  farther n o Ended le h = tt
  farther n o (BrokenThere number place) le h = tt

  stopped : (n : ℕ) (current : Option Row) → Far n (at_end c current)
  stopped n None = tt
  stopped n (Some r) = tt

  next_far : (n : ℕ) (w : Walk) → Far n w → Far (suc n) (next c w)
  unfolding next_from
  next_far n Ended h = tt
  next_far n (BrokenThere number place) h = tt
  next_far n (Before o current) h = by_place (nat_lt o (length c.code)) refl
    where
      by_place : (b : Bool) → nat_lt o (length c.code) ≡ b → Far (suc n) (next_from c o current)
      by_place true e =
          farther n o (next_from c o current) h (goes_behind c o current (ltb-true o (length c.code) e))
      by_place false e = rw e (stopped (suc n) current)

  far : (n : ℕ) → Far n (walk c n)
  far zero = omega arith
  far (suc n) = next_far n (walk c n) (far n)

  -- past the code it has ended
  ends_there : (current : Option Row) → next c (at_end c current) ≡ at_end c current
  ends_there None = refl
  ends_there (Some r) = refl

  ends : (w : Walk) → Far (length c.code) w → next c (next c w) ≡ next c w
  unfolding next_from
  ends Ended h = refl
  ends (BrokenThere number place) h = refl
  ends (Before o current) h = let past_end : nat_lt o (length c.code) ≡ false =
      grind (arith, nat_tests) in rw past_end (ends_there current)

  comes_to : (w : Walk) → next c w ≡ w → Arrives c w → walk c (suc (length c.code)) ≡ w
  comes_to w stops h =
      let n = suc (length c.code) in
      let m : h.0 + n ≡ n + h.0 = omega arith in
      sym (stays c (walk c n) n h.0 (ends (walk c (length c.code)) (far (length c.code))) refl)
      ∙ ap (walk c) m ∙ stays c w h.0 n stops h.1

-- ---- what is answered

pub flow_is : (c : ComponentFields) (r : Result (Unit {0}) Broken) → IsFirstOfFlow c r → r ≡ flow_answer c
unfolding flow_answer
flow_is c (Ok u) h =
    sym (ap (λ x. result_and x (found_by (walk c (suc (length c.code)))))
    (sym (is_tried (broken_at K) (lists c) (Ok tt) h.placed)) ∙ ap found_by (comes_to c Ended refl h.walked))
flow_is c (Err b) (inl h) = ap (λ x. result_and x (found_by (walk c (suc (length c.code)))))
    (is_tried (broken_at K) (lists c) (Err b) h)
flow_is c (Err b) (inr h) =
    ap (λ e. Err e) h.reported
    ∙ sym (ap (λ x. result_and x (found_by (walk c (suc (length c.code)))))
    (sym (is_tried (broken_at K) (lists c) (Ok tt) h.placed))
    ∙ ap found_by (comes_to c (BrokenThere h.number h.place) refl h.comes))

-- the walk goes on from no place to that same place
no_standstill : (c : ComponentFields) (o : ℕ) (current : Option Row)
    → next c (Before o current) ≡ Before o current → ⊥
unfolding next_from
no_standstill c o current e = by_place (nat_lt o (length c.code)) refl
  where
    behind_itself : (w : Walk) → w ≡ Before o current → Behind o w → ⊥
    behind_itself w e h = let k : o < o = subst (Behind o) e h in omega (arith, k)

    not_there : (current : Option Row) → at_end c current ≡ Before o current → ⊥
    not_there None e = cc
    not_there (Some r) e = cc

    by_place : (b : Bool) → nat_lt o (length c.code) ≡ b → ⊥
    by_place true f =
        behind_itself (next_from c o current) e (goes_behind c o current (ltb-true o (length c.code) f))
    by_place false f = not_there current (sym (let k = f in rw k refl) ∙ e)

pub flow_answer_is : (c : ComponentFields) → IsFirstOfFlow c (flow_answer c)
unfolding flow_answer
flow_answer_is c = by_lists (check_from (broken_at K) 1 (lists c)) (first_broken (broken_at K) (lists c))
  where
    by_walk : NoneBroken (lists c) → (w : Walk) → walk c (suc (length c.code)) ≡ w → next c w ≡ w
        → IsFirstOfFlow c (found_by w)
    by_walk f Ended e s = record { placed = f; walked = (suc (length c.code), e) }
    by_walk f (BrokenThere number place) e s =
        inr (record
        { placed = f; number = number; place = place; comes = (suc (length c.code), e); reported = refl })
    by_walk f (Before o current) e s = absurd (no_standstill c o current s)

    by_lists : (r : Result (Unit {0}) Broken) → IsFirstBroken (broken_at K) (lists c) r
        → IsFirstOfFlow c (result_and r (found_by (walk c (suc (length c.code)))))
    by_lists (Ok u) f =
        by_walk f (walk c (suc (length c.code)))
        refl (ends c (walk c (length c.code)) (far c (length c.code)))
    by_lists (Err b) f = inl f
