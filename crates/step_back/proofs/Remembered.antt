-- Each call keeps what a debugger remembers.
use Rattle.std.proofs.Common.{◌≡◌, ◌≤◌, ◌<◌, ◌+◌, ◌-◌, ℕ, zero, suc, Bool, true, false, List, [], ◌∷◌}
use Rattle.std.proofs.Common.{length, take, refl, sym, ap, ◌∙◌, arith}
use Rattle.std.specs.Prelude.{Option, Some, None, slice_get, if◌then◌else◌}
use Rattle.cap_words.specs.declared.Word.{Word}
use Rattle.lcm_machine.specs.declared.End.{End}
use Rattle.lcm_machine.specs.Row.{Outcome, went, halted, failed, step_of}
use Rattle.lcm_machine.specs.Run.{Run, moved, next_by, next_state, plain}
use Rattle.lcm_machine.proofs.Offers.{count_next, plain_count}
use Rattle.step_back.specs.declared.debugger.Stop.TheVariants.{Break}
use Rattle.step_back.specs.Seen.{Debugging}
use Rattle.step_back.specs.Debug.{debugging_from, forward, forward_by, back, back_by, go, go_by, go_back}
use Rattle.step_back.specs.Debug.{is_stop}
use Rattle.step_back.specs.Calls.{Call, Forward, Back, StopAt, Clear, Go, GoBack, after_call, after_all}
use Rattle.step_back.specs.Calls.{Remembers}

-- ---- counts

moved_count : (o : Outcome Word) (s : Run) → (moved o s).count ≡ s.count + 1
moved_count (went t) s = refl
moved_count halted s = refl
moved_count (failed c at) s = refl

step_count : (s : Run) → s.end ≡ None → (next_state s).count ≡ s.count + 1
unfolding next_state
step_count s e = ap (λ o. (next_by o s).count) e ∙ moved_count (step_of (λ w. w) (λ w. w) s.maps) s

-- ---- one call

taken : (n k : ℕ) (ss : List Run) (t : Run) → slice_get (take n ss) k ≡ Some t → slice_get ss k ≡ Some t
taken zero k ss t h = cc
taken (suc n) k [] t h = h
taken (suc n) zero (s ∷ ss) t h = h
taken (suc n) (suc k) (s ∷ ss) t h = taken n k ss t h

taken_few : (n : ℕ) (ss : List Run) → length (take n ss) ≤ n
taken_few zero ss = omega arith
taken_few (suc n) [] = omega arith
taken_few (suc n) (s ∷ ss) = let h = taken_few n ss in omega (arith, h)

module _ (s : Run) (zero_steps : s.count ≡ 0) where
  begins : (depth : ℕ) → Remembers s (debugging_from s depth)
  begins depth = record {
    now = ap (λ n. plain n s) (sym zero_steps);
    before = λ k t h. cc;
    few = omega arith;
  }

  -- the state that was the newest, and those before it
  one_more : (d : Debugging) → Remembers s d → (k : ℕ) (t : Run) → slice_get (d.now ∷ d.before) k ≡ Some t
      → (k < d.now.count + 1) × (t ≡ plain (d.now.count + 1 - suc k) s)
  one_more d r zero t h =
      let same : d.now ≡ t = cc in
      let e : d.now.count ≡ d.now.count + 1 - suc zero = omega arith in
      (omega arith, sym same ∙ r.now ∙ ap (λ n. plain n s) e)
  one_more d r (suc k) t h =
      let q = r.before k t h in
      let lt : k < d.now.count = q.0 in
      let e : d.now.count - suc k ≡ d.now.count + 1 - suc (suc k) = omega arith in
      (omega arith, q.1 ∙ ap (λ n. plain n s) e)

  went_forward : (d : Debugging) → Remembers s d → d.now.end ≡ None
      → Remembers s (record d { now = next_state d.now; before = take d.depth (d.now ∷ d.before) })
  went_forward d r e =
      let c = step_count d.now e in
      let one : d.now.count + 1 ≡ suc d.now.count = omega arith in
      record {
        now = ap next_state r.now ∙ ap (λ n. plain n s) (sym (c ∙ one));
        before = λ k t h. rw c (one_more d r k t (taken d.depth k (d.now ∷ d.before) t h));
        few = taken_few d.depth (d.now ∷ d.before);
      }

  forward_keeps : (d : Debugging) → Remembers s d → Remembers s (forward d)
  unfolding forward
  forward_keeps d r = by_end d.now.end refl
    where
      by_end : (o : Option End) → d.now.end ≡ o → Remembers s (forward_by o d)
      by_end None e = went_forward d r e
      by_end (Some x) e = r

  -- the count of the state before the newest
  less_count : (m : ℕ) (d : Run) → d ≡ plain (suc m) s → d.count ≡ suc m → (plain m s).count ≡ m
  less_count m d e c =
      let k = count_next (plain m s) in
      let h = plain_count m s in
      let q : (next_state (plain m s)).count ≡ suc m = ap (λ x. x.count) (sym e) ∙ c in
      omega arith

  went_back : (d : Debugging) (t : Run) (ts : List Run) → d.before ≡ t ∷ ts → Remembers s d
      → Remembers s (record d { now = t; before = ts })
  went_back d t ts e r =
      let first = r.before 0 t (rw e refl) in
      let lt : 0 < d.now.count = first.0 in
      let m = d.now.count - 1 in
      let more : d.now.count ≡ suc m = omega arith in
      let now : d.now ≡ plain (suc m) s = r.now ∙ ap (λ n. plain n s) more in
      let is : t ≡ plain m s = first.1 in
      let count : t.count ≡ m = ap (λ x. x.count) is ∙ less_count m d.now now more in
      record {
        now = is ∙ ap (λ n. plain n s) (sym count);
        before = λ k u h.
            let q = r.before (suc k) u (rw e h) in
            let lt2 : suc k < d.now.count = q.0 in
            let same : d.now.count - suc (suc k) ≡ t.count - suc k = omega arith in
            (omega arith, q.1 ∙ ap (λ n. plain n s) same);
        few = omega (arith, r.few, ap length e);
      }

  back_keeps : (d : Debugging) → Remembers s d → Remembers s (back d)
  unfolding back
  back_keeps d r = by_list d.before refl
    where
      by_list : (ss : List Run) → d.before ≡ ss → Remembers s (back_by ss d)
      by_list [] e = r
      by_list (t ∷ ts) e = went_back d t ts e r

  -- ---- several

  go_by_keeps : (n : ℕ) (o : Option End) (d : Debugging) → Remembers s d → Remembers s (go_by o n d).1
  go_by_keeps n (Some x) d r = r
  go_by_keeps zero None d r = r
  go_by_keeps (suc n) None d r =
      by_stop (is_stop (forward d)) (go_by_keeps n (forward d).now.end (forward d) (forward_keeps d r))
    where
      by_stop : (b : Bool) → Remembers s (go_by (forward d).now.end n (forward d)).1
          → Remembers s (if b then (Break, forward d) else go_by (forward d).now.end n (forward d)).1
      by_stop true h = forward_keeps d r
      by_stop false h = h

  go_keeps : (n : ℕ) (d : Debugging) → Remembers s d → Remembers s (go n d).1
  unfolding go
  go_keeps n d r = go_by_keeps n d.now.end d r

  go_back_keeps : (n : ℕ) (d : Debugging) → Remembers s d → Remembers s (go_back n d)
  go_back_keeps zero d r = r
  go_back_keeps (suc n) d r = go_back_keeps n (back d) (back_keeps d r)

  after_keeps : (c : Call) (d : Debugging) → Remembers s d → Remembers s (after_call c d)
  after_keeps Forward d r = forward_keeps d r
  after_keeps Back d r = back_keeps d r
  after_keeps (StopAt at) d r = record { now = r.now; before = r.before; few = r.few }
  after_keeps (Clear at) d r = record { now = r.now; before = r.before; few = r.few }
  after_keeps (Go n) d r = go_keeps n d r
  after_keeps (GoBack n) d r = go_back_keeps n d r

  all_keep : (cs : List Call) (d : Debugging) → Remembers s d → Remembers s (after_all cs d)
  all_keep [] d r = r
  all_keep (c ∷ cs) d r = all_keep cs (after_call c d) (after_keeps c d r)

pub calls_remember : (s : Run) (depth : ℕ) (calls : List Call) → s.count ≡ 0
    → Remembers s (after_all calls (debugging_from s depth))
calls_remember s depth calls e = all_keep s e calls (debugging_from s depth) (begins s e depth)

-- ---- there and back

taken_first : (n : ℕ) (s : Run) (ss : List Run) → 1 ≤ n → take n (s ∷ ss) ≡ s ∷ take (n - 1) ss
taken_first zero s ss h = absurd (omega arith)
taken_first (suc n) s ss h = let e : n ≡ suc n - 1 = omega arith in ap (λ k. s ∷ take k ss) e

pub there_and_back : (d : Debugging) → 1 ≤ d.depth → d.now.end ≡ None → (back (forward d)).now ≡ d.now
unfolding forward back
there_and_back d le e =
    ap (λ o. (back_by (forward_by o d).before (forward_by o d)).now) e
    ∙ ap (λ ss. (back_by ss (record d { now = next_state d.now; before = ss })).now)
    (taken_first d.depth d.now d.before le)
