-- Computations that tell the same, step by step.
use Rattle.std.proofs.Common.{◌≡◌, ℕ, zero, suc, ◌+◌, ◌≤◌, ◌<◌, ℤ, List, [], ◌∷◌, length, Option, Some, None}
use Rattle.std.proofs.Common.{Bool, true, false, refl, sym, subst, arith}
use Rattle.std.specs.Prelude.{if◌then◌else◌, ◌==◌, ◌&&◌}
use Rattle.std.specs.Str.{bytes_eq}
use Rattle.source_events.specs.declared.Item.{Item}
use Rattle.source_events.specs.declared.End.{End}
use Rattle.source_events.specs.declared.End.TheVariants.{Waiting}
use Rattle.proc_semantics.specs.declared.value.Value.{Value}
use Rattle.proc_semantics.specs.Told.{repeated}
use Rattle.proc_semantics.specs.Values.{Store}
use Rattle.proc_semantics.specs.Rules.{with_number, with_place, is_given, resumed, returned}
use Rattle.proc_semantics.specs.Marked.{Thing, Whence, Way, numbered_items, Leaves}
use Rattle.proc_semantics.specs.Marked as tagged
use Rattle.same_meanings.specs.Same.{tracing, Levelled, Continuation, Waiter, wait_at, Behaves, Sides, FeedOf}
use Rattle.same_meanings.specs.Same.{numbered, SameBehaviour, SameWaiting, SameCall}
use Rattle.same_meanings.proofs.Comes.{tick, said_first, comes_as, comes_ended, comes_ticked, comes_deeper}
use Rattle.same_meanings.proofs.Comes.{comes_higher, comes_calling, comes_leaving}

module _ (S : Sides) where
  abbrev Same : ℕ → Levelled → Levelled → Type 0
  Same = SameBehaviour S

  -- ---- of the bound

  pub fewer : (n k : ℕ) (m m' : Levelled) → n ≤ k → Same k m m' → Same n m m'
  fewer n k m m' le s = record {
    is = λ low at feed lt fits. s.is low at feed (omega (arith, le, lt)) fits;
  }

  pub of_none : (m m' : Levelled) → Same 0 m m'
  of_none m m' = record { is = λ low at feed lt fits. absurd (omega (arith, lt)) }

  -- ---- equal computations, and other levels

  pub same_as : (n : ℕ) (m k m' k' : Levelled) → ((d : ℕ) → m d ≡ k d) → ((d : ℕ) → m' d ≡ k' d)
      → Same n k k' → Same n m m'
  same_as n m k m' k' e e' s = record {
    is = λ low at feed lt fits.
        let r = s.is low at feed lt fits in
        (r.0, comes_as S.name m k low _ r.0 e r.1, comes_as S.name_too m' k' low _ r.0 e' r.2);
  }

  -- one level down, in the one and in the other
  pub deeper : (n : ℕ) (m m' : Levelled) → Same n (λ d. m (suc d)) m' → Same n m m'
  deeper n m m' s = record {
    is = λ low at feed lt fits.
        let r = s.is low at feed lt fits in (r.0, comes_deeper S.name m low _ r.0 r.1, r.2);
  }

  pub deeper_too : (n : ℕ) (m m' : Levelled) → Same n m (λ d. m' (suc d)) → Same n m m'
  deeper_too n m m' s = record {
    is = λ low at feed lt fits.
        let r = s.is low at feed lt fits in (r.0, r.1, comes_deeper S.name_too m' low _ r.0 r.2);
  }

  pub both_deeper : (n : ℕ) (m m' : Levelled) → Same n (λ d. m (suc d)) (λ d. m' (suc d)) → Same n m m'
  both_deeper n m m' s = deeper n m m' (deeper_too n (λ d. m (suc d)) m' s)

  pub higher : (n : ℕ) (m m' : Levelled) → Same n m m' → Same n (λ d. m (suc d)) m'
  higher n m m' s = record {
    is = λ low at feed lt fits.
        let r = s.is low at feed lt fits in (r.0, comes_higher S.name m low _ r.0 r.1, r.2);
  }

  pub higher_too : (n : ℕ) (m m' : Levelled) → Same n m m' → Same n m (λ d. m' (suc d))
  higher_too n m m' s = record {
    is = λ low at feed lt fits.
        let r = s.is low at feed lt fits in (r.0, r.1, comes_higher S.name_too m' low _ r.0 r.2);
  }

  pub both_higher : (n : ℕ) (m m' : Levelled) → Same n m m' → Same n (λ d. m (suc d)) (λ d. m' (suc d))
  both_higher n m m' s = higher n m (λ d. m' (suc d)) (higher_too n m m' s)

  -- ---- ticks, of the one and of the other

  pub ticked : (n : ℕ) (m m' : Levelled) → Same n m m' → Same n (λ d. tick (m d)) m'
  ticked n m m' s = record {
    is = λ low at feed lt fits.
        let r = s.is low at feed lt fits in (r.0, comes_ticked S.name m low _ r.0 r.1, r.2);
  }

  pub ticked_too : (n : ℕ) (m m' : Levelled) → Same n m m' → Same n m (λ d. tick (m' d))
  ticked_too n m m' s = record {
    is = λ low at feed lt fits.
        let r = s.is low at feed lt fits in (r.0, r.1, comes_ticked S.name_too m' low _ r.0 r.2);
  }

  pub all_ticked : (j n : ℕ) (m m' : Levelled) → Same n m m' → Same n (λ d. repeated tick j (m d)) m'
  all_ticked zero n m m' s = s
  all_ticked (suc j) n m m' s = ticked n (λ d. repeated tick j (m d)) m' (all_ticked j n m m' s)

  pub all_ticked_too : (j n : ℕ) (m m' : Levelled) → Same n m m' → Same n m (λ d. repeated tick j (m' d))
  all_ticked_too zero n m m' s = s
  all_ticked_too (suc j) n m m' s =
      ticked_too n m (λ d. repeated tick j (m' d)) (all_ticked_too j n m m' s)

  -- so many of the one and so many of the other
  pub ticks : (i j n : ℕ) (m m' : Levelled) → Same n m m'
      → Same n (λ d. repeated tick i (m d)) (λ d. repeated tick j (m' d))
  ticks i j n m m' s =
      all_ticked i n m (λ d. repeated tick j (m' d)) (all_ticked_too j n m m' s)

  -- ---- ends

  pub both_end : (n : ℕ) (e : End)
      → Same n (λ d. tagged.ends Whence ℕ e) (λ d. tagged.ends Whence ℕ e)
  both_end n e = record {
    is = λ low at feed lt fits.
        (record { events = []; end = e }, comes_ended S.name e low _, comes_ended S.name_too e low _);
  }

  pub both_fail : (n : ℕ) → Same n (λ d. tracing.failing) (λ d. tracing.failing)
  both_fail n = both_end n _

  pub both_halt : (n : ℕ) (v : ℤ) → Same n (λ d. tracing.halting v) (λ d. tracing.halting v)
  both_halt n v = both_end n _

  -- ---- what is wiped

  pub both_wipe : (n j : ℕ) (m m' : Levelled) → Same n m m'
      → Same n (λ d. tagged.wipes Whence ℕ j (m d)) (λ d. tagged.wipes Whence ℕ j (m' d))
  both_wipe n j m m' s = record {
    is = λ low at feed lt fits.
        let r = s.is (Some (tagged.lower Whence ℕ low j)) at feed lt fits in (
          r.0,
          record { enough = r.1.enough; is = λ d f a b. r.1.is d f a b },
          record { enough = r.2.enough; is = λ d f a b. r.2.is d f a b },
        );
  }

  -- ---- events

  pub both_call : (n : ℕ) (part : List ℕ) (site base : ℕ) (w w' : Way Whence ℕ) (vs vs' : List Value)
      (m m' : Levelled) → SameCall S w w' vs vs' → Same n m m'
      → Same n (λ d. tracing.calling part site base w vs (m d))
      (λ d. tracing.calling part site base w' vs' (m' d))
  both_call n part site base w w' vs vs' m m' e s = record {
    is = λ low at feed lt fits.
        let r = s.is None at feed lt fits in (
          _,
          comes_calling S.name part site base w vs m low _ r.0 r.1,
          subst (λ x. Behaves S.name_too (λ d. tracing.calling part site base w' vs' (m' d)) low
              (numbered_items at feed) (said_first x r.0)) (sym (e part site base low))
              (comes_calling S.name_too part site base w' vs' m' low _ r.0 r.2),
        );
  }

  pub both_leave : (n : ℕ) (part : List ℕ) (k : ℕ) (v : ℤ) (m m' : Levelled) → Same n m m'
      → Same n (λ d. tracing.leaving part k v (m d)) (λ d. tracing.leaving part k v (m' d))
  both_leave n part k v m m' s = record {
    is = λ low at feed lt fits.
        let r = s.is None at feed lt fits in (
          said_first (Leaves part v low k) r.0,
          comes_leaving S.name part k v m low _ r.0 r.1,
          comes_leaving S.name_too part k v m' low _ r.0 r.2,
        );
  }

  -- ---- an item is taken

  pub both_take : (n : ℕ) (m m' : ℕ → Thing Whence ℕ → tracing.Comp)
      → ((k : ℕ) (i : Item) → S.Fits i → Same n (λ d. m d (numbered k i)) (λ d. m' d (numbered k i)))
      → Same (suc n) (λ d. tracing.taking (m d)) (λ d. tracing.taking (m' d))
  both_take n m m' s = record { is = is }
    where
      is : (low : Option ℕ) (k : ℕ) (feed : List Item) → length feed < suc n → FeedOf S.Fits feed
          → (u : _)
          × Behaves S.name (λ d. tracing.taking (m d)) low (numbered_items k feed) u
          × Behaves S.name_too (λ d. tracing.taking (m' d)) low (numbered_items k feed) u
      is low k [] lt fits = (
        record { events = []; end = Waiting },
        record { enough = 0; is = λ d f a b. refl },
        record { enough = 0; is = λ d f a b. refl },
      )
      is low k (i ∷ feed) lt fits =
          let r = (s k i fits.0).is low (k + 1) feed (omega (arith, lt)) fits.1 in (
            r.0,
            record { enough = r.1.enough; is = λ d f a b. r.1.is d f a b },
            record { enough = r.2.enough; is = λ d f a b. r.2.is d f a b },
          )

  -- ---- what may not be there

  pub both_number : (n : ℕ) (o : Option ℤ) (k k' : Continuation) (st st' : Store)
      → ((v : ℤ) → o ≡ Some v → Same n (λ d. k d v st) (λ d. k' d v st'))
      → Same n (λ d. with_number tracing o (k d) st) (λ d. with_number tracing o (k' d) st')
  both_number n None k k' st st' s = both_fail n
  both_number n (Some v) k k' st st' s = s v refl

  pub both_place : (n : ℕ) (o : Option ℕ) (k k' : ℕ → ℕ → tracing.Comp)
      → ((v : ℕ) → o ≡ Some v → Same n (λ d. k d v) (λ d. k' d v))
      → Same n (λ d. with_place tracing o (k d)) (λ d. with_place tracing o (k' d))
  both_place n None k k' s = both_fail n
  both_place n (Some v) k k' s = s v refl

  pub both_choose : (n : ℕ) (t : Bool) (m m' h h' : Levelled) → Same n m m' → Same n h h'
      → Same n (λ d. if t then m d else h d) (λ d. if t then m' d else h' d)
  both_choose n true m m' h h' s r = s
  both_choose n false m m' h h' s r = r

  -- ---- a call that waits, and its answer

  -- one level up
  abbrev pub later : Option Waiter → Option Waiter
  later None = None
  later (Some c) = Some (record c { resume = λ d. c.resume (suc d) })

  pub later_at : (c : Option Waiter) (d : ℕ) → wait_at c (suc d) ≡ wait_at (later c) d
  later_at None d = refl
  later_at (Some c) d = refl

  pub later_same : (n : ℕ) (c c' : Option Waiter) → SameWaiting S n c c'
      → SameWaiting S n (later c) (later c')
  later_same n None None h = tt
  later_same n (Some c) (Some c') h = (
    h.0,
    h.1,
    h.2,
    h.3,
    λ v st st' e. both_higher n (λ d. c.resume d v st) (λ d. c'.resume d v st')
        (h.4 v st st' e),
  )
  later_same n None (Some c') h = absurd h
  later_same n (Some c) None h = absurd h

  pub fewer_wait : (n k : ℕ) (c c' : Option Waiter) → n ≤ k → SameWaiting S k c c' → SameWaiting S n c c'
  fewer_wait n k None None le h = tt
  fewer_wait n k (Some c) (Some c') le h = (
    h.0,
    h.1,
    h.2,
    h.3,
    λ v st st' e. fewer n k (λ d. c.resume d v st) (λ d. c'.resume d v st') le
        (h.4 v st st' e),
  )
  fewer_wait n k None (Some c') le h = absurd h
  fewer_wait n k (Some c) None le h = absurd h

  -- an answer to a call of that part and number, with that base and so many words given
  abbrev Answer : List ℕ → ℕ → ℕ → Option ℕ → ℤ → Store → Continuation → List ℕ → ℕ → ℕ → ℕ → Levelled
  Answer part site base left v st r p s b g d =
      if bytes_eq part p && (site == s) && (base == b) && is_given left g
      then tracing.answered g (r d v st) else tracing.failing

  pub both_resume : (n : ℕ) (c c' : Option Waiter) (part : List ℕ) (site base : ℕ) (left : Option ℕ)
      (v : Option ℤ) (st st' : Store) → SameWaiting S n c c' → S.Stores st st'
      → Same n (λ d. resumed tracing (wait_at c d) part site base left v st)
      (λ d. resumed tracing (wait_at c' d) part site base left v st')
  both_resume n None None part site base left v st st' h e = both_fail n
  both_resume n (Some c) (Some c') part site base left None st st' h e = both_fail n
  both_resume n (Some c) (Some c') part site base left (Some v) st st' h e =
      let first = Answer part site base left v st c.resume c.part c.site c.base c.given in
      let other = Answer part site base left v st' c'.resume in
      subst (λ x. Same n first (other x c'.site c'.base c'.given)) h.0
      (subst (λ x. Same n first (other c.part x c'.base c'.given)) h.1
      (subst (λ x. Same n first (other c.part c.site x c'.given)) h.2
      (subst (λ x. Same n first (other c.part c.site c.base x)) h.3
      (both_choose n (bytes_eq part c.part && (site == c.site) && (base == c.base) && is_given left c.given)
      _ _ _ _
      (both_wipe n c.given (λ d. c.resume d v st) (λ d. c'.resume d v st') (h.4 v st st' e))
      (both_fail n)))))
  both_resume n None (Some c') part site base left v st st' h e = absurd h
  both_resume n (Some c) None part site base left v st st' h e = absurd h

  pub both_return : (n : ℕ) (c c' : Option Waiter) (left : Option ℕ) (part : List ℕ) (site base : ℕ) (v : ℤ)
      (st st' : Store) → SameWaiting S n c c' → S.Stores st st'
      → Same n (λ d. returned tracing (wait_at c d) left part site base v st)
      (λ d. returned tracing (wait_at c' d) left part site base v st')
  both_return n c c' None part site base v st st' h e = both_fail n
  both_return n c c' (Some left) part site base v st st' h e =
      both_resume n c c' part site base (Some left) (Some v) st st' h e
