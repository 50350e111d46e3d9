-- What one computation comes to, step by step.
use Rattle.std.proofs.Common.{◌≡◌, ℕ, zero, suc, ◌+◌, ◌≤◌, ℤ, List, [], ◌∷◌, Option, None, refl, sym, ap, ◌∙◌}
use Rattle.std.proofs.Common.{arith}
use Rattle.source_events.specs.declared.End.{End}
use Rattle.proc_semantics.specs.Marked.{Event, Thing, Whence, Comp, Way, event_to}
use Rattle.proc_semantics.specs.Marked as tagged
use Rattle.same_meanings.specs.Same.{tracing, Levelled, Behaviour, behaviour, Behaves}

abbrev pub Things : Type 0
Things = List (Thing Whence ℕ)

abbrev pub tick : Comp Whence ℕ → Comp Whence ℕ
tick = tagged.tick Whence ℕ

abbrev pub said_first : {N : Type 0} → Event N ℕ → Behaviour N → Behaviour N
said_first e u = record { events = e ∷ u.events; end = u.end }

module _ {N : Type 0} (name : Whence → N) where
  -- it comes to one thing alone
  pub comes_once : (m : Levelled) (low : Option ℕ) (feed : Things) (u v : Behaviour N)
      → Behaves name m low feed u → Behaves name m low feed v → u ≡ v
  comes_once m low feed u v a b =
      sym (a.is (a.enough + b.enough) (a.enough + b.enough) (omega arith) (omega arith))
      ∙ b.is (a.enough + b.enough) (a.enough + b.enough) (omega arith) (omega arith)

  pub comes_as : (m k : Levelled) (low : Option ℕ) (feed : Things) (u : Behaviour N) → ((d : ℕ) → m d ≡ k d)
      → Behaves name k low feed u → Behaves name m low feed u
  comes_as m k low feed u e c = record {
    enough = c.enough;
    is = λ d f a b. ap (λ x. behaviour name (x low f feed)) (e d) ∙ c.is d f a b;
  }

  pub comes_ended : (e : End) (low : Option ℕ) (feed : Things)
      → Behaves name (λ d. tagged.ends Whence ℕ e) low feed (record { events = []; end = e })
  comes_ended e low feed = record { enough = 0; is = λ d f a b. refl }

  pub comes_ticked : (m : Levelled) (low : Option ℕ) (feed : Things) (u : Behaviour N)
      → Behaves name m low feed u → Behaves name (λ d. tick (m d)) low feed u
  comes_ticked m low feed u c = record { enough = suc c.enough; is = is }
    where
      is : (d f : ℕ) → suc c.enough ≤ d → suc c.enough ≤ f → behaviour name (tick (m d) low f feed) ≡ u
      is d zero a b = absurd (omega (arith, b))
      is d (suc f) a b = c.is d f (omega (arith, a)) (omega (arith, b))

  pub unticked : (m : Levelled) (low : Option ℕ) (feed : Things) (u : Behaviour N)
      → Behaves name (λ d. tick (m d)) low feed u → Behaves name m low feed u
  unticked m low feed u c = record {
    enough = c.enough;
    is = λ d f a b. c.is d (suc f) a (omega (arith, b));
  }

  -- one level down
  pub comes_deeper : (m : Levelled) (low : Option ℕ) (feed : Things) (u : Behaviour N)
      → Behaves name (λ d. m (suc d)) low feed u → Behaves name m low feed u
  comes_deeper m low feed u c = record { enough = suc c.enough; is = is }
    where
      is : (d f : ℕ) → suc c.enough ≤ d → suc c.enough ≤ f → behaviour name (m d low f feed) ≡ u
      is zero f a b = absurd (omega (arith, a))
      is (suc d) f a b = c.is d f (omega (arith, a)) (omega (arith, b))

  pub comes_higher : (m : Levelled) (low : Option ℕ) (feed : Things) (u : Behaviour N)
      → Behaves name m low feed u → Behaves name (λ d. m (suc d)) low feed u
  comes_higher m low feed u c = record {
    enough = c.enough;
    is = λ d f a b. c.is (suc d) f (omega (arith, a)) b;
  }

  -- an event is told; nothing was wiped since then
  pub comes_calling : (part : List ℕ) (site base : ℕ) (w : Way Whence ℕ) (vs : List _) (m : Levelled)
      (low : Option ℕ) (feed : Things) (u : Behaviour N) → Behaves name m None feed u
      → Behaves name (λ d. tracing.calling part site base w vs (m d)) low feed
      (said_first (event_to name (λ (k : ℕ). k) (tagged.call_event Whence ℕ part site base w vs low)) u)
  comes_calling part site base w vs m low feed u c = record {
    enough = c.enough;
    is = λ d f a b.
        ap (said_first (event_to name (λ (k : ℕ). k) (tagged.call_event Whence ℕ part site base w vs low)))
        (c.is d f a b);
  }

  pub comes_leaving : (part : List ℕ) (k : ℕ) (v : ℤ) (m : Levelled) (low : Option ℕ) (feed : Things)
      (u : Behaviour N) → Behaves name m None feed u
      → Behaves name (λ d. tracing.leaving part k v (m d)) low feed
      (said_first (tagged.Leaves part v low k) u)
  comes_leaving part k v m low feed u c = record {
    enough = c.enough;
    is = λ d f a b. ap (said_first (tagged.Leaves part v low k)) (c.is d f a b);
  }
