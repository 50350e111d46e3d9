-- Under more fuel the refined meaning tells the same, or more where the fuel had run out.
use Rattle.std.proofs.Common.{◌≡◌, ◌⊎◌, inl, inr, ℕ, zero, suc, ◌+◌, ◌<◌, ◌≤◌, List, [], ◌∷◌, ◌++◌, length}
use Rattle.std.proofs.Common.{map, Option, Some, None, refl, sym, ap, ◌∙◌, subst, arith}
use Rattle.std.specs.Prelude.{slice_get, ◌-◌}
use Rattle.std.proofs.lemmas.List.{append-nil}
use Rattle.source_events.specs.declared.Item.{Item}
use Rattle.source_events.specs.declared.End.{End}
use Rattle.source_events.specs.declared.End.TheVariants.{OutOfFuel}
use Rattle.proc_semantics.specs.declared.value.Target.{Target}
use Rattle.proc_semantics.specs.Values.{World, Store, main_target}
use Rattle.proc_semantics.specs.Rules.{start, level}
use Rattle.proc_semantics.specs.Marked.{Marks, Thing, Event, Leaves, Report, Comp, Whence, counted, said}
use Rattle.proc_semantics.specs.Marked.{tick, take_item, lower, call_event, marked, marked_meaning, whences}
use Rattle.proc_semantics.specs.Marked.{numbered_items, refined}
use Rattle.proc_semantics.proofs.Offers.{Kin, levels_kept}

module _ (T E : Type 0) where
  -- with more fuel the same is told; or the fuel had run out after some of the same events
  abbrev pub Longer : Report T E → Report T E → Type 0
  Longer t more =
      (t ≡ more) ⊎ ((t.end ≡ OutOfFuel) × (rest : List (Event T E)) × (more.events ≡ t.events ++ rest))

  record Fuller (b : ℕ) (m m' : Comp T E) : Type 0 where
    is : (low : Option ℕ) (f e : ℕ) (feed : List (Thing T E)) → f + length feed < b
        → Longer (m low f feed) (m' low (f + e) feed)

  longer_counted : (t t' : Report T E) → Longer t t' → Longer (counted T E t) (counted T E t')
  longer_counted t t' (inl h) = inl (ap (counted T E) h)
  longer_counted t t' (inr h) = inr h

  longer_said : (x : Event T E) (t t' : Report T E) → Longer t t' → Longer (said T E x t) (said T E x t')
  longer_said x t t' (inl h) = inl (ap (said T E x) h)
  longer_said x t t' (inr h) = inr (h.0, h.1, ap (λ xs. x ∷ xs) h.2)

  fuller_tick : (b : ℕ) (m m' : Comp T E) → Fuller b m m' → Fuller (suc b) (tick T E m) (tick T E m')
  fuller_tick b m m' s = record { is = is }
    where
      is : (low : Option ℕ) (f e : ℕ) (feed : List (Thing T E)) → f + length feed < suc b
          → Longer (tick T E m low f feed) (tick T E m' low (f + e) feed)
      is low zero e feed lt = inr (refl, _, refl)
      is low (suc f) e feed lt =
          let n : suc f + e ≡ suc (f + e) = omega arith in
          subst (λ x. Longer (tick T E m low (suc f) feed) (tick T E m' low x feed)) (sym n)
          (longer_counted (m low f feed) (m' low (f + e) feed) (s.is low f e feed (omega (arith, lt))))

  fuller_take : (b : ℕ) (k k' : Thing T E → Comp T E) → ((x : Thing T E) → Fuller b (k x) (k' x))
      → Fuller (suc b) (take_item T E k) (take_item T E k')
  fuller_take b k k' s = record { is = is }
    where
      is : (low : Option ℕ) (f e : ℕ) (feed : List (Thing T E)) → f + length feed < suc b
          → Longer (take_item T E k low f feed) (take_item T E k' low (f + e) feed)
      is low f e [] lt = inl refl
      is low f e (x ∷ feed) lt = (s x).is low f e feed (omega (arith, lt))

  module _ (marks : Marks T) where
    fuller : Kin (marked T E marks) (marked T E marks)
    fuller = record {
      R = Fuller;
      Runs = λ f g. f ≡ g;
      Regs = λ r s. r ≡ s;
      Ways = λ w x. w ≡ x;
      Mark = λ x y. x ≡ y;
      Thing = λ x y. x ≡ y;
      failing = λ b. record { is = λ low f e feed lt. inl refl };
      halting = λ b v. record { is = λ low f e feed lt. inl refl };
      ticking = fuller_tick;
      taking = λ b k k' s. fuller_take b k k' (λ x. s x x refl);
      calling = λ b part site base w w' vs m m' i s. record {
        is = λ low f e feed lt.
            subst (λ z. Longer (said T E (call_event T E part site base w vs low) (m None f feed))
            (said T E (call_event T E part site base z vs low) (m' None (f + e) feed))) i
            (longer_said _ _ _ (s.is None f e feed lt));
      };
      leaving = λ b part x y v m m' i s. record {
        is = λ low f e feed lt.
            subst (λ z. Longer (said T E (Leaves part v low x) (m None f feed))
            (said T E (Leaves part v low z) (m' None (f + e) feed))) i
            (longer_said _ _ _ (s.is None f e feed lt));
      };
      beginning = λ b left need m m' s.
          record { is = λ low f e feed lt. s.is (Some (lower T E low (left - need))) f e feed lt };
      answered = λ b given m m' s.
          record { is = λ low f e feed lt. s.is (Some (lower T E low given)) f e feed lt };
      less = λ b c m m' le s. record { is = λ low f e feed lt. s.is low f e feed (omega (arith, lt, le)) };
      none = λ m m'. record { is = λ low f e feed lt. absurd (omega (arith, lt)) };
      item = λ x y e. ap (λ (z : Thing T E). z.item) e;
      mark = λ x y e. ap (λ (z : Thing T E). z.entry) e;
      fed = λ world x y ints pairs e. ap (λ z. (marked T E marks).fed world z ints pairs) e;
      registers = λ r s e. ap (marked T E marks).registers e;
      nothing = refl;
      single = λ v. refl;
      handed = λ w x vs e. ap (λ z. (marked T E marks).handed z vs) e;
      frame = λ home left p r s e. ap ((marked T E marks).frame home left p) e;
      home = λ f g e. ap (marked T E marks).home e;
      left = λ f g e. ap (marked T E marks).left e;
      need = λ f g e. ap (marked T E marks).need e;
      way = λ f g h xs e. ap (λ z. (marked T E marks).way z h xs) e;
    }

    starts_fuller : (world : World) (b d d' stack : ℕ) (t : Option Target) (st : Store) → b ≤ d → b ≤ d'
        → Fuller b (start (marked T E marks) world (level (marked T E marks) world d) stack t st)
        (start (marked T E marks) world (level (marked T E marks) world d') stack t st)
    unfolding fuller
    starts_fuller world b d d' stack None st le le' =
        (levels_kept (marked T E marks) (marked T E marks) fuller world b d d' le le').waits None None st tt
    starts_fuller world b d d' stack (Some t) st le le' =
        (levels_kept (marked T E marks) (marked T E marks) fuller world b d d' le le').procs t (Some stack) _
        _
        _ _ st refl (λ v st. record { is = λ low f e feed lt. inl refl })

    longer_marked : (world : World) (stack : ℕ) (feed : List (Thing T E)) (f e : ℕ)
        → Longer (marked_meaning T E marks world stack feed f)
        (marked_meaning T E marks world stack feed (f + e))
    longer_marked world stack feed f e =
        (starts_fuller world (f + length feed + 1) (f + length feed + 1) (f + e + length feed + 1) stack
        (main_target world) (map (λ u. u.globals) world) (omega arith) (omega arith)).is None f e feed
        (omega arith)

-- ---- of a feed

longer : (world : World) (stack : ℕ) (feed : List Item) (f e : ℕ)
    → Longer Whence ℕ (refined world stack feed f) (refined world stack feed (f + e))
longer world stack feed f e = longer_marked Whence ℕ whences world stack (numbered_items 0 feed) f e

-- what is told is the beginning of what is told under more
pub told_later : (world : World) (stack : ℕ) (feed : List Item) (f e : ℕ)
    → (rest : List (Event Whence ℕ))
    × ((refined world stack feed (f + e)).events ≡ (refined world stack feed f).events ++ rest)
told_later world stack feed f e = by (longer world stack feed f e)
  where
    by : {t u : Report Whence ℕ} → Longer Whence ℕ t u
        → (rest : List (Event Whence ℕ)) × (u.events ≡ t.events ++ rest)
    by {t} {u} (inl h) = ([], ap (λ r. r.events) (sym h) ∙ sym (append-nil t.events))
    by {t} {u} (inr h) = (h.1, h.2)

-- an end is the same
pub end_later : (world : World) (stack : ℕ) (feed : List Item) (f e : ℕ) (x : End)
    → (refined world stack feed f).end ≡ x → (x ≡ OutOfFuel → ⊥) → (refined world stack feed (f + e)).end ≡ x
end_later world stack feed f e x i ended = by (longer world stack feed f e)
  where
    by : Longer Whence ℕ (refined world stack feed f) (refined world stack feed (f + e))
        → (refined world stack feed (f + e)).end ≡ x
    by (inl h) = ap (λ r. r.end) (sym h) ∙ i
    by (inr h) = absurd (ended (sym i ∙ h.0))

-- an event of the beginning is one of all
pub in_front : {A : Type 0} (xs rest : List A) (n : ℕ) (x : A) → slice_get xs n ≡ Some x
    → slice_get (xs ++ rest) n ≡ Some x
in_front [] rest n x e = absurd cc
in_front (y ∷ ys) rest zero x e = e
in_front (y ∷ ys) rest (suc n) x e = in_front ys rest n x e

pub event_later : (world : World) (stack : ℕ) (feed : List Item) (f e n : ℕ) (x : Event Whence ℕ)
    → slice_get (refined world stack feed f).events n ≡ Some x
    → slice_get (refined world stack feed (f + e)).events n ≡ Some x
event_later world stack feed f e n x i =
    let k = told_later world stack feed f e in
    ap (λ es. slice_get es n) k.1 ∙ in_front (refined world stack feed f).events k.0 n x i
