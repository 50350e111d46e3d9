-- Two modules with one procedure each, shared under one name: what is to be shown of it, so that they mean
-- the same.
use Rattle.std.proofs.Common.{◌≡◌, ℕ, ℤ, List, [], ◌∷◌, Option, Some, None, Bool, true, false, refl, sym}
use Rattle.std.proofs.Common.{subst}
use Rattle.std.specs.Prelude.{if◌then◌else◌, ◌&&◌}
use Rattle.std.specs.Str.{bytes_eq}
use Rattle.source_events.specs.declared.FeedPair.{FeedPair}
use Rattle.source_events.specs.declared.FeedBack.{FeedBack}
use Rattle.source_events.specs.declared.Item.TheVariants.{Enter}
use Rattle.proc_program.specs.declared.program.Program.{Program}
use Rattle.proc_program.specs.declared.program.Procedure.{Procedure}
use Rattle.proc_semantics.specs.declared.value.Target.{Target}
use Rattle.proc_semantics.specs.Values.{Store, target, found, main_target}
use Rattle.proc_semantics.specs.Rules.{level, start, part_name_of}
use Rattle.same_meanings.specs.Same.{tracing, Continuation, Waiter, wait_at, Sides, SameBehaviour}
use Rattle.same_meanings.specs.Same.{SameContinuation, SameWaits, BothFound, SameRefined, first_store}
use Rattle.same_meanings.specs.Same.{numbered}
use Rattle.same_meanings.proofs.Waits.{procedures_decide}

abbrev pub head_of : List Procedure → Procedure
head_of [] = record { name = []; shared = false; callbacks = []; locals = 0; need = 0; body = [] }
head_of (p ∷ ps) = p

abbrev pub it : Target
it = target 0 0

-- the one procedure of both
abbrev pub Both : Target → Target → Type 0
Both t t' = (it ≡ t) × (it ≡ t')

-- a module with one shared procedure
pub record IsSingle (u : Program) (part name : List ℕ) : Type 0 where
  pub procedure : Procedure
  pub only : u.procs ≡ procedure ∷ []
  pub part_is : u.name ≡ part
  pub name_is : procedure.name ≡ name
  pub shared : procedure.shared ≡ true

found_by : (u : Program) (part name p n : List ℕ) (s : IsSingle u part name) (a b : Bool) → bytes_eq p part ≡
    a
    → bytes_eq n name ≡ b → found (u ∷ []) p n ≡ (if a && b then Some it else None)
unfolding found
found_by u part name p n s false b ea eb = rw (s.part_is, ea) refl
found_by u part name p n s true true ea eb = rw (s.part_is, ea, s.only, s.shared, s.name_is, eb) refl
found_by u part name p n s true false ea eb = rw (s.part_is, ea, s.only, s.shared, s.name_is, eb) refl

-- what holds of that procedure in both
pub of_both : (P : Target → Target → Type 0) → P it it → (t t' : Target) → Both t t' → P t t'
of_both P p t t' b = subst (λ x. P x t') b.0 (subst (P it) b.1 p)

module _ (S : Sides) where
  pub both_found : (u v : Program) (part name p n : List ℕ) → IsSingle u part name → IsSingle v part name
      → BothFound S Both (found (u ∷ []) p n) (found (v ∷ []) p n)
  both_found u v part name p n s z =
      subst (λ o. BothFound S Both o (found (v ∷ []) p n)) (sym (found_by u part name p n s _ _ refl refl))
      (subst (λ o. BothFound S Both (if bytes_eq p part && bytes_eq n name then Some it else None) o)
      (sym (found_by v part name p n z _ _ refl refl)) (by (bytes_eq p part && bytes_eq n name)))
    where
      by : (b : Bool) → BothFound S Both (if b then Some it else None) (if b then Some it else None)
      by true = (refl, refl)
      by false = tt

  -- entered by an item, or hopped to, two procedures tell the same, and so it is from the start
  abbrev pub EnterSame : ℕ → Target → Target → Type 0
  EnterSame n t t' =
      (part called : List ℕ) (left : Option ℕ) (ints : List (Option ℤ)) (pairs : List FeedPair)
      (back : FeedBack) (k : ℕ) (q q' : Continuation) → SameContinuation S n q q' → (st st' : Store)
      → S.Stores st st'
      → SameBehaviour S n
      (λ d. (level tracing S.one d).proc t left
      (tracing.fed S.one (numbered k (Enter part called left ints pairs back)) ints pairs) (q d) st)
      (λ d. (level tracing S.other d).proc t' left
      (tracing.fed S.other (numbered k (Enter part called left ints pairs back)) ints pairs) (q' d) st')

  abbrev pub HopSame : ℕ → Target → Target → Type 0
  HopSame n t t' =
      (c c' : Option Waiter) (left : Option ℕ) (v : ℤ) (st st' : Store) → S.Stores st st'
      → SameBehaviour S n (λ d. (level tracing S.one d).hop (wait_at c d) left t v st)
      (λ d. (level tracing S.other d).hop (wait_at c' d) left t' v st')

  abbrev pub StartSame : ℕ → ℕ → Type 0
  StartSame size n =
      SameBehaviour S n (λ d. start tracing S.one (level tracing S.one d) size (main_target S.one)
      (first_store
      S.one))
      (λ d. start tracing S.other (level tracing S.other d) size (main_target S.other) (first_store S.other))

  pub single_decides : (size : ℕ)
      → ((part name : List ℕ) → BothFound S Both (found S.one part name) (found S.other part name))
      → part_name_of S.one 0 ≡ part_name_of S.other 0 → ((n : ℕ) → SameWaits S n → EnterSame n it it)
      → ((n : ℕ) → SameWaits S n → HopSame n it it) → ((n : ℕ) → SameWaits S n → StartSame size n)
      → SameRefined S size
  single_decides size names parts enters hops starts = procedures_decide S size (record {
    Targets = Both;
    found = names;
    parts = of_both (λ t t'. part_name_of S.one t.home ≡ part_name_of S.other t'.home) parts;
    enters = λ n waits t t' b part called left ints pairs back fits k q q' s st st' h.
        of_both (EnterSame n) (enters n waits) t t' b part called left ints pairs back k q q' s st st' h;
    hops = λ n waits t t' b c c' w left v st st' h.
        of_both (HopSame n) (hops n waits) t t' b c c' left v st st' h;
    starts = starts;
  })
