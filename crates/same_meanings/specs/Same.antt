-- Computations of two refined meanings that behave the same: they tell the same, by names of words, and end
-- the same way. The relation is step-indexed, by the length of the feed; so continuations, and calls that
-- wait, can be compared too.
use Rattle.std.specs.Prelude.{◌≡◌, ℕ, ◌≤◌, ◌<◌, ℤ, List, [], ◌∷◌, length, map, Option, Some, None}
use Rattle.source_events.specs.declared.Item.{Item}
use Rattle.source_events.specs.declared.Item.TheVariants.{Enter}
use Rattle.source_events.specs.declared.FeedBack.{FeedBack}
use Rattle.source_events.specs.declared.FeedPair.{FeedPair}
use Rattle.source_events.specs.declared.End.{End}
use Rattle.proc_program.specs.declared.program.Program.{Program}
use Rattle.proc_semantics.specs.declared.value.Target.{Target}
use Rattle.proc_semantics.specs.declared.value.Value.{Value}
use Rattle.proc_semantics.specs.Values.{World, Store, found, main_target}
use Rattle.proc_semantics.specs.Rules.{Domain, Then, Wait, level, start, part_name_of}
use Rattle.proc_semantics.specs.Marked.{Event, Report, Thing, Whence, CameWord, Comp, Way, whences, marked}
use Rattle.proc_semantics.specs.Marked.{numbered_items, report_to, event_to, call_event, refined}

-- the domain of the refined meaning
abbrev pub tracing : Domain
tracing = marked Whence ℕ whences

-- ---- at each level

-- A computation, and what goes on with a value, at each level; enough levels are deep enough for any feed.
abbrev pub Levelled : Type 0
Levelled = ℕ → Comp Whence ℕ

abbrev pub Continuation : Type 0
Continuation = ℕ → Then tracing

-- a call that waits
pub record Waiter : Type 0 where
  pub part : List ℕ
  pub site : ℕ
  pub base : ℕ
  pub given : ℕ
  pub resume : Continuation

abbrev pub wait_at : Option Waiter → ℕ → Option (Wait tracing)
wait_at None d = None
wait_at (Some c) d = Some (record {
  part = c.part;
  site = c.site;
  base = c.base;
  given = c.given;
  resume = c.resume d;
})

-- ---- how a computation behaves

-- what it tells: the events, by names of words, and the end
pub record Behaviour (N : Type 0) : Type 0 where
  pub events : List (Event N ℕ)
  pub end : End

abbrev pub behaviour : {N : Type 0} → (Whence → N) → Report Whence ℕ → Behaviour N
behaviour name t = record { events = map (event_to name (λ (k : ℕ). k)) t.events; end = t.end }

-- that it tells this at every level and under every fuel from some on
pub record Behaves {N : Type 0} (name : Whence → N) (m : Levelled) (low : Option ℕ)
    (feed : List (Thing Whence ℕ)) (u : Behaviour N) : Type 0 where
  pub enough : ℕ
  pub is : (d f : ℕ) → enough ≤ d → enough ≤ f → behaviour name (m d low f feed) ≡ u

-- ---- two meanings

-- What is compared: two worlds, the names of their words, the items of which feeds consist, and which globals
-- of the one belong to which of the other where nothing runs.
pub record Sides : Type 1 where
  pub one : World
  pub other : World
  pub Names : Type 0
  pub name : Whence → Names
  pub name_too : Whence → Names
  pub Fits : Item → Type 0
  pub Stores : Store → Store → Type 0

-- all items of a feed are such
abbrev pub FeedOf : (Item → Type 0) → List Item → Type 0
FeedOf P [] = Unit {0}
FeedOf P (i ∷ is) = P i × FeedOf P is

-- an item with the words that come with it, by its number
abbrev pub numbered : ℕ → Item → Thing Whence ℕ
numbered k i = record {
  item = i;
  words = CameWord k 0 ∷ CameWord k 1 ∷ CameWord k 2 ∷ CameWord k 3 ∷ [];
  entry = k;
}

-- the globals of all modules at the start
abbrev pub first_store : World → Store
first_store world = map (λ (u : Program). u.globals) world

module _ (S : Sides) where
  -- On each feed shorter than n both come to the same, whatever was wiped and wherever the numbers begin.
  pub record SameBehaviour (n : ℕ) (m m' : Levelled) : Type 0 where
    pub is : (low : Option ℕ) (k : ℕ) (feed : List Item) → length feed < n → FeedOf S.Fits feed
        → (u : Behaviour S.Names)
        × Behaves S.name m low (numbered_items k feed) u
        × Behaves S.name_too m' low (numbered_items k feed) u

  -- with each value, from globals that belong to each other
  abbrev pub SameContinuation : ℕ → Continuation → Continuation → Type 0
  SameContinuation n k k' = (v : ℤ) (st st' : Store) → S.Stores st st'
      → SameBehaviour n (λ d. k d v st) (λ d. k' d v st')

  -- both wait with the same part, number, base and words given, and go on alike; or none waits
  abbrev pub SameWaiting : ℕ → Option Waiter → Option Waiter → Type 0
  SameWaiting n None None = Unit {0}
  SameWaiting n (Some c) (Some c') =
      (c.part ≡ c'.part) × (c.site ≡ c'.site) × (c.base ≡ c'.base) × (c.given ≡ c'.given)
      × SameContinuation n c.resume c'.resume
  SameWaiting n None (Some c') = ⊥
  SameWaiting n (Some c) None = ⊥

  -- two calls are told alike
  abbrev pub SameCall : Way Whence ℕ → Way Whence ℕ → List Value → List Value → Type 0
  SameCall w w' vs vs' = (part : List ℕ) (site base : ℕ) (low : Option ℕ)
      → event_to S.name (λ (k : ℕ). k) (call_event Whence ℕ part site base w vs low)
      ≡ event_to S.name_too (λ (k : ℕ). k) (call_event Whence ℕ part site base w' vs' low)

  -- where the feed is asked
  abbrev pub SameWaits : ℕ → Type 0
  SameWaits n =
      (c c' : Option Waiter) (st st' : Store) → SameWaiting n c c' → S.Stores st st'
      → SameBehaviour n (λ d. (level tracing S.one d).wait (wait_at c d) st)
      (λ d. (level tracing S.other d).wait (wait_at c' d) st')

  -- neither is there, or both are, and belong to each other
  abbrev pub BothFound : (Target → Target → Type 0) → Option Target → Option Target → Type 0
  BothFound T None None = Unit {0}
  BothFound T (Some t) (Some t') = T t t'
  BothFound T None (Some t') = ⊥
  BothFound T (Some t) None = ⊥

  -- What is shown of procedures, so that the meanings are the same: shared ones of one name belong to each
  -- other; entered by an item or hopped to they tell the same, once that holds of what is told after; and so
  -- it is from the start.
  pub record SameProcedures (size : ℕ) : Type 1 where
    pub Targets : Target → Target → Type 0
    pub found : (part name : List ℕ) → BothFound Targets (found S.one part name) (found S.other part name)
    pub parts : (t t' : Target) → Targets t t' → part_name_of S.one t.home ≡ part_name_of S.other t'.home
    pub enters : (n : ℕ) → SameWaits n → (t t' : Target) → Targets t t' → (part name : List ℕ)
        (left : Option ℕ) (ints : List (Option ℤ)) (pairs : List FeedPair) (back : FeedBack)
        → S.Fits (Enter part name left ints pairs back) → (k : ℕ) (q q' : Continuation)
        → SameContinuation n q q'
        → (st st' : Store) → S.Stores st st'
        → SameBehaviour n (λ d. (level tracing S.one d).proc t left
        (tracing.fed S.one (numbered k (Enter part name left ints pairs back)) ints pairs) (q d) st)
        (λ d. (level tracing S.other d).proc t' left
        (tracing.fed S.other (numbered k (Enter part name left ints pairs back)) ints pairs) (q' d) st')
    pub hops : (n : ℕ) → SameWaits n → (t t' : Target) → Targets t t' → (c c' : Option Waiter)
        → SameWaiting n c c' → (left : Option ℕ) (v : ℤ) (st st' : Store) → S.Stores st st'
        → SameBehaviour n (λ d. (level tracing S.one d).hop (wait_at c d) left t v st)
        (λ d. (level tracing S.other d).hop (wait_at c' d) left t' v st')
    pub starts : (n : ℕ) → SameWaits n
        → SameBehaviour n (λ d. start tracing S.one (level tracing S.one d) size (main_target S.one)
        (first_store S.one))
        (λ d. start tracing S.other (level tracing S.other d) size (main_target S.other)
        (first_store S.other))

  -- the two refined meanings tell the same and end the same way, on each feed of such items, under every
  -- large enough fuel
  abbrev pub SameRefined : ℕ → Type 0
  SameRefined size =
      (feed : List Item) → FeedOf S.Fits feed → (enough : ℕ)
      × ((f : ℕ) → enough ≤ f
      → ((report_to S.name (λ (k : ℕ). k) (refined S.one size feed f)).events
      ≡ (report_to S.name_too (λ (k : ℕ). k) (refined S.other size feed f)).events)
      × ((refined S.one size feed f).end ≡ (refined S.other size feed f).end))

-- the law
abbrev pub ProceduresDecide : Type 1
ProceduresDecide = (S : Sides) (size : ℕ) → SameProcedures S size → SameRefined S size
