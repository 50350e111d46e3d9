-- Two computations that tell the same, the one of which also notes numbers, and what keeps that they do.
use Rattle.std.proofs.Common.{◌≡◌, refl, sym, ◌∙◌, ap, subst, ℕ, zero, suc, ◌+◌, ◌<◌, ◌≤◌, arith, Bool, true}
use Rattle.std.proofs.Common.{false, if◌then◌else◌, List, [], ◌∷◌, ◌++◌, length, Option, Some, None}
use Rattle.std.proofs.Common.{slice_set, max}
use Rattle.std.specs.Prelude.{is_some}
use Rattle.source_events.specs.declared.Item.{Item}
use Rattle.source_events.specs.declared.OutEvent.{OutEvent}
use Rattle.source_events.specs.declared.End.{End}
use Rattle.source_events.specs.declared.End.TheVariants.{Fail, OutOfFuel}
use Rattle.source_events.specs.declared.Told.{Told}
use Rattle.proc_language.specs.declared.tree.Name.{Name}
use Rattle.proc_language.specs.Limits.{Each}
use Rattle.proc_semantics.specs.Told as plain
use Rattle.proc_semantics.specs.Told.{counted, said}
use Rattle.proc_semantics.specs.Meaning.{with_place}
use Rattle.token_check.specs.Tokens.{Full, is_full, is_clear, token_at}
use Rattle.token_check.specs.Typing.{Fills, Empties}
use Rattle.token_semantics.specs.Hands.{Hands, Ledger, in_hand, with_made, with_spent, with_given, note_made}
use Rattle.token_semantics.specs.Hands.{note_spent, note_ended, spent_by, count}
use Rattle.token_semantics.specs.Told.{TokensTold, Comp, ends, tick, ticks, emit, take_item, or_fail}
use Rattle.token_semantics.specs.Told.{made, make_at, spent, spend_at, given, give_at, leave}
use Rattle.token_semantics.proofs.HandLemmas.{full_of, held, look, put_full, put_length, made_held}
use Rattle.token_semantics.proofs.HandLemmas.{taken_held, none_held, token_below, below, below_next, below_le}
use Rattle.token_semantics.proofs.HandLemmas.{count_append}

-- a procedure that ended: what it got it spent or handed on, and those that ended spent it
pub record Paid (ended : List Hands) (hands : Hands) : Type 0 where
  pub used : (n : ℕ) → count n hands.got ≡ count n hands.spent + count n hands.gave
  pub all : (n : ℕ) → count n hands.got ≤ count n (spent_by ended)

-- none is spent twice, and those that ended spent no more than was spent
pub record IsPaid (book : Ledger) : Type 0 where
  pub once : (n : ℕ) → count n book.spent ≤ 1
  pub spent : (n : ℕ) → count n (spent_by book.ended) ≤ count n book.spent
  pub ended : Each (Paid book.ended) book.ended

pub record IsFine (t : TokensTold) (p : Told) : Type 0 where
  pub goes : t.stuck ≡ false
  pub told : t.told ≡ p
  pub paid : IsPaid t.ledger

-- of each number, how often those that run hold it, are handing it over, and spent it; and the most often
-- that one of them got it, and those that called that one hold it or spent it, taken together
pub record Running : Type 0 where
  pub held : ℕ → ℕ
  pub moving : ℕ → ℕ
  pub spent : ℕ → ℕ
  pub most : ℕ → ℕ

-- each number below the next is held, handed over or was spent, once; what was spent was spent by those
-- that run or by those that ended; and those that called a procedure neither hold nor spent what it got
pub record Balanced (r : Running) (book : Ledger) : Type 0 where
  pub sum : (n : ℕ) → r.held n + r.moving n + count n book.spent ≡ below n book.next
  pub paid : (n : ℕ) → r.spent n + count n (spent_by book.ended) ≡ count n book.spent
  pub most : (n : ℕ) → r.most n ≤ below n book.next
  pub ended : Each (Paid book.ended) book.ended

-- the one tells what the other does, whatever was noted
abbrev pub Same : Running → Comp → plain.Comp → Type 0
Same r m m' =
    (book : Ledger) → Balanced r book → (fuel : ℕ) (feed : List Item)
    → IsFine (m book fuel feed) (m' fuel feed)

-- each number is as often there and as often spent, and of none has one more than one had, or than there is
pub record AreMore (r r' : Running) : Type 0 where
  pub there : (n : ℕ) → r.held n + r.moving n ≡ r'.held n + r'.moving n
  pub spent : (n : ℕ) → r.spent n ≡ r'.spent n
  pub most : (n : ℕ) → r'.most n ≤ max (r.most n) (r.held n + r.moving n + r.spent n)

pub same_more : (r r' : Running) → AreMore r r' → (m : Comp) (m' : plain.Comp) → Same r' m m' → Same r m m'
same_more r r' more m m' h book bal fuel feed =
    h book (record {
      sum = λ n. ap (λ x. x + count n book.spent) (sym (more.there n)) ∙ bal.sum n;
      paid = λ n. ap (λ x. x + count n (spent_by book.ended)) (sym (more.spent n)) ∙ bal.paid n;
      most = λ n.
          let a = more.most n in
          let b = bal.sum n in
          let c = bal.paid n in
          let d = bal.most n in
          omega (arith, a, b, c, d);
      ended = bal.ended;
    }) fuel feed

pub ended_same : (r : Running) (e : End) → Same r (ends e) (plain.ends e)
ended_same r e book bal fuel feed = record {
  goes = refl;
  told = refl;
  paid = record {
    once = λ n. let s = bal.sum n in let h = below_le n book.next in omega (arith, s, h);
    spent = λ n. let p = bal.paid n in omega (arith, p);
    ended = bal.ended;
  };
}

pub ticked : (r : Running) (m : Comp) (m' : plain.Comp) → Same r m m' → Same r (tick m) (plain.tick m')
ticked r m m' h book bal zero feed =
    record { goes = refl; told = refl; paid = (ended_same r OutOfFuel book bal zero feed).paid }
ticked r m m' h book bal (suc fuel) feed =
    let f = h book bal fuel feed in
    record { goes = f.goes; told = ap counted f.told; paid = f.paid }

pub ticks_same : (r : Running) (n : ℕ) (m : Comp) (m' : plain.Comp) → Same r m m'
    → Same r (ticks n m) (plain.ticks n m')
ticks_same r zero m m' h = h
ticks_same r (suc n) m m' h = ticked r (ticks n m) (plain.ticks n m') (ticks_same r n m m' h)

pub emitted : (r : Running) (e : OutEvent) (m : Comp) (m' : plain.Comp) → Same r m m'
    → Same r (emit e m) (plain.emit e m')
emitted r e m m' h book bal fuel feed =
    let f = h book bal fuel feed in
    record { goes = f.goes; told = ap (said e) f.told; paid = f.paid }

pub item_taken : (r : Running) (k : Item → Comp) (k' : Item → plain.Comp) → ((i : Item) → Same r (k i) (k' i))
    → Same r (take_item k) (plain.take_item k')
item_taken r k k' h book bal fuel [] =
    record { goes = refl; told = refl; paid = (ended_same r Fail book bal fuel []).paid }
item_taken r k k' h book bal fuel (i ∷ feed) = h i book bal fuel feed

pub if_same : (r : Running) (b b' : Bool) → b ≡ b' → (m n : Comp) (m' n' : plain.Comp) → Same r m m'
    → Same r n n' → Same r (if b then m else n) (if b' then m' else n')
if_same r b b' e m n m' n' h k = subst (λ c. Same r (if b then m else n) (if c then m' else n')) e (by b)
  where
    by : (b : Bool) → Same r (if b then m else n) (if b then m' else n')
    by true = h
    by false = k

pub place_same : (r : Running) (o : Option ℕ) (k : ℕ → Comp) (k' : ℕ → plain.Comp)
    → ((i : ℕ) → Same r (k i) (k' i)) → Same r (or_fail o k) (with_place o k')
place_same r None k k' h = ended_same r Fail
place_same r (Some i) k k' h = h i

-- ---- the hands of the procedure that runs

-- they are those of this set, of so many tokens, and hold what they got and didn't spend or hand on
pub record HandsAre (size : ℕ) (s : Full) (hands : Hands) : Type 0 where
  -- the places of the set after those of the tokens
  pub rest : Full
  pub full : full_of hands.holds ++ rest ≡ s
  pub long : length hands.holds ≡ size
  pub had : (n : ℕ) → count n hands.got ≡ held n hands.holds + count n hands.spent + count n hands.gave

abbrev pub plus : Running → Hands → Running
plus r hands = record {
  held = λ n. r.held n + held n hands.holds;
  moving = r.moving;
  spent = λ n. r.spent n + count n hands.spent;
  most = λ n. max (r.most n) (r.held n + r.spent n + count n hands.got);
}

-- numbers that are being handed over
abbrev pub with_numbers : Running → List ℕ → Running
with_numbers r ns = record {
  held = r.held;
  moving = λ n. r.moving n + count n ns;
  spent = r.spent;
  most = r.most;
}

-- when a procedure begins, those that called it hold what they are still to hand over
abbrev pub calling : Running → Running
calling r = record { held = λ n. r.held n + r.moving n; moving = λ n. 0; spent = r.spent; most = r.most }

pub no_numbers_more : (r : Running) (m : Comp) (m' : plain.Comp) → Same r m m' → Same (with_numbers r []) m m'
no_numbers_more r m m' h = same_more (with_numbers r []) r (record {
  there = λ n. omega arith;
  spent = λ n. refl;
  most = λ n. omega arith;
}) m m' h

pub numbers_more : (r : Running) (m : Comp) (m' : plain.Comp) → Same (with_numbers r []) m m' → Same r m m'
numbers_more r m m' h = same_more r (with_numbers r []) (record {
  there = λ n. omega arith;
  spent = λ n. refl;
  most = λ n. omega arith;
}) m m' h

pub are_at : (size : ℕ) (s t : Full) (hands : Hands) → s ≡ t → HandsAre size s hands → HandsAre size t hands
are_at size s t hands e are = record { rest = are.rest; full = are.full ∙ e; long = are.long; had = are.had }

-- ---- what a token does

module _ (ts : List Name) (x : Name) (s u : Full) (hands : Hands) (are : HandsAre (length ts) s hands)
    (r : Running) where
  -- the token has a place, and is full where the set has it
  within : (i : ℕ) → token_at ts x ≡ Some i → i < length hands.holds
  within i e = let b = token_below ts x i e in let l = are.long in omega (arith, b, l)

  is_held : (i : ℕ) → i < length hands.holds → (b : Bool) → is_full s i ≡ b → is_some (in_hand hands i) ≡ b
  is_held i low b h = sym (look hands.holds are.rest i low) ∙ ap (λ f. is_full f i) are.full ∙ h

  put_full_at : (i : ℕ) → i < length hands.holds → (y : Option ℕ) → slice_set s i (is_some y) ≡ u
      → full_of (slice_set hands.holds i y) ++ are.rest ≡ u
  put_full_at i low y e =
      sym (put_full hands.holds are.rest i y low) ∙ ap (λ f. slice_set f i (is_some y)) are.full ∙ e

  given_are : (i m : ℕ) → i < length hands.holds → in_hand hands i ≡ Some m → slice_set s i false ≡ u
      → HandsAre (length ts) u (with_given i m hands)
  given_are i m low e t = record {
    rest = are.rest;
    full = put_full_at i low None t;
    long = put_length hands.holds i None ∙ are.long;
    had = λ n. let c = taken_held n m hands.holds i e in let h = are.had n in omega (arith, c, h);
  }

  spent_are : (i m : ℕ) → i < length hands.holds → in_hand hands i ≡ Some m → slice_set s i false ≡ u
      → HandsAre (length ts) u (with_spent i m hands)
  spent_are i m low e t = record {
    rest = are.rest;
    full = put_full_at i low None t;
    long = put_length hands.holds i None ∙ are.long;
    had = λ n. let c = taken_held n m hands.holds i e in let h = are.had n in omega (arith, c, h);
  }

  made_are : (i m : ℕ) → i < length hands.holds → in_hand hands i ≡ None → slice_set s i true ≡ u
      → HandsAre (length ts) u (with_made i m hands)
  made_are i m low e t = record {
    rest = are.rest;
    full = put_full_at i low (Some m) t;
    long = put_length hands.holds i (Some m) ∙ are.long;
    had = λ n. let c = made_held n m hands.holds i low e in let h = are.had n in omega (arith, c, h);
  }

  pub give_same : Empties (token_at ts x) s u → (k : ℕ → Hands → Comp) (m' : plain.Comp)
      → ((m : ℕ) (hands : Hands) → HandsAre (length ts) u hands
      → Same (with_numbers (plus r hands) (m ∷ [])) (k m hands) m')
      → Same (plus r hands) (give_at (token_at ts x) hands k) m'
  give_same h k m' next = at_place (token_at ts x) refl h
    where
      at_place : (o : Option ℕ) → token_at ts x ≡ o → Empties o s u
          → Same (plus r hands) (give_at o hands k) m'
      at_place None g h = absurd h
      at_place (Some i) g h = by (in_hand hands i) refl
        where
          by : (o : Option ℕ) → in_hand hands i ≡ o → Same (plus r hands) (given i o hands k) m'
          by None e =
              absurd (let f : false ≡ true = sym (ap is_some e) ∙ is_held i (within i g) true h.0 in cc)
          by (Some m) e =
              same_more (plus r hands) (with_numbers (plus r (with_given i m hands)) (m ∷ [])) (record {
                there = λ n. let c = taken_held n m hands.holds i e in omega (arith, c);
                spent = λ n. refl;
                most = λ n. omega arith;
              }) (k m (with_given i m hands)) m'
              (next m (with_given i m hands) (given_are i m (within i g) e h.1))

  pub spend_same : Empties (token_at ts x) s u → (k : Hands → Comp) (m' : plain.Comp)
      → ((hands : Hands) → HandsAre (length ts) u hands → Same (plus r hands) (k hands) m')
      → Same (plus r hands) (spend_at (token_at ts x) hands k) m'
  spend_same h k m' next = at_place (token_at ts x) refl h
    where
      at_place : (o : Option ℕ) → token_at ts x ≡ o → Empties o s u
          → Same (plus r hands) (spend_at o hands k) m'
      at_place None g h = absurd h
      at_place (Some i) g h = by (in_hand hands i) refl
        where
          by : (o : Option ℕ) → in_hand hands i ≡ o → Same (plus r hands) (spent i o hands k) m'
          by None e book bal fuel feed =
              absurd (let f : false ≡ true = sym (ap is_some e) ∙ is_held i (within i g) true h.0 in cc)
          by (Some m) e book bal fuel feed =
              next (with_spent i m hands) (spent_are i m (within i g) e h.1) (note_spent m book) (record {
                sum = λ n.
                    let c = taken_held n m hands.holds i e in
                    let b = bal.sum n in
                    omega (arith, c, b);
                paid = λ n. let b = bal.paid n in omega (arith, b);
                most = bal.most;
                ended = bal.ended;
              }) fuel feed

  pub make_same : Fills (token_at ts x) s u → (k : Hands → Comp) (m' : plain.Comp)
      → ((hands : Hands) → HandsAre (length ts) u hands → Same (plus r hands) (k hands) m')
      → Same (plus r hands) (make_at (token_at ts x) hands k) m'
  make_same h k m' next = at_place (token_at ts x) refl h
    where
      at_place : (o : Option ℕ) → token_at ts x ≡ o → Fills o s u → Same (plus r hands) (make_at o hands k) m'
      at_place None g h = absurd h
      at_place (Some i) g h = by (in_hand hands i) refl
        where
          by : (o : Option ℕ) → in_hand hands i ≡ o → Same (plus r hands) (made i o hands k) m'
          by (Some m) e book bal fuel feed =
              absurd (let f : true ≡ false = sym (ap is_some e) ∙ is_held i (within i g) false h.0 in cc)
          by None e book bal fuel feed =
              let m = book.next in
              next (with_made i m hands) (made_are i m (within i g) e h.1) (note_made book) (record {
                sum = λ n.
                    let b = bal.sum n in
                    let c = made_held n m hands.holds i (within i g) e in
                    let d = below_next n m in
                    omega (arith, b, c, d);
                paid = bal.paid;
                most = λ n.
                    let b = bal.most n in
                    let d = below_next n m in
                    omega (arith, b, d);
                ended = bal.ended;
              }) fuel feed

-- ---- a procedure ends

more_paid : (x : Hands) (all ended : List Hands) → Each (Paid all) ended → Each (Paid (x ∷ all)) ended
more_paid x all [] h = tt
more_paid x all (y ∷ ended) h = (
  record {
    used = h.0.used;
    all = λ n.
        let a = h.0.all n in
        let c = count_append n x.spent (spent_by all) in
        omega (arith, a, c);
  },
  more_paid x all ended h.1,
)

pub leave_same : (size : ℕ) (s : Full) (hands : Hands) → HandsAre size s hands → (r : Running)
    → is_clear s ≡ true → (m : Comp) (m' : plain.Comp) → Same r m m'
    → Same (plus (calling r) hands) (leave hands m) m'
leave_same size s hands are r clear m m' h book bal fuel feed =
    let none = λ (n : ℕ). none_held n hands.holds are.rest (ap is_clear are.full ∙ clear) in
    let both = λ (n : ℕ). count_append n hands.spent (spent_by book.ended) in
    h (note_ended hands book) (record {
      sum = λ n. let b = bal.sum n in let z = none n in omega (arith, b, z);
      paid = λ n. let b = bal.paid n in let c = both n in omega (arith, b, c);
      most = λ n. let b = bal.most n in omega (arith, b);
      ended = (
        record {
          used = λ n. let z = none n in let g = are.had n in omega (arith, z, g);
          all = λ n.
              let z = none n in
              let b = bal.sum n in
              let p = bal.paid n in
              let g = bal.most n in
              let c = both n in
              omega (arith, z, b, p, g, c);
        },
        more_paid hands book.ended book.ended bal.ended,
      );
    }) fuel feed
