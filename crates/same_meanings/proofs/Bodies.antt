-- Procedures without calls and loops that come to the same tell the same, whatever enters them.
use Rattle.std.proofs.Common.{◌≡◌, ℕ, suc, ◌+◌, ◌-◌, ℤ, pos, List, [], ◌∷◌, ◌++◌, Option, Some, None, Bool}
use Rattle.std.proofs.Common.{true, false, refl, ap, subst}
use Rattle.std.specs.Prelude.{slice_index_or}
use Rattle.source_events.specs.declared.FeedPair.{FeedPair}
use Rattle.source_events.specs.declared.FeedPair.TheVariants as fed
use Rattle.source_events.specs.declared.Item.TheVariants.{Enter}
use Rattle.proc_program.specs.declared.program.Procedure.{Procedure}
use Rattle.proc_program.specs.StepView.{block_of}
use Rattle.proc_semantics.specs.declared.value.Target.{Target}
use Rattle.proc_semantics.specs.declared.value.Pair.{Pair}
use Rattle.proc_semantics.specs.declared.value.Value.{Value}
use Rattle.proc_semantics.specs.declared.value.Value.TheVariants.{Num, Closure, Other}
use Rattle.proc_semantics.specs.declared.value.Register.{Register}
use Rattle.proc_semantics.specs.Values.{World, Store, register_of, first_of, rest_of, taken, if_there}
use Rattle.proc_semantics.specs.Values.{pair_fed, registers_fed}
use Rattle.proc_semantics.specs.Rules.{Level, level, with_place, enough, body_of, begin, proc_of, finish}
use Rattle.proc_semantics.specs.Marked.{Whence, Frame, Regs}
use Rattle.same_meanings.specs.Same.{tracing, Levelled, Continuation, Sides, numbered, SameBehaviour}
use Rattle.same_meanings.specs.Same.{SameContinuation}
use Rattle.same_meanings.specs.Straight.{AllStraight, Completion, body_outcome, a_number, a_closure, an_other}
use Rattle.same_meanings.specs.Straight.{SameValues, no_values, and_value, SameOutcome, both_break, both_stop}
use Rattle.same_meanings.specs.Straight.{both_give, SameStraight, StraightDecide}
use Rattle.same_meanings.proofs.Steps.{same_as, both_deeper, both_higher, ticked, ticked_too, ticks}
use Rattle.same_meanings.proofs.Steps.{both_fail, both_halt, both_wipe, both_place}
use Rattle.same_meanings.proofs.Waits.{procedures_decide}
use Rattle.same_meanings.proofs.Straight.{LevelledNext, went, body_tells}

-- ---- values that parameters take

pub data BothThere {A : Type 0} : Option A → Option A → Type 0 where
  neither : BothThere None None
  both_there : (x y : A) → BothThere (Some x) (Some y)

pub record SameRegister (r s : Register) : Type 0 where
  pub number : r.number ≡ s.number
  pub pair : BothThere r.pair s.pair

pub data SameRegisters : List Register → List Register → Type 0 where
  no_registers : SameRegisters [] []
  and_register : {r s : Register} {rs ss : List Register} → SameRegister r s → SameRegisters rs ss
      → SameRegisters (r ∷ rs) (s ∷ ss)

pub data SameTaken : Option (List Value) → Option (List Value) → Type 0 where
  not_taken : SameTaken None None
  all_taken : {vs ws : List Value} → SameValues vs ws → SameTaken (Some vs) (Some ws)

pub value_register : (v : ℤ) → SameRegister (register_of (Num v)) (register_of (Num v))
value_register v = record { number = refl; pair = neither }

first_same : (rs ss : List Register) → SameRegisters rs ss → SameRegister (first_of rs) (first_of ss)
first_same _ _ no_registers = value_register (pos 0)
first_same _ _ (and_register r m) = r

rest_same : (rs ss : List Register) → SameRegisters rs ss → SameRegisters (rest_of rs) (rest_of ss)
rest_same _ _ no_registers = no_registers
rest_same _ _ (and_register r m) = m

pub behind_same : (vs ws xs ys : List Value) → SameValues vs ws → SameValues xs ys
    → SameValues (vs ++ xs) (ws ++ ys)
behind_same _ _ xs ys no_values more = more
behind_same _ _ xs ys (and_value {vs = vs} {ws = ws} v m) more =
    and_value v (behind_same vs ws xs ys m more)

taken_same : (cs : List Bool) (vs ws : List Value) (rs ss : List Register) → SameValues vs ws
    → SameRegisters rs ss → SameTaken (taken vs cs rs) (taken ws cs ss)
taken_same [] vs ws rs ss v r = all_taken v
taken_same (false ∷ cs) vs ws rs ss v r =
    subst (λ o. SameTaken (if_there (first_of rs).number (λ x. taken (vs ++ Num x ∷ []) cs (rest_of rs)))
    (if_there o (λ x. taken (ws ++ Num x ∷ []) cs (rest_of ss)))) (first_same rs ss r).number
    (by (first_of rs).number
    (λ x. taken_same cs (vs ++ Num x ∷ []) (ws ++ Num x ∷ []) (rest_of rs) (rest_of ss)
    (behind_same vs ws _ _ v (and_value (a_number x) no_values)) (rest_same rs ss r)))
  where
    by : (o : Option ℤ)
        → ((x : ℤ) → SameTaken (taken (vs ++ Num x ∷ []) cs (rest_of rs))
        (taken (ws ++ Num x ∷ []) cs (rest_of ss)))
        → SameTaken (if_there o (λ x. taken (vs ++ Num x ∷ []) cs (rest_of rs)))
        (if_there o (λ x. taken (ws ++ Num x ∷ []) cs (rest_of ss)))
    by None h = not_taken
    by (Some x) h = h x
taken_same (true ∷ cs) vs ws rs ss v r =
    by (first_of rs).pair (first_of ss).pair (first_same rs ss r).pair
    (λ p q. taken_same cs ((vs ++ Closure p ∷ []) ++ Other ∷ []) ((ws ++ Closure q ∷ []) ++ Other ∷ [])
    (rest_of (rest_of rs)) (rest_of (rest_of ss))
    (behind_same _ _ _ _ (behind_same vs ws _ _ v (and_value (a_closure p q) no_values))
    (and_value an_other no_values)) (rest_same _ _ (rest_same rs ss r)))
  where
    by : (o u : Option Pair) → BothThere o u
        → ((p q : Pair) → SameTaken (taken ((vs ++ Closure p ∷ []) ++ Other ∷ []) cs (rest_of (rest_of rs)))
        (taken ((ws ++ Closure q ∷ []) ++ Other ∷ []) cs (rest_of (rest_of ss))))
        → SameTaken
        (if_there o (λ p. taken ((vs ++ Closure p ∷ []) ++ Other ∷ []) cs (rest_of (rest_of rs))))
        (if_there u (λ p. taken ((ws ++ Closure p ∷ []) ++ Other ∷ []) cs (rest_of (rest_of ss))))
    by _ _ neither h = not_taken
    by _ _ (both_there p q) h = h p q

-- what comes with an item
fed_there : (W W' : World) (x : FeedPair) → BothThere (pair_fed W x) (pair_fed W' x)
fed_there W W' fed.Nothing = neither
fed_there W W' fed.Bad = both_there _ _
fed_there W W' fed.Out = both_there _ _
fed_there W W' (fed.Hop p n) = both_there _ _

pub fed_same : (W W' : World) (ints : List (Option ℤ)) (pairs : List FeedPair)
    → SameRegisters (registers_fed W ints pairs) (registers_fed W' ints pairs)
fed_same W W' ints pairs =
    and_register (one 0) (and_register (one 1) (and_register (one 2) (and_register (one 3) no_registers)))
  where
    one : (i : ℕ) → SameRegister (record {
      number = slice_index_or ints i None;
      pair = pair_fed W (slice_index_or pairs i fed.Nothing);
    }) (record {
      number = slice_index_or ints i None;
      pair = pair_fed W' (slice_index_or pairs i fed.Nothing);
    })
    one i = record { number = refl; pair = fed_there W W' (slice_index_or pairs i fed.Nothing) }

-- ---- bodies

module _ (S : Sides) (n : ℕ) (q q' : Continuation) (s : SameContinuation S n q q') where
  went_same : (p p' : Procedure) (k k' : LevelledNext) (o o' : Completion) → SameOutcome S.Stores o o'
      → SameBehaviour S n (went o (λ d. finish tracing S.one p.need (q d)) k)
      (went o' (λ d. finish tracing S.other p'.need (q' d)) k')
  went_same p p' k k' _ _ both_break = both_fail S n
  went_same p p' k k' _ _ (both_stop v) = both_halt S n v
  went_same p p' k k' _ _ (both_give v st st' e) =
      ticks S (1 + p.need) (1 + p'.need) n (λ d. q d v st) (λ d. q' d v st') (s v st st' e)

  pub bodies_same : (l l' : ℕ → Level tracing) (f g : Frame Whence ℕ) (p p' : Procedure)
      → AllStraight (block_of p.body) → AllStraight (block_of p'.body) → (env env' : List Value)
      (st st' : Store)
      → SameOutcome S.Stores (body_outcome f.home p env st) (body_outcome g.home p' env' st')
      → SameBehaviour S n (λ d. body_of tracing S.one (l d) f p (Some env) (q d) st)
      (λ d. body_of tracing S.other (l' d) g p' (Some env') (q' d) st')
  bodies_same l l' f g p p' i i' env env' st st' o =
      body_tells (λ m. SameBehaviour S n m (λ d. body_of tracing S.other (l' d) g p' (Some env') (q' d) st'))
      (λ m t. ticked S n m _ t) S.one l f p i env q (λ d env st. tracing.failing) st
      (body_tells (λ m. SameBehaviour S n (went (body_outcome f.home p env st)
      (λ d. finish tracing S.one p.need (q d)) (λ d env st. tracing.failing)) m)
      (λ m t. ticked_too S n _ m t) S.other l' g p' i' env' q' (λ d env st. tracing.failing) st'
      (went_same p p' _ _ (body_outcome f.home p env st) (body_outcome g.home p' env' st') o))

-- ---- procedures

module _ (S : Sides) (n : ℕ) (q q' : Continuation) (s : SameContinuation S n q q') (t t' : Target)
    (is : SameStraight S t t') (rs rs' : Regs Whence ℕ) (same : SameRegisters rs.registers rs'.registers)
    (st st' : Store) (stores : S.Stores st st') where
  abbrev Begun : ℕ → List Bool → Option ℕ → Levelled
  Begun need cs left d =
      with_place tracing (enough need left)
      (λ given. tracing.beginning given need
      (body_of tracing S.other (level tracing S.other d) (tracing.frame t'.home given is.other rs') is.other
      (taken [] cs rs'.registers) (q' (suc d)) st'))

  taken_bodies : (given given' : ℕ) (o o' : Option (List Value)) → SameTaken o o'
      → SameBehaviour S n (λ d. body_of tracing S.one (level tracing S.one d)
      (tracing.frame t.home given is.one rs) is.one o (q (suc d)) st)
      (λ d. body_of tracing S.other (level tracing S.other d) (tracing.frame t'.home given' is.other rs')
      is.other o' (q' (suc d)) st')
  taken_bodies given given' _ _ not_taken = both_fail S n
  taken_bodies given given' _ _ (all_taken {vs = vs} {ws = ws} v) =
      bodies_same S n (λ d. q (suc d)) (λ d. q' (suc d))
      (λ v st st' e. both_higher S n (λ d. q d v st) (λ d. q' d v st') (s v st st' e)) (level tracing S.one)
      (level tracing S.other) (tracing.frame t.home given is.one rs)
      (tracing.frame t'.home given' is.other rs') is.one is.other is.straight is.straight_too vs ws st st'
      (is.same vs ws v st st' stores)

  begun : (left : Option ℕ)
      → SameBehaviour S n (λ d. begin tracing S.one (level tracing S.one d) t.home is.one left rs (q (suc d))
      st)
      (Begun is.other.need is.other.callbacks left)
  begun left =
      subst (λ x. SameBehaviour S n
      (λ d. begin tracing S.one (level tracing S.one d) t.home is.one left rs (q (suc d)) st)
      (Begun x is.other.callbacks left)) is.need
      (subst (λ x. SameBehaviour S n
      (λ d. begin tracing S.one (level tracing S.one d) t.home is.one left rs (q (suc d)) st)
      (Begun is.one.need x left)) is.callbacks
      (both_place S n (enough is.one.need left) _ _
      (λ given e. both_wipe S n (given - is.one.need) _ _
      (taken_bodies given given _ _
      (taken_same is.one.callbacks [] [] rs.registers rs'.registers no_values same)))))

  -- whatever its registers are
  pub straight_same : (left : Option ℕ)
      → SameBehaviour S n (λ d. (level tracing S.one d).proc t left rs (q d) st)
      (λ d. (level tracing S.other d).proc t' left rs' (q' d) st')
  straight_same left =
      both_deeper S n _ _
      (same_as S n _ _ _ _
      (λ d. ap (λ o. proc_of tracing S.one (level tracing S.one d) t.home o left rs (q (suc d)) st) is.one_is)
      (λ d. ap (λ o. proc_of tracing S.other (level tracing S.other d) t'.home o left rs' (q' (suc d)) st')
      is.other_is)
      (ticks S (1 + is.one.need) (1 + is.other.need) n _ _ (begun left)))

pub straight_decide : StraightDecide
straight_decide S size P = procedures_decide S size (record {
  Targets = P.Targets;
  found = P.found;
  parts = P.parts;
  enters = λ n waits t t' is part name left ints pairs back fits k q q' s st st' e.
      straight_same S n q q' s t t' (P.straight t t' is)
      (tracing.fed S.one (numbered k (Enter part name left ints pairs back)) ints pairs)
      (tracing.fed S.other (numbered k (Enter part name left ints pairs back)) ints pairs)
      (fed_same S.one S.other ints pairs) st st' e left;
  hops = P.hops;
  starts = P.starts;
})
