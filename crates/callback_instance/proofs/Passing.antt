-- Both modules mean the same: they tell the same of each feed, also while a call of the callback waits.
use Rattle.std.proofs.Common.{◌≡◌, ℕ, suc, ◌+◌, ◌-◌, ℤ, pos, List, [], ◌∷◌, Option, Some, None, true, false}
use Rattle.std.proofs.Common.{refl, ap, ◌∙◌, subst}
use Rattle.std.specs.Prelude.{slice_index_or}
use Rattle.source_events.specs.declared.FeedPair.{FeedPair}
use Rattle.source_events.specs.declared.FeedPair.TheVariants as fed
use Rattle.source_events.specs.declared.Item.TheVariants.{Enter}
use Rattle.source_events.specs.declared.FeedBack.{FeedBack}
use Rattle.proc_language.specs.declared.tree.Op.TheVariants.{Plus}
use Rattle.proc_names.specs.Names.{variable_named, callee_named}
use Rattle.proc_program.specs.declared.program.Program.{Program}
use Rattle.proc_program.specs.declared.program.Procedure.{Procedure}
use Rattle.proc_program.specs.Lower.{part_of}
use Rattle.proc_semantics.specs.declared.value.Target.{Target}
use Rattle.proc_semantics.specs.declared.value.Pair.{Pair}
use Rattle.proc_semantics.specs.declared.value.Pair.TheVariants.{Bad, Outside, Runs}
use Rattle.proc_semantics.specs.declared.value.Value.TheVariants.{Num, Closure, Other}
use Rattle.proc_semantics.specs.Told.{repeated}
use Rattle.proc_semantics.specs.Values.{Store, found, main_target, register_of, pair_fed, pair_found}
use Rattle.proc_semantics.specs.Values.{if_there}
use Rattle.proc_semantics.specs.Rules.{Then, Level, level, with_number, result_of, enough, call, given_from}
use Rattle.proc_semantics.specs.Rules.{call_by, body_of, proc_of, finish}
use Rattle.proc_semantics.specs.Marked.{Whence, CameWord, Frame, Way}
use Rattle.same_meanings.specs.Same.{tracing, Continuation, Waiter, wait_at, Sides, SameBehaviour}
use Rattle.same_meanings.specs.Same.{SameContinuation, SameCall, SameWaits, BothFound, SameRefined, numbered}
use Rattle.same_meanings.proofs.Offers.{both_deeper, both_higher, ticks, both_fail, both_wipe, both_call}
use Rattle.same_meanings.proofs.Offers.{same_as, both_number, both_place, starts_without, tick, head_of, it}
use Rattle.same_meanings.proofs.Offers.{Both, IsSingle, both_found, single_decides}
use Rattle.callback_instance.specs.Passes.{passes, stores}

abbrev U : Program
U = part_of passes

abbrev V : Program
V = part_of stores

abbrev P : Procedure
P = head_of U.procs

abbrev Q : Procedure
Q = head_of V.procs

-- the globals of the other: one word
abbrev one_word : ℤ → Store
one_word v = (v ∷ []) ∷ []

abbrev Holds : Store → Type 0
Holds st = (w : ℤ) × (st ≡ one_word w)

-- the call of the callback: its pair's words are in the places of the procedure
abbrev by_callback : List (Option Whence) → Way Whence ℕ
by_callback words = record {
  first = slice_index_or words 1 None;
  second = slice_index_or words 2 None;
  words = None ∷ [];
}

-- ---- the bodies

passes_body : (l : Level tracing) (left : ℕ) (words : List (Option Whence)) (v : ℤ) (p : Pair)
    (k : Then tracing) (st : Store)
    → body_of tracing (U ∷ []) l (record { home = 0; left = left; need = 6; words = words }) P
    (Some (Num v ∷ Closure p ∷ Other ∷ [])) k st
    ≡ repeated tick 5
    (with_number tracing (result_of Plus v v)
    (λ s st. call tracing (U ∷ []) l (record { home = 0; left = left; need = 6; words = words }) 0
    (by_callback words) p (Num s ∷ []) (finish tracing (U ∷ []) 6 k) st) st)
unfolding variable_named callee_named
passes_body l left words v p k st = refl

stores_body : (l : Level tracing) (left : ℕ) (words : List (Option Whence)) (v w : ℤ) (p : Pair)
    (k : Then tracing)
    → body_of tracing (V ∷ []) l (record { home = 0; left = left; need = 6; words = words }) Q
    (Some (Num v ∷ Closure p ∷ Other ∷ [])) k (one_word w)
    ≡ repeated tick 7
    (with_number tracing (result_of Plus v v)
    (λ s st. call tracing (V ∷ []) l (record { home = 0; left = left; need = 6; words = words }) 0
    (by_callback words) p (Num s ∷ []) (finish tracing (V ∷ []) 6 k) st) (one_word v))
unfolding variable_named callee_named
stores_body l left words v w p k = refl

-- ---- whom names lead to

one_single : IsSingle U (116 ∷ []) (102 ∷ [])
one_single = record { procedure = P; only = refl; part_is = refl; name_is = refl; shared = refl }

other_single : IsSingle V (116 ∷ []) (102 ∷ [])
other_single = record { procedure = Q; only = refl; part_is = refl; name_is = refl; shared = refl }

no_main : main_target (U ∷ []) ≡ None
unfolding main_target
no_main = refl

no_main_too : main_target (V ∷ []) ≡ None
unfolding main_target
no_main_too = refl

-- a pair that comes with an item, in both
data SamePair : Pair → Pair → Type 0 where
  bad_pair : SamePair Bad Bad
  outer_pair : SamePair Outside Outside
  own_pair : SamePair (Runs it) (Runs it)

data MaybePair : Option Pair → Option Pair → Type 0 where
  no_pair : MaybePair None None
  a_pair : {p q : Pair} → SamePair p q → MaybePair (Some p) (Some q)

module _ (N : Type 0) (name name' : Whence → N)
    (came : (k j : ℕ) → name (CameWord k j) ≡ name' (CameWord k j)) where
  abbrev S : Sides
  S = record {
    one = U ∷ [];
    other = V ∷ [];
    Names = N;
    name = name;
    name_too = name';
    Fits = λ i. Unit {0};
    Stores = λ st st'. Holds st';
  }

  abbrev At : ℕ → Level tracing
  At d = level tracing (U ∷ []) d

  abbrev At' : ℕ → Level tracing
  At' d = level tracing (V ∷ []) d

  names_same : (p n : List ℕ) → BothFound S Both (found (U ∷ []) p n) (found (V ∷ []) p n)
  names_same p n = both_found S U V (116 ∷ []) (102 ∷ []) p n one_single other_single

  found_pair : (o o' : Option Target) → BothFound S Both o o'
      → SamePair (pair_found o) (pair_found o')
  found_pair None None b = bad_pair
  found_pair (Some t) (Some t') b =
      subst (λ x. SamePair (Runs x) (Runs t')) b.0
      (subst (λ x. SamePair (Runs it) (Runs x)) b.1 own_pair)
  found_pair None (Some t') b = absurd b
  found_pair (Some t) None b = absurd b

  fed_pair : (x : FeedPair) → MaybePair (pair_fed (U ∷ []) x) (pair_fed (V ∷ []) x)
  fed_pair fed.Nothing = no_pair
  fed_pair fed.Bad = a_pair bad_pair
  fed_pair fed.Out = a_pair outer_pair
  fed_pair (fed.Hop p n) = a_pair (found_pair (found (U ∷ []) p n) (found (V ∷ []) p n) (names_same p n))

  -- with one number in the registers it fails, as there is no callback
  alone : (n : ℕ) (left : Option ℕ) (v : ℤ) (ws ws' : List (Option Whence)) (k k' : Continuation)
      (st st' : Store)
      → SameBehaviour S n
      (λ d. proc_of tracing (U ∷ []) (At d) 0 (Some P) left
      (record { registers = register_of (Num v) ∷ []; words = ws }) (k d) st)
      (λ d. proc_of tracing (V ∷ []) (At' d) 0 (Some Q) left
      (record { registers = register_of (Num v) ∷ []; words = ws' }) (k' d) st')
  alone n left v ws ws' k k' st st' =
      ticks S 7 7 n _ _
      (both_place S n (enough 6 left) _ _
      (λ given e. both_wipe S n (given - 6) (λ d. tracing.failing) (λ d. tracing.failing) (both_fail S n)))

  module _ (n : ℕ) (waits : SameWaits S n) where
    -- the same words of the callback's pair
    called : (k : ℕ) (v : ℤ)
        → SameCall S (by_callback (None ∷ Some (CameWord k 1) ∷ Some (CameWord k 2) ∷ []))
        (by_callback (None ∷ Some (CameWord k 1) ∷ Some (CameWord k 2) ∷ [])) (Num v ∷ []) (Num v ∷ [])
    called k v part site base low = rw (came k 1, came k 2) refl

    module _ (k left : ℕ) (q q' : Continuation) (then_same : SameContinuation S n q q') where
      abbrev words : List (Option Whence)
      words = None ∷ Some (CameWord k 1) ∷ Some (CameWord k 2) ∷ []

      abbrev frame : Frame Whence ℕ
      frame = record { home = 0; left = left; need = 6; words = words }

      -- what goes on with an answer
      answered_same : SameContinuation S n (λ d. finish tracing (U ∷ []) 6 (q (suc d)))
          (λ d. finish tracing (V ∷ []) 6 (q' (suc d)))
      answered_same v st st' h =
          ticks S 7 7 n (λ d. q (suc d) v st) (λ d. q' (suc d) v st')
          (both_higher S n (λ d. q d v st) (λ d. q' d v st') (then_same v st st' h))

      by_pair : (given : ℕ) (v : ℤ) (x x' : Pair) → SamePair x x' → (st st' : Store) → Holds st'
          → SameBehaviour S n
          (λ d. call_by tracing (U ∷ []) (At d) 0 given 0 (by_callback words) x (Num v ∷ [])
          (finish tracing (U ∷ []) 6 (q (suc d))) st)
          (λ d. call_by tracing (V ∷ []) (At' d) 0 given 0 (by_callback words) x' (Num v ∷ [])
          (finish tracing (V ∷ []) 6 (q' (suc d))) st')
      by_pair given v _ _ bad_pair st st' h = both_fail S n
      by_pair given v _ _ outer_pair st st' h =
          let c : Waiter = record {
            part = 116 ∷ [];
            site = 0;
            base = 300 + given;
            given = given;
            resume = λ d. finish tracing (U ∷ []) 6 (q (suc d));
          } in
          let c' : Waiter = record c { resume = λ d. finish tracing (V ∷ []) 6 (q' (suc d)) } in
          both_call S n (116 ∷ []) 0 (300 + given) (by_callback words) (by_callback words) (Num v ∷ [])
          (Num v ∷ []) (λ d. (At d).wait (wait_at (Some c) d) st)
          (λ d. (At' d).wait (wait_at (Some c') d) st')
          (called k v) (waits (Some c) (Some c') st st' (refl, refl, refl, refl, answered_same) h)
      by_pair given v _ _ own_pair st st' h =
          both_deeper S n _ _
          (alone n (Some given) v (None ∷ []) (None ∷ [])
          (λ d. finish tracing (U ∷ []) 6 (q (suc (suc d))))
          (λ d. finish tracing (V ∷ []) 6 (q' (suc (suc d))))
          st st')

      call_same : (v : ℤ) (x x' : Pair) → SamePair x x' → (st st' : Store) → Holds st'
          → SameBehaviour S n
          (λ d. call tracing (U ∷ []) (At d) frame 0 (by_callback words) x (Num v ∷ [])
          (finish tracing (U ∷ []) 6 (q (suc d))) st)
          (λ d. call tracing (V ∷ []) (At' d) frame 0 (by_callback words) x' (Num v ∷ [])
          (finish tracing (V ∷ []) 6 (q' (suc d))) st')
      call_same v x x' s st st' h =
          both_place S n (given_from left 6) _ _ (λ given e. by_pair given v x x' s st st' h)

      -- the bodies, from a number and a pair
      body_same : (v : ℤ) (x x' : Pair) → SamePair x x' → (st st' : Store) → Holds st'
          → SameBehaviour S n
          (λ d. body_of tracing (U ∷ []) (At d) frame P (Some (Num v ∷ Closure x ∷ Other ∷ [])) (q (suc d))
          st)
          (λ d. body_of tracing (V ∷ []) (At' d) frame Q (Some (Num v ∷ Closure x' ∷ Other ∷ [])) (q' (suc d))
          st')
      body_same v x x' s st st' h =
          same_as S n _ _ _ _
          (λ d. passes_body (At d) left words v x (q (suc d)) st)
          (λ d. ap (body_of tracing (V ∷ []) (At' d) frame Q (Some (Num v ∷ Closure x' ∷ Other ∷ []))
          (q' (suc d))) h.1
          ∙ stores_body (At' d) left words v h.0 x' (q' (suc d)))
          (ticks S 5 7 n _ _
          (both_number S n (result_of Plus v v) _ _ st (one_word v)
          (λ sum e. call_same sum x x' s st (one_word v) (v, refl))))

      -- from what comes with an item
      taken_same : (o : Option ℤ) (x x' : Option Pair) → MaybePair x x' → (st st' : Store) → Holds st'
          → SameBehaviour S n
          (λ d. body_of tracing (U ∷ []) (At d) frame P
          (if_there o (λ v. if_there x (λ p. Some (Num v ∷ Closure p ∷ Other ∷ [])))) (q (suc d)) st)
          (λ d. body_of tracing (V ∷ []) (At' d) frame Q
          (if_there o (λ v. if_there x' (λ p. Some (Num v ∷ Closure p ∷ Other ∷ [])))) (q' (suc d)) st')
      taken_same None x x' s st st' h = both_fail S n
      taken_same (Some v) _ _ no_pair st st' h = both_fail S n
      taken_same (Some v) _ _ (a_pair {p = x} {q = x'} s) st st' h = body_same v x x' s st st' h

    enters : (part called : List ℕ) (left : Option ℕ) (ints : List (Option ℤ)) (pairs : List FeedPair)
        (back : FeedBack) (k : ℕ) (q q' : Continuation) → SameContinuation S n q q' → (st st' : Store)
        → Holds st'
        → SameBehaviour S n
        (λ d. (At d).proc it left
        (tracing.fed (U ∷ []) (numbered k (Enter part called left ints pairs back)) ints pairs) (q d) st)
        (λ d. (At' d).proc it left
        (tracing.fed (V ∷ []) (numbered k (Enter part called left ints pairs back)) ints pairs) (q' d) st')
    enters part called left ints pairs back k q q' s st st' h =
        both_deeper S n _ _
        (ticks S 7 7 n _ _
        (both_place S n (enough 6 left) _ _
        (λ given e. both_wipe S n (given - 6) _ _
        (taken_same k given q q' s (slice_index_or ints 0 None)
        (pair_fed (U ∷ []) (slice_index_or pairs 1 fed.Nothing))
        (pair_fed (V ∷ []) (slice_index_or pairs 1 fed.Nothing))
        (fed_pair (slice_index_or pairs 1 fed.Nothing)) st st' h))))

    -- one that is hopped to has one number in its registers
    hops : (c c' : Option Waiter) (left : Option ℕ) (v : ℤ) (st st' : Store)
        → SameBehaviour S n (λ d. (At d).hop (wait_at c d) left it v st)
        (λ d. (At' d).hop (wait_at c' d) left it v st')
    hops c c' left v st st' =
        both_deeper S n _ _
        (alone n left v (None ∷ []) (None ∷ []) (λ d. (At d).hop (wait_at c (suc d)) left it)
        (λ d. (At' d).hop (wait_at c' (suc d)) left it) st st')

  -- on each feed
  pub passes_same : (size : ℕ) → SameRefined S size
  passes_same size =
      single_decides S size names_same refl
      (λ n waits part called left ints pairs back k q q' s st st' h.
      enters n waits part called left ints pairs back k q q' s st st' h)
      (λ n waits c c' left v st st' h. hops n waits c c' left v st st')
      (λ n waits. starts_without S size n no_main no_main_too (pos 0, refl) waits)
