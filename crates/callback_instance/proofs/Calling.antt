-- Both modules with main mean the same.
use Rattle.std.proofs.Common.{◌≡◌, ℕ, suc, ◌+◌, ◌-◌, pos, [], ◌∷◌, map, Option, Some, None, refl}
use Rattle.proc_names.specs.Names.{variable_named, callee_named}
use Rattle.proc_program.specs.declared.program.Program.{Program}
use Rattle.proc_program.specs.declared.program.Procedure.{Procedure}
use Rattle.proc_program.specs.Lower.{part_of}
use Rattle.proc_semantics.specs.declared.value.Pair.TheVariants.{Outside}
use Rattle.proc_semantics.specs.declared.value.Value.TheVariants.{Num}
use Rattle.proc_semantics.specs.Told.{repeated}
use Rattle.proc_semantics.specs.Values.{Store, found, linked, main_target}
use Rattle.proc_semantics.specs.Rules.{Then, Level, level, enough, call, given_from, body_of, proc_of, start}
use Rattle.proc_semantics.specs.Marked.{Whence, ImportWord, CodeHalf, DataHalf, Regs, Way}
use Rattle.same_meanings.specs.Same.{tracing, Continuation, Waiter, wait_at, Sides, SameBehaviour, SameCall}
use Rattle.same_meanings.specs.Same.{SameWaits, SameRefined, first_store}
use Rattle.same_meanings.proofs.Offers.{any_feed, both_deeper, ticks, both_wipe, both_call, both_halt}
use Rattle.same_meanings.proofs.Offers.{both_place, same_as, tick, head_of, it, IsSingle, both_found}
use Rattle.same_meanings.proofs.Offers.{single_decides, settled_mean}
use Rattle.same_meanings.specs.Observed.{name_of, by_number, MeanTheSame}
use Rattle.same_meanings.specs.Observed as observing
use Rattle.callback_instance.specs.Callers.{says, adds}

abbrev U : Program
U = part_of says

abbrev V : Program
V = part_of adds

abbrev P : Procedure
P = head_of U.procs

abbrev Q : Procedure
Q = head_of V.procs

abbrev S : Sides
S = record {
  one = U ∷ [];
  other = V ∷ [];
  Names = observing.Name;
  name = name_of (U ∷ []);
  name_too = name_of (V ∷ []);
  Fits = λ i. Unit {0};
  Stores = λ st st'. Unit {0};
}

abbrev At : ℕ → Level tracing
At d = level tracing (U ∷ []) d

abbrev At' : ℕ → Level tracing
At' d = level tracing (V ∷ []) d

-- the call of the import
abbrev by_import : Way Whence ℕ
by_import = record {
  first = Some (ImportWord 0 0 CodeHalf);
  second = Some (ImportWord 0 0 DataHalf);
  words = None ∷ [];
}

abbrev in_main : ℕ → tracing.Run
in_main left = record { home = 0; left = left; need = P.need; words = [] }

says_body : (l : Level tracing) (left : ℕ) (k : Then tracing) (st : Store)
    → body_of tracing (U ∷ []) l (in_main left) P (Some []) k st
    ≡ repeated tick 3
    (call tracing (U ∷ []) l (in_main left) 0 by_import Outside (Num (pos 6) ∷ []) (λ v st. tracing.halting v)
    st)
unfolding variable_named callee_named found linked
says_body l left k st = refl

adds_body : (l : Level tracing) (left : ℕ) (k : Then tracing) (st : Store)
    → body_of tracing (V ∷ []) l (in_main left) Q (Some []) k st
    ≡ repeated tick 5
    (call tracing (V ∷ []) l (in_main left) 0 by_import Outside (Num (pos 6) ∷ []) (λ v st. tracing.halting v)
    st)
unfolding variable_named callee_named found linked
adds_body l left k st = refl

called : SameCall S by_import by_import (Num (pos 6) ∷ []) (Num (pos 6) ∷ [])
called part site base low = refl

module _ (n : ℕ) (waits : SameWaits S n) where
  -- it calls out, and halts with the answer
  call_same : (left : ℕ) (st st' : Store)
      → SameBehaviour S n
      (λ d. call tracing (U ∷ []) (At d) (in_main left) 0 by_import Outside (Num (pos 6) ∷ [])
      (λ v st. tracing.halting v) st)
      (λ d. call tracing (V ∷ []) (At' d) (in_main left) 0 by_import Outside (Num (pos 6) ∷ [])
      (λ v st. tracing.halting v) st')
  call_same left st st' =
      both_place S n (given_from left P.need) _ _
      (λ given e.
      let c : Waiter = record {
        part = 116 ∷ [];
        site = 0;
        base = 300 + given;
        given = given;
        resume = λ d v st. tracing.halting v;
      } in
      both_call S n (116 ∷ []) 0 (300 + given) by_import by_import (Num (pos 6) ∷ []) (Num (pos 6) ∷ [])
      (λ d. (At d).wait (wait_at (Some c) d) st) (λ d. (At' d).wait (wait_at (Some c) d) st') called
      (waits (Some c) (Some c) st st' (refl, refl, refl, refl, λ v x y h. both_halt S n v) tt))

  runs_same : (left : Option ℕ) (rs rs' : Regs Whence ℕ) (k k' : Continuation) (st st' : Store)
      → SameBehaviour S n (λ d. proc_of tracing (U ∷ []) (At d) 0 (Some P) left rs (k d) st)
      (λ d. proc_of tracing (V ∷ []) (At' d) 0 (Some Q) left rs' (k' d) st')
  runs_same left rs rs' k k' st st' =
      ticks S (1 + P.need) (1 + Q.need) n _ _
      (both_place S n (enough P.need left) _ _
      (λ given e. both_wipe S n (given - P.need) _ _
      (same_as S n _ _ _ _ (λ d. says_body (At d) given (k d) st) (λ d. adds_body (At' d) given (k' d) st')
      (ticks S 3 5 n _ _ (call_same given st st')))))

  proc_same : (left : Option ℕ) (rs rs' : Regs Whence ℕ) (k k' : Continuation) (st st' : Store)
      → SameBehaviour S n (λ d. (At d).proc it left rs (k d) st) (λ d. (At' d).proc it left rs' (k' d) st')
  proc_same left rs rs' k k' st st' =
      both_deeper S n _ _ (runs_same left rs rs' (λ d. k (suc d)) (λ d. k' (suc d)) st st')

  starts : (size : ℕ)
      → SameBehaviour S n (λ d. start tracing (U ∷ []) (At d) size (main_target (U ∷ [])) (first_store (U ∷
      [])))
      (λ d. start tracing (V ∷ []) (At' d) size (main_target (V ∷ [])) (first_store (V ∷ [])))
  unfolding main_target
  starts size =
      proc_same (Some size) tracing.nothing tracing.nothing (λ d v st. tracing.failing) (λ d v st.
      tracing.failing)
      (first_store (U ∷ [])) (first_store (V ∷ []))

  hops : (c c' : Option Waiter) (left : Option ℕ) (v : _) (st st' : Store)
      → SameBehaviour S n (λ d. (At d).hop (wait_at c d) left it v st)
      (λ d. (At' d).hop (wait_at c' d) left it v st')
  hops c c' left v st st' =
      both_deeper S n _ _
      (runs_same left (tracing.single v) (tracing.single v) (λ d. (At d).hop (wait_at c (suc d)) left it)
      (λ d. (At' d).hop (wait_at c' (suc d)) left it) st st')

one_single : IsSingle U (116 ∷ []) (109 ∷ 97 ∷ 105 ∷ 110 ∷ [])
one_single = record { procedure = P; only = refl; part_is = refl; name_is = refl; shared = refl }

other_single : IsSingle V (116 ∷ []) (109 ∷ 97 ∷ 105 ∷ 110 ∷ [])
other_single = record { procedure = Q; only = refl; part_is = refl; name_is = refl; shared = refl }

callers_same : (size : ℕ) → SameRefined S size
callers_same size =
    single_decides S size (λ p n. both_found S U V _ _ p n one_single other_single) refl
    (λ n waits part called left ints pairs back k q q' s st st' h. proc_same n waits left _ _ q q' st st')
    (λ n waits c c' left v st st' h. hops n waits c c' left v st st') (λ n waits. starts n waits size)

pub callers_mean_the_same : (size : ℕ) → MeanTheSame by_number (map part_of (says ∷ []))
    (map part_of (adds ∷ [])) size
callers_mean_the_same size =
    settled_mean (part_of says ∷ []) (part_of adds ∷ []) size
    (λ feed fits. let r = callers_same size feed (any_feed feed) in (r.0, λ f le. (r.1 f le).0))
