-- Both modules mean the same, and end the same way: their code is straight, and comes to the same.
use Rattle.std.proofs.Common.{◌≡◌, ℕ, zero, suc, ◌+◌, ◌-◌, ℤ, pos, negsuc, List, [], ◌∷◌, ◌++◌, map, Option}
use Rattle.std.proofs.Common.{Some, None, true, false, refl, sym, ap, ◌∙◌, arith, subst}
use Rattle.std.specs.Prelude.{slice_index_or, ◌^◌}
use Rattle.std.proofs.lemmas.Bool.Decides.{Decides-int_eq}
use Rattle.source_events.specs.declared.End.TheVariants.{OutOfFuel}
use Rattle.proc_language.specs.declared.tree.Op.TheVariants.{Plus}
use Rattle.proc_names.specs.Names.{variable_named}
use Rattle.proc_program.specs.declared.program.Program.{Program}
use Rattle.proc_program.specs.declared.program.Procedure.{Procedure}
use Rattle.proc_program.specs.Lower.{part_of}
use Rattle.proc_semantics.specs.declared.value.Value.{Value}
use Rattle.proc_semantics.specs.declared.value.Value.TheVariants.{Num, Other}
use Rattle.proc_semantics.specs.Told.{repeated}
use Rattle.proc_semantics.specs.Values.{Store, found, main_target, number_in}
use Rattle.proc_semantics.specs.Rules.{Then, Level, Wait, result_of, with_number, with_place, enough, body_of}
use Rattle.proc_semantics.specs.Rules.{finish, level}
use Rattle.proc_semantics.specs.Marked.{Whence, Frame, Thing}
use Rattle.proc_semantics.specs.Marked as tagged
use Rattle.same_meanings.specs.Same.{wait_at, tracing, Behaviour, behaviour, Sides, SameBehaviour}
use Rattle.same_meanings.specs.Same.{SameRefined}
use Rattle.same_meanings.specs.Straight.{Completion, Gives, GoesOn, with_some, followed, body_outcome}
use Rattle.same_meanings.specs.Straight.{SameOutcome, both_break, both_give, SameValue, SameValues, a_number}
use Rattle.same_meanings.specs.Straight.{a_closure, an_other, no_values, and_value, SameStraight}
use Rattle.same_meanings.proofs.Offers.{any_feed, tick, both_deeper, ticks, both_place, both_wipe}
use Rattle.same_meanings.proofs.Offers.{both_number, same_as, starts_without, straight_decide, behind_same}
use Rattle.same_meanings.proofs.Offers.{head_of, it, Both, of_both, HopSame, IsSingle, both_found}
use Rattle.same_meanings.specs.Observed.{name_of, by_number, MeanTheSame, EndTheSame}
use Rattle.same_meanings.specs.Observed as observing
use Rattle.same_meanings.proofs.Offers.{settled_mean, settled_ends}
use Rattle.context_instance.specs.Doubles.{sums, keeps}
use Rattle.context_instance.proofs.Doubled.{Grows, doubled, at_last}

abbrev U : Program
U = part_of sums

abbrev V : Program
V = part_of keeps

abbrev P : Procedure
P = head_of U.procs

abbrev Q : Procedure
Q = head_of V.procs

-- the globals of the other: one word
abbrev one_word : ℤ → Store
one_word v = (v ∷ []) ∷ []

abbrev Holds : Store → Type 0
Holds st = (w : ℤ) × (st ≡ one_word w)

abbrev S : Sides
S = record {
  one = U ∷ [];
  other = V ∷ [];
  Names = observing.Name;
  name = name_of (U ∷ []);
  name_too = name_of (V ∷ []);
  Fits = λ i. Unit {0};
  Stores = λ st st'. Holds st';
}

-- ---- what the bodies come to

number_same : (i : ℕ) (vs ws : List Value) → SameValues vs ws
    → number_in (slice_index_or vs i Other) ≡ number_in (slice_index_or ws i Other)
number_same i _ _ no_values = refl
number_same zero _ _ (and_value v m) = by _ _ v
  where
    by : (x y : Value) → SameValue x y → number_in x ≡ number_in y
    by _ _ (a_number v) = refl
    by _ _ (a_closure p q) = refl
    by _ _ an_other = refl
number_same (suc i) _ _ (and_value {vs = vs} {ws = ws} v m) = number_same i vs ws m

-- with a sum
abbrev gives : Option ℤ → Store → Completion
gives o st =
    followed (followed (with_some o (λ v. Gives v st)) (λ env st. GoesOn env st)) (λ env st. Gives (pos 0) st)

sum_same : (o : Option ℤ) (st st' : Store) → Holds st' → SameOutcome S.Stores (gives o st) (gives o st')
sum_same None st st' h = both_break
sum_same (Some v) st st' h = both_give v st st' h

sums_gives : (env : List Value) (st : Store)
    → body_outcome 0 P env st ≡ gives (result_of Plus (number_in (slice_index_or (env ++ []) 0 Other))
    (number_in (slice_index_or (env ++ []) 0 Other))) st
unfolding variable_named
sums_gives env st = refl

-- a sum that is given ends a procedure, whatever stands after
gives_first : (o : Option ℤ) (st : Store) (f : List Value → Store → Completion)
    → followed (followed (followed (with_some o (λ v. Gives v st)) (λ env st. GoesOn env st)) f)
    (λ env st. Gives (pos 0) st) ≡ gives o st
gives_first None st f = refl
gives_first (Some v) st f = refl

keeps_gives : (env : List Value) (w : ℤ)
    → body_outcome 0 Q env (one_word w) ≡ gives (result_of Plus (number_in (slice_index_or (env ++ []) 0
    Other))
    (number_in (slice_index_or (env ++ []) 0 Other))) (one_word (number_in (slice_index_or (env ++ []) 0
    Other)))
unfolding variable_named
keeps_gives env w =
    let x = number_in (slice_index_or (env ++ []) 0 Other) in
    rw ((Decides-int_eq x x).1 refl) (gives_first (result_of Plus x x) (one_word x) _)

bodies : (env env' : List Value) → SameValues env env' → (st st' : Store) → Holds st'
    → SameOutcome S.Stores (body_outcome 0 P env st) (body_outcome 0 Q env' st')
bodies env env' v st st' h =
    let x = number_in (slice_index_or (env ++ []) 0 Other) in
    let y = number_in (slice_index_or (env' ++ []) 0 Other) in
    let same : x ≡ y = number_same 0 (env ++ []) (env' ++ []) (behind_same env env' [] [] v no_values) in
    subst (λ z. SameOutcome S.Stores (body_outcome 0 P env st) (body_outcome 0 Q env' z)) (sym h.1)
    (subst (λ z. SameOutcome S.Stores z (body_outcome 0 Q env' (one_word h.0))) (sym (sums_gives env st))
    (subst (λ z. SameOutcome S.Stores (gives (result_of Plus x x) st) z) (sym (keeps_gives env' h.0))
    (subst (λ z. SameOutcome S.Stores (gives (result_of Plus x x) st) (gives (result_of Plus z z) (one_word
    z)))
    same (sum_same (result_of Plus x x) st (one_word x) (x, refl)))))

they_are : SameStraight S it it
they_are = record {
  one = P;
  other = Q;
  one_is = refl;
  other_is = refl;
  need = refl;
  callbacks = refl;
  straight = ((tt, tt), tt);
  straight_too = (tt, (((tt, tt), ((tt, tt), tt), tt), (tt, tt)));
  same = bodies;
}

-- ---- hops: one that hops to itself doubles its value until the sum is too large, or goes on with 0

abbrev At : ℕ → Level tracing
At d = level tracing (U ∷ []) d

abbrev At' : ℕ → Level tracing
At' d = level tracing (V ∷ []) d

sums_body : (l : Level tracing) (f : Frame Whence ℕ) (v : ℤ) (k : Then tracing) (st : Store)
    → body_of tracing (U ∷ []) l f P (Some (Num v ∷ [])) k st
    ≡ repeated tick 4 (with_number tracing (result_of Plus v v) (finish tracing (U ∷ []) P.need k) st)
unfolding variable_named
sums_body l f v k st = refl

keeps_home : (l : Level tracing) (left need : ℕ) (words : List (Option Whence)) (v w : ℤ) (k : Then tracing)
    → body_of tracing (V ∷ []) l (record { home = 0; left = left; need = need; words = words }) Q
    (Some (Num v ∷ [])) k (one_word w)
    ≡ repeated tick 10
    (with_number tracing (result_of Plus v v) (finish tracing (V ∷ []) Q.need k) (one_word v))
unfolding variable_named
keeps_home l left need words v w k = rw ((Decides-int_eq v v).1 refl) refl

keeps_body : (l : Level tracing) (left need : ℕ) (words : List (Option Whence)) (v : ℤ) (k : Then tracing)
    (st : Store) → Holds st
    → body_of tracing (V ∷ []) l (record { home = 0; left = left; need = need; words = words }) Q
    (Some (Num v ∷ [])) k st
    ≡ repeated tick 10
    (with_number tracing (result_of Plus v v) (finish tracing (V ∷ []) Q.need k) (one_word v))
keeps_body l left need words v k st h =
    ap (body_of tracing (V ∷ []) l (record { home = 0; left = left; need = need; words = words }) Q
    (Some (Num v ∷ [])) k) h.1
    ∙ keeps_home l left need words v h.0 k

module _ (left : Option ℕ) where
  abbrev Waits : Type 0
  Waits = ℕ → Option (Wait tracing)

  abbrev Hops : ℕ → ℤ → Type 0
  Hops n v = (cs cs' : Waits) (st st' : Store) → Holds st'
      → SameBehaviour S n (λ d. (At d).hop (cs d) left it v st) (λ d. (At' d).hop (cs' d) left it v st')

  -- one hop more
  once : (n : ℕ) (v : ℤ) → ((w : ℤ) → result_of Plus v v ≡ Some w → Hops n w) → Hops n v
  once n v more cs cs' st st' h =
      both_deeper S n _ _
      (ticks S (1 + P.need) (1 + Q.need) n _ _
      (both_place S n (enough P.need left) _ _
      (λ given e. both_wipe S n (given - P.need) _ _
      (same_as S n _ _ _ _
      (λ d. sums_body (At d) (tracing.frame 0 given P (tracing.single v)) v ((At d).hop (cs (suc d)) left it)
      st)
      (λ d. keeps_body (At' d) given Q.need (None ∷ []) v ((At' d).hop (cs' (suc d)) left it) st' h)
      (ticks S 4 10 n _ _
      (both_number S n (result_of Plus v v) _ _ st (one_word v)
      (λ w e. ticks S (1 + P.need) (1 + Q.need) n _ _
      (more w e (λ d. cs (suc d)) (λ d. cs' (suc d)) st (one_word v) (v, refl)))))))))

  grows : (j n : ℕ) (v : ℤ) → Grows j v → Hops n v
  grows zero n v g = once n v (λ w e. let bad : None ≡ Some w = sym (at_last v g) ∙ e in absurd cc)
  grows (suc j) n v g = once n v (λ w e. grows j n w (doubled j v w g e))

  -- with 0 neither ever has fuel enough
  abbrev never : Behaviour observing.Name
  never = record { events = []; end = OutOfFuel }

  record Never (name : Whence → observing.Name) (m : tracing.Comp) : Type 0 where
    pub is : (low : Option ℕ) (f : ℕ) (feed : List (Thing Whence ℕ)) → behaviour name (m low f feed) ≡ never

  tick_never : (name : Whence → observing.Name) (m : tracing.Comp) → Never name m → Never name (tick m)
  tick_never name m s = record { is = is }
    where
      is : (low : Option ℕ) (f : ℕ) (feed : List (Thing Whence ℕ))
          → behaviour name (tick m low f feed) ≡ never
      is low zero feed = refl
      is low (suc f) feed = s.is low f feed

  ticks_never : (name : Whence → observing.Name) (n : ℕ) (m : tracing.Comp) → Never name m
      → Never name (repeated tick n m)
  ticks_never name zero m s = s
  ticks_never name (suc n) m s = tick_never name (repeated tick n m) (ticks_never name n m s)

  wipes_never : (name : Whence → observing.Name) (n : ℕ) (m : tracing.Comp) → Never name m
      → Never name (tagged.wipes Whence ℕ n m)
  wipes_never name n m s =
      record { is = λ low f feed. s.is (Some (tagged.lower Whence ℕ low n)) f feed }

  module _ (given : ℕ) (e : enough P.need left ≡ Some given) where
    sums_never : (d : ℕ) (c : Option (Wait tracing)) (st : Store)
        → Never S.name ((At d).hop c left it (pos 0) st)
    sums_never zero c st = record { is = λ low f feed. refl }
    sums_never (suc d) c st =
        subst (Never S.name)
        (sym (ap (λ o. repeated tick (1 + P.need) (with_place tracing o
        (λ g. tagged.wipes Whence ℕ (g - P.need) (body_of tracing (U ∷ []) (At d)
        (tracing.frame 0 g P (tracing.single (pos 0))) P (Some (Num (pos 0) ∷ [])) ((At d).hop c left it)
        st)))) e))
        (ticks_never S.name (1 + P.need) _
        (wipes_never S.name (given - P.need) _
        (subst (Never S.name)
        (sym (sums_body (At d) (tracing.frame 0 given P (tracing.single (pos 0))) (pos 0) ((At d).hop c left
        it) st))
        (ticks_never S.name 4 _ (ticks_never S.name (1 + P.need) _ (sums_never d c st))))))

    keeps_never : (d : ℕ) (c : Option (Wait tracing)) (st : Store) → Holds st
        → Never S.name_too ((At' d).hop c left it (pos 0) st)
    keeps_never zero c st h = record { is = λ low f feed. refl }
    keeps_never (suc d) c st h =
        subst (Never S.name_too)
        (sym (ap (λ o. repeated tick (1 + Q.need) (with_place tracing o
        (λ g. tagged.wipes Whence ℕ (g - Q.need) (body_of tracing (V ∷ []) (At' d)
        (tracing.frame 0 g Q (tracing.single (pos 0))) Q (Some (Num (pos 0) ∷ [])) ((At' d).hop c left it)
        st)))) e))
        (ticks_never S.name_too (1 + Q.need) _
        (wipes_never S.name_too (given - Q.need) _
        (subst (Never S.name_too)
        (sym (keeps_body (At' d) given Q.need (None ∷ []) (pos 0) ((At' d).hop c left it) st h))
        (ticks_never S.name_too 10 _ (ticks_never S.name_too (1 + Q.need) _
        (keeps_never d c (one_word (pos 0)) (pos 0, refl)))))))

  zeros : (n : ℕ) (o : Option ℕ) → enough P.need left ≡ o → Hops n (pos 0)
  zeros n None none cs cs' st st' h =
      both_deeper S n _ _
      (ticks S (1 + P.need) (1 + Q.need) n _ _
      (both_place S n (enough P.need left) _ _
      (λ given e. let bad : None ≡ Some given = sym none ∙ e in absurd cc)))
  zeros n (Some given) e cs cs' st st' h = record {
    is = λ low k feed lt fits. (
      never,
      record { enough = 0; is = λ d f a b. (sums_never given e d (cs d) st).is low f _ },
      record { enough = 0; is = λ d f a b. (keeps_never given e d (cs' d) st' h).is low f _ },
    );
  }

  hops : (n : ℕ) (v : ℤ) → Hops n v
  hops n (pos zero) = zeros n _ refl
  hops n (pos (suc j)) = grows (2 ^ 63) n (pos (suc j)) (omega arith, omega arith)
  hops n (negsuc j) = grows (2 ^ 63) n (negsuc j) (omega arith)

-- ---- both

one_single : IsSingle U (116 ∷ []) (102 ∷ [])
one_single = record { procedure = P; only = refl; part_is = refl; name_is = refl; shared = refl }

other_single : IsSingle V (116 ∷ []) (102 ∷ [])
other_single = record { procedure = Q; only = refl; part_is = refl; name_is = refl; shared = refl }

no_main : (main_target (U ∷ []) ≡ None) × (main_target (V ∷ []) ≡ None)
unfolding main_target
no_main = (refl, refl)

ways_same : (size : ℕ) → SameRefined S size
ways_same size = straight_decide S size (record {
  Targets = Both;
  straight = of_both (SameStraight S) they_are;
  found = λ p n. both_found S U V (116 ∷ []) (102 ∷ []) p n one_single other_single;
  parts = of_both _ refl;
  hops = λ n waits t t' b c c' w left v st st' h.
      of_both (HopSame S n) (λ c c' left v st st' h. hops left n v (wait_at c) (wait_at c') st st' h) t t' b c
      c'
      left v st st' h;
  starts = λ n waits. starts_without S size n no_main.0 no_main.1 (pos 0, refl) waits;
})

pub mean_the_same : (size : ℕ) → MeanTheSame by_number (map part_of (sums ∷ [])) (map part_of (keeps ∷ []))
    size
mean_the_same size =
    settled_mean (U ∷ []) (V ∷ []) size
    (λ feed fits. let r = ways_same size feed (any_feed feed) in (r.0, λ f le. (r.1 f le).0))

pub end_the_same : (size : ℕ) → EndTheSame by_number (map part_of (sums ∷ [])) (map part_of (keeps ∷ [])) size
end_the_same size =
    settled_ends (U ∷ []) (V ∷ []) size
    (λ feed fits. let r = ways_same size feed (any_feed feed) in (r.0, λ f le. (r.1 f le).1))
