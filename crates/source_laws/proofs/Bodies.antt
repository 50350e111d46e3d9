-- A compiled procedure, from the code that stands in its part.
use Rattle.source_laws.proofs.Variables.{AtPlace, EnvIn, NumberAt, PairAt}
use Rattle.std.specs.Prelude.{slice_index_or, slice_get}
use Rattle.std.proofs.Common.{◌≡◌, ◌≢◌, ℕ, zero, suc, ◌+◌, ◌<◌, ◌≤◌, ℤ, pos, List, [], ◌∷◌, ◌++◌, length}
use Rattle.std.proofs.Common.{replicate, Option, Some, None, Bool, true, false, refl, sym, ap, ◌∙◌, subst}
use Rattle.std.proofs.Common.{arith}
use Rattle.std.proofs.lemmas.List.{length-replicate}
use Rattle.cap_words.specs.declared.Word.TheVariants.{Int}
use Rattle.cap_words.specs.Linear.{left_of}
use Rattle.lcm_isa.specs.declared.Reg.{Reg}
use Rattle.lcm_isa.specs.declared.Reg.TheVariants.{Pc, Rcode, Rdata, Stk, T1}
use Rattle.lcm_machine.specs.Maps.{Regs}
use Rattle.lcm_machine.specs.Places.{reg, set_reg}
use Rattle.lcm_machine.specs.Table.{fits_64}
use Rattle.lcm_machine.proofs.Offers.{reg-set_other}
use Rattle.linked_starts.specs.Parts.{PartSeen}
use Rattle.overlay_machine.specs.declared.words.OWord.{OWord}
use Rattle.overlay_machine.specs.declared.words.OWord.TheVariants.{Plain}
use Rattle.overlay_machine.specs.Words.{look}
use Rattle.overlay_machine.specs.State.{OpenFrame}
use Rattle.overlay_machine.specs.Link.{Link, IsTrusted}
use Rattle.overlay_machine.specs.Linked.{IsLink}
use Rattle.proc_semantics.specs.declared.value.Pair.{Pair}
use Rattle.proc_semantics.specs.declared.value.Target.{Target}
use Rattle.proc_semantics.specs.declared.value.Value.{Value}
use Rattle.proc_semantics.specs.declared.value.Value.TheVariants.{Num, Closure, Other}
use Rattle.proc_semantics.specs.declared.value.Register.{Register}
use Rattle.proc_semantics.specs.Values.{first_of, rest_of}
use Rattle.proc_templates.specs.Templates.{argument}
use Rattle.source_laws.proofs.CallsIn.{int_public}
use Rattle.source_laws.proofs.Handed.{places, handed, number_first, pair_first}
use Rattle.template_runs.proofs.Offers.{Free, Reads, free_a0, free_a1, free_a2, free_a3}
use Rattle.source_laws.specs.Fits.{kinds_from, AsNumber, AsPair, AsRest}
use Rattle.source_laws.proofs.Arguments.{argument_spare, arguments_differ}
use Rattle.source_laws.proofs.Callings.{IsPair, Passed, no_more, one_more, two_more}
use Rattle.template_runs.specs.Public.{IsPublic}

-- ---- what the prologue reads

abbrev pub argument_regs : ℕ → ℕ → List Reg
argument_regs i zero = []
argument_regs i (suc n) = argument i ∷ argument_regs (i + 1) n

abbrev after_push : Regs OWord → Reg → OWord → OWord → OWord → OWord → Regs OWord
after_push rs r w x y z = set_reg (set_reg (set_reg (set_reg rs r (left_of look Plain w)) Pc x) Stk y) Pc z

push_other : (rs : Regs OWord) (r : Reg) (w x y z : OWord) (d : Reg) → d ≢ Pc → d ≢ Stk → d ≢ r
    → reg (after_push rs r w x y z) d ≡ reg rs d
push_other rs r w x y z d np ns ne =
    let r1 = set_reg rs r (left_of look Plain w) in
    let r2 = set_reg r1 Pc x in
    let r3 = set_reg r2 Stk y in
    reg-set_other r3 Pc d z np ∙ reg-set_other r2 Stk d y ns ∙ reg-set_other r1 Pc d x np
    ∙ reg-set_other rs r d (left_of look Plain w) ne

t1_apart : (i : ℕ) → T1 ≢ argument i
t1_apart zero = λ e. cc
t1_apart (suc zero) = λ e. cc
t1_apart (suc (suc zero)) = λ e. cc
t1_apart (suc (suc (suc zero))) = λ e. cc
t1_apart (suc (suc (suc (suc i)))) = λ e. cc

abbrev Zero : OWord
Zero = Plain (Int (pos 0))

module _ (g : Link) (linked : IsLink g) (p : PartSeen) (ip : IsTrusted g p) (top : ℕ) (mem : ℕ → OWord)
    (fs : List OpenFrame) where
  argument_free : (i : ℕ) → Free g linked (argument i)
  argument_free zero = free_a0 g linked
  argument_free (suc zero) = free_a1 g linked
  argument_free (suc (suc zero)) = free_a2 g linked
  argument_free (suc (suc (suc zero))) = free_a3 g linked
  argument_free (suc (suc (suc (suc i)))) = free_a3 g linked

  free_t1 : Free g linked T1
  free_t1 = record { no_pc = refl; keeps_stk = λ rs x. refl; keeps_dat = λ rs x. refl }

  free_rcode : Free g linked Rcode
  free_rcode = record { no_pc = refl; keeps_stk = λ rs x. refl; keeps_dat = λ rs x. refl }

  free_rdata : Free g linked Rdata
  free_rdata = record { no_pc = refl; keeps_stk = λ rs x. refl; keeps_dat = λ rs x. refl }

  reads_zeros : (rs : Regs OWord) (n : ℕ) → reg rs T1 ≡ Zero
      → Reads g linked p ip top mem fs rs (replicate n T1) (replicate n Zero)
  reads_zeros rs zero e = refl
  reads_zeros rs (suc n) e =
      (free_t1, e, int_public g (pos 0), λ x y z. reads_zeros (after_push rs T1 Zero x y z) n refl)

  reads_args : (rs : Regs OWord) (n i k : ℕ) (xs : List OWord) → i + n ≤ 4 → length xs ≡ n
      → ((j : ℕ) (x : OWord) → slice_get xs j ≡ Some x → reg rs (argument (i + j)) ≡ x)
      → ((j : ℕ) (x : OWord) → slice_get xs j ≡ Some x → IsPublic g x) → reg rs T1 ≡ Zero
      → Reads g linked p ip top mem fs rs (argument_regs i n ++ replicate k T1) (xs ++ replicate k Zero)
  reads_args rs zero i k [] le len h pb e = reads_zeros rs k e
  reads_args rs zero i k (x ∷ xs) le len h pb e = absurd (omega (arith, len))
  reads_args rs (suc n) i k [] le len h pb e = absurd (omega (arith, len))
  reads_args rs (suc n) i k (x ∷ xs) le len h pb e =
      let z0 : i ≡ i + 0 = omega arith in (
        argument_free i,
        ap (λ a. reg rs (argument a)) z0
            ∙ h 0 x refl,
        pb 0 x refl,
        λ a b c. reads_args (after_push rs (argument i) x a b c) n (i + 1) k xs (omega (arith, le))
            (omega (arith, len))
            (λ j y is. later i a b c j y (omega (arith, le, get_lt xs j y is, len)) (h (suc j) y is))
            (λ j y is. pb (suc j) y is)
            (push_other rs (argument i) x a b c T1 (λ q. cc) (λ q. cc) (t1_apart i) ∙ e),
      )
    where
      get_lt : (xs : List OWord) (j : ℕ) (y : OWord) → slice_get xs j ≡ Some y → j < length xs
      get_lt [] j y is = cc
      get_lt (x ∷ xs) zero y is = omega arith
      get_lt (x ∷ xs) (suc j) y is = let h = get_lt xs j y is in omega (arith, h)

      later : (i : ℕ) (a b c : OWord) (j : ℕ) (y : OWord) → i + 1 + j < 4 → reg rs (argument (i + suc j)) ≡ y
          → reg (after_push rs (argument i) x a b c) (argument (i + 1 + j)) ≡ y
      later i a b c j y lt is =
          let z : i + 1 + j ≡ i + suc j = omega arith in
          let sp = argument_spare (i + 1 + j) in
          push_other rs (argument i) x a b c (argument (i + 1 + j)) sp.0 sp.1
          (λ q. arguments_differ (i + 1 + j) i (omega arith) lt (sym q)) ∙ ap (λ d. reg rs (argument d)) z
          ∙ is

  pub reads_all : (rs : Regs OWord) (rc rd : OWord) (n k : ℕ) (xs : List OWord) → n ≤ 4 → length xs ≡ n
      → reg rs Rcode ≡ rc → reg rs Rdata ≡ rd
      → ((j : ℕ) (x : OWord) → slice_get xs j ≡ Some x → reg rs (argument (0 + j)) ≡ x) → IsPublic g rc
      → IsPublic g rd → ((j : ℕ) (x : OWord) → slice_get xs j ≡ Some x → IsPublic g x) → reg rs T1 ≡ Zero
      → Reads g linked p ip top mem fs rs (Rcode ∷ Rdata ∷ (argument_regs 0 n ++ replicate k T1))
      (rc ∷ rd ∷ (xs ++ replicate k Zero))
  reads_all rs rc rd n k xs le len ec ed h pc pd pb et = (
    free_rcode,
    ec,
    pc,
    λ a b c. (
      free_rdata,
      push_other rs Rcode rc a b c Rdata (λ q. cc) (λ q. cc) (λ q. cc)
          ∙ ed,
      pd,
      λ a2 b2 c2. reads_args _ n 0 k xs (omega (arith, le)) len
          (λ j x is. let sp = argument_spare (0 + j) in
          push_other (after_push rs Rcode rc a b c) Rdata rd a2 b2 c2 (argument (0 + j)) sp.0 sp.1
          (no_rdata (0 + j)) ∙ push_other rs Rcode rc a b c (argument (0 + j)) sp.0 sp.1 (no_rcode (0 + j))
          ∙ h j x is) pb
          (push_other (after_push rs Rcode rc a b c) Rdata rd a2 b2 c2 T1 (λ q. cc) (λ q. cc) (λ q. cc)
          ∙ push_other rs Rcode rc a b c T1 (λ q. cc) (λ q. cc) (λ q. cc) ∙ et),
    ),
  )
    where
      no_rcode : (i : ℕ) → argument i ≢ Rcode
      no_rcode zero = λ e. cc
      no_rcode (suc zero) = λ e. cc
      no_rcode (suc (suc zero)) = λ e. cc
      no_rcode (suc (suc (suc zero))) = λ e. cc
      no_rcode (suc (suc (suc (suc i)))) = λ e. cc

      no_rdata : (i : ℕ) → argument i ≢ Rdata
      no_rdata zero = λ e. cc
      no_rdata (suc zero) = λ e. cc
      no_rdata (suc (suc zero)) = λ e. cc
      no_rdata (suc (suc (suc zero))) = λ e. cc
      no_rdata (suc (suc (suc (suc i)))) = λ e. cc

-- ---- the kinds of a procedure's places

pub kinds_length : (bs : List Bool) (n : ℕ) → length (kinds_from bs n) ≡ places bs + n
kinds_length [] n = let e = length-replicate n AsNumber in omega (arith, e)
kinds_length (false ∷ bs) n = let e = kinds_length bs n in omega (arith, e)
kinds_length (true ∷ bs) n = let e = kinds_length bs n in omega (arith, e)

no_pairs : (n i : ℕ) → slice_get (replicate n AsNumber) i ≡ Some AsPair → ⊥
no_pairs zero i e = cc
no_pairs (suc n) zero e = let z : Some AsNumber ≡ Some AsPair = e in cc
no_pairs (suc n) (suc i) e = no_pairs n i e

pub rests : (bs : List Bool) (n i : ℕ) → slice_get (kinds_from bs n) i ≡ Some AsPair
    → slice_get (kinds_from bs n) (i + 1) ≡ Some AsRest
rests [] n i e = absurd (no_pairs n i e)
rests (false ∷ bs) n zero e = absurd (let z : Some AsNumber ≡ Some AsPair = e in cc)
rests (false ∷ bs) n (suc i) e = let z : suc i + 1 ≡ suc (i + 1) = omega arith in
    ap (slice_get (AsNumber ∷ kinds_from bs n)) z ∙ rests bs n i e
rests (true ∷ bs) n zero e = refl
rests (true ∷ bs) n (suc zero) e = absurd (let z : Some AsRest ≡ Some AsPair = e in cc)
rests (true ∷ bs) n (suc (suc i)) e = let z : suc (suc i) + 1 ≡ suc (suc (i + 1)) = omega arith in
    ap (slice_get (AsPair ∷ AsRest ∷ kinds_from bs n)) z ∙ rests bs n i e

-- values have the kinds of the parameters that took them
abbrev Matches : List Bool → List Value → Type 0
Matches [] env = env ≡ []
Matches (false ∷ bs) env = (v : ℤ) × (rest : List Value) × (env ≡ Num v ∷ rest) × Matches bs rest
Matches (true ∷ bs) env = (r : Pair) × (rest : List Value) × (env ≡ Closure r ∷ Other ∷ rest)
    × Matches bs rest

by_number : (bs : List Bool) (env : List Value) (o : Option ℤ) (t : Option (List Value))
    → ((vs : List Value) → t ≡ Some vs → Matches bs vs) → number_first o t ≡ Some env
    → Matches (false ∷ bs) env
by_number bs env None t f h = absurd cc
by_number bs env (Some v) None f h = absurd cc
by_number bs env (Some v) (Some vs) f h = (v, vs, (let s : Num v ∷ vs ≡ env = cc in sym s), f vs refl)

by_pair : (bs : List Bool) (env : List Value) (o : Option Pair) (t : Option (List Value))
    → ((vs : List Value) → t ≡ Some vs → Matches bs vs) → pair_first o t ≡ Some env → Matches (true ∷ bs) env
by_pair bs env None t f h = absurd cc
by_pair bs env (Some v) None f h = absurd cc
by_pair bs env (Some v) (Some vs) f h =
    (v, vs, (let s : Closure v ∷ Other ∷ vs ≡ env = cc in sym s), f vs refl)

pub matches : (bs : List Bool) (rs : List Register) (env : List Value) → handed bs rs ≡ Some env
    → Matches bs env
matches [] rs env e = let s : [] ≡ env = cc in sym s
matches (false ∷ bs) rs env e = by_number bs env (first_of rs).number (handed bs (rest_of rs))
    (λ vs h. matches bs (rest_of rs) vs h) e
matches (true ∷ bs) rs env e = by_pair bs env (first_of rs).pair (handed bs (rest_of (rest_of rs)))
    (λ vs h. matches bs (rest_of (rest_of rs)) vs h) e

rep_there : {A : Type 0} (n i : ℕ) (a b : A) → slice_get (replicate n a) i ≡ Some b → i < n
rep_there zero i a b e = cc
rep_there (suc n) zero a b e = omega arith
rep_there (suc n) (suc i) a b e = let h = rep_there n i a b e in omega (arith, h)

rep_at : {A : Type 0} (n i : ℕ) (a : A) → i < n → slice_get (replicate n a) i ≡ Some a
rep_at zero i a lt = absurd (omega (arith, lt))
rep_at (suc n) zero a lt = refl
rep_at (suc n) (suc i) a lt = rep_at n i a (omega (arith, lt))

module _ (g : Link) (linked : IsLink g) (Begins : Target → PartSeen → ℕ → Type 0) where
  abbrev Handed : List Value → List (Option OWord) → List OWord → Type 0
  Handed = Passed g linked Begins

  inv_none : (env : List Value) (ms : List (Option OWord)) (xs : List OWord) → env ≡ []
      → Handed env ms xs → xs ≡ []
  inv_none _ _ _ e no_more = refl
  inv_none _ _ _ e (one_more v f h) = cc
  inv_none _ _ _ e (two_more r x y i h) = cc

  inv_number : (v : ℤ) (rest env : List Value) (ms : List (Option OWord)) (xs : List OWord) → env
      ≡ Num v ∷ rest
      → Handed env ms xs → (ws : List OWord) × (ns : List (Option OWord)) × (xs ≡ Plain (Int v) ∷ ws)
      × (fits_64 v ≡ true) × Handed rest ns ws × (ms ≡ None ∷ ns)
  inv_number v rest _ _ _ e no_more = absurd cc
  inv_number v rest _ _ _ e (one_more v2 {vs} {ms = ns} {ws} f h) =
      let a : v2 ≡ v = cc in
      let b : vs ≡ rest = cc in
      (ws, ns, ap (λ y. Plain (Int y) ∷ ws) a, ap fits_64 (sym a) ∙ f, subst (λ y. Handed y ns ws) b h, refl)
  inv_number v rest _ _ _ e (two_more r x y i h) = absurd cc

  inv_pair : (r : Pair) (rest env : List Value) (ms : List (Option OWord)) (xs : List OWord)
      → env ≡ Closure r ∷ Other ∷ rest → Handed env ms xs
      → (x : OWord) × (y : OWord) × (ws : List OWord) × (ns : List (Option OWord)) × (xs ≡ x ∷ y ∷ ws)
      × IsPair g linked Begins r x y × Handed rest ns ws × (ms ≡ Some x ∷ Some y ∷ ns)
  inv_pair r rest _ _ _ e no_more = absurd cc
  inv_pair r rest _ _ _ e (one_more v2 f h) = absurd cc
  inv_pair r rest _ _ _ e (two_more r2 x y {vs} {ms = ns} {ws} i h) =
      let a : r2 ≡ r = cc in
      let b : vs ≡ rest = cc in (
        x,
        y,
        ws,
        ns,
        refl,
        subst (λ z. IsPair g linked Begins z x y) a i,
        subst (λ z. Handed z ns ws) b h,
        refl,
      )

  abbrev Env : List Value → ℕ → List Value
  Env env n = env ++ replicate n (Num (pos 0))

  abbrev Words : List OWord → ℕ → List OWord
  Words xs k = xs ++ replicate k Zero

  numbers_at : (bs : List Bool) (n k : ℕ) (env : List Value) (ms : List (Option OWord)) (xs : List OWord)
      → Matches bs env → Handed env ms xs → n ≤ k → (i : ℕ) → slice_get (kinds_from bs n) i ≡ Some AsNumber
      → (v : ℤ) × (slice_get (Env env n) i ≡ Some (Num v)) × (slice_get (Words xs k) i ≡ Some (Plain (Int v)))
      × (fits_64 v ≡ true)
  numbers_at [] n k env ms xs mt h le i ki =
      let x0 = inv_none env ms xs mt h in
      let lt = rep_there n i AsNumber AsNumber ki in (
        pos 0,
        ap (λ y. slice_get (Env y n) i) mt
            ∙ rep_at n i (Num (pos 0)) lt,
        ap (λ y. slice_get (Words y k) i) x0
            ∙ rep_at k i Zero (omega (arith, lt, le)),
        refl,
      )
  numbers_at (false ∷ bs) n k env ms xs mt h le zero ki =
      let s = inv_number mt.0 mt.1 env ms xs mt.2 h in
      (mt.0, ap (λ y. slice_get (Env y n) 0) mt.2, ap (λ y. slice_get (Words y k) 0) s.2, s.3)
  numbers_at (false ∷ bs) n k env ms xs mt h le (suc i) ki =
      let s = inv_number mt.0 mt.1 env ms xs mt.2 h in
      let r = numbers_at bs n k mt.1 s.1 s.0 mt.3 s.4 le i ki in (
        r.0,
        ap (λ y. slice_get (Env y n) (suc i)) mt.2 ∙ r.1,
        ap (λ y. slice_get (Words y k) (suc i)) s.2
            ∙ r.2,
        r.3,
      )
  numbers_at (true ∷ bs) n k env ms xs mt h le zero ki =
      absurd (let z : Some AsPair ≡ Some AsNumber = ki in cc)
  numbers_at (true ∷ bs) n k env ms xs mt h le (suc zero) ki =
      absurd (let z : Some AsRest ≡ Some AsNumber = ki in cc)
  numbers_at (true ∷ bs) n k env ms xs mt h le (suc (suc i)) ki =
      let s = inv_pair mt.0 mt.1 env ms xs mt.2 h in
      let r = numbers_at bs n k mt.1 s.3 s.2 mt.3 s.6 le i ki in (
        r.0,
        ap (λ y. slice_get (Env y n) (suc (suc i))) mt.2
            ∙ r.1,
        ap (λ y. slice_get (Words y k) (suc (suc i))) s.4 ∙ r.2,
        r.3,
      )

  pairs_at : (bs : List Bool) (n k : ℕ) (env : List Value) (ms : List (Option OWord)) (xs : List OWord)
      → Matches bs env → Handed env ms xs → (i : ℕ) → slice_get (kinds_from bs n) i ≡ Some AsPair
      → (r : Pair) × (x : OWord) × (y : OWord) × (slice_get (Env env n) i ≡ Some (Closure r))
      × (slice_get (Words xs k) i ≡ Some x) × (slice_get (Words xs k) (suc i) ≡ Some y)
      × IsPair g linked Begins r x y × (slice_index_or ms i None ≡ Some x)
      × (slice_index_or ms (suc i) None ≡ Some y)
  pairs_at [] n k env ms xs mt h i ki = absurd (no_pairs n i ki)
  pairs_at (false ∷ bs) n k env ms xs mt h zero ki = absurd (let z : Some AsNumber ≡ Some AsPair = ki in cc)
  pairs_at (false ∷ bs) n k env ms xs mt h (suc i) ki =
      let s = inv_number mt.0 mt.1 env ms xs mt.2 h in
      let r = pairs_at bs n k mt.1 s.1 s.0 mt.3 s.4 i ki in (
        r.0,
        r.1,
        r.2,
        ap (λ y. slice_get (Env y n) (suc i)) mt.2
            ∙ r.3,
        ap (λ y. slice_get (Words y k) (suc i)) s.2
            ∙ r.4,
        ap (λ y. slice_get (Words y k) (suc (suc i))) s.2 ∙ r.5,
        r.6,
        ap (λ y. slice_index_or y (suc i) None) s.5 ∙ r.7,
        ap (λ y. slice_index_or y (suc (suc i)) None) s.5 ∙ r.8,
      )
  pairs_at (true ∷ bs) n k env ms xs mt h zero ki =
      let s = inv_pair mt.0 mt.1 env ms xs mt.2 h in (
        mt.0,
        s.0,
        s.1,
        ap (λ y. slice_get (Env y n) 0) mt.2,
        ap (λ y. slice_get (Words y k) 0) s.4,
        ap (λ y. slice_get (Words y k) 1) s.4,
        s.5,
        ap (λ y. slice_index_or y 0 None) s.7,
        ap (λ y. slice_index_or y 1 None) s.7,
      )
  pairs_at (true ∷ bs) n k env ms xs mt h (suc zero) ki =
      absurd (let z : Some AsRest ≡ Some AsPair = ki in cc)
  pairs_at (true ∷ bs) n k env ms xs mt h (suc (suc i)) ki =
      let s = inv_pair mt.0 mt.1 env ms xs mt.2 h in
      let r = pairs_at bs n k mt.1 s.3 s.2 mt.3 s.6 i ki in (
        r.0,
        r.1,
        r.2,
        ap (λ y. slice_get (Env y n) (suc (suc i))) mt.2
            ∙ r.3,
        ap (λ y. slice_get (Words y k) (suc (suc i))) s.4
            ∙ r.4,
        ap (λ y. slice_get (Words y k) (suc (suc (suc i)))) s.4 ∙ r.5,
        r.6,
        ap (λ y. slice_index_or y (suc (suc i)) None) s.7 ∙ r.7,
        ap (λ y. slice_index_or y (suc (suc (suc i))) None) s.7 ∙ r.8,
      )

  -- the parameters as they were handed, and 0 in the locals
  pub env_in : (bs : List Bool) (n k : ℕ) (env : List Value) (ms : List (Option OWord)) (xs : List OWord)
      (rc rd : OWord) → Matches bs env → Handed env ms xs → n ≤ k
      → EnvIn (kinds_from bs n) (AtPlace ms (IsPair g linked Begins)) (Env env n) (rc ∷ rd ∷ Words xs k)
  env_in bs n k env ms xs rc rd mt h le = record { numbers = number; pairs = pair }
    where
      number : (i : ℕ) → slice_get (kinds_from bs n) i ≡ Some AsNumber
          → NumberAt (kinds_from bs n) (AtPlace ms (IsPair g linked Begins)) (Env env n)
          (rc ∷ rd ∷ Words xs k) i
      number i ki =
          let r = numbers_at bs n k env ms xs mt h le i ki in
          let z : i + 2 ≡ suc (suc i) = omega arith in
          record {
            number = r.0;
            meant = r.1;
            stands = ap (slice_get (rc ∷ rd ∷ Words xs k)) z ∙ r.2;
            fits = r.3;
          }

      pair : (i : ℕ) → slice_get (kinds_from bs n) i ≡ Some AsPair
          → PairAt (kinds_from bs n) (AtPlace ms (IsPair g linked Begins)) (Env env n)
          (rc ∷ rd ∷ Words xs k) i
      pair i ki =
          let r = pairs_at bs n k env ms xs mt h i ki in
          let z2 : i + 1 ≡ suc i = omega arith in
          let z : i + 2 ≡ suc (suc i) = omega arith in
          let z1 : i + 2 + 1 ≡ suc (suc (suc i)) = omega arith in
          record {
            pair = r.0;
            first = r.1;
            second = r.2;
            meant = r.3;
            stands = ap (slice_get (rc ∷ rd ∷ Words xs k)) z ∙ r.4;
            stands_too = ap (slice_get (rc ∷ rd ∷ Words xs k)) z1 ∙ r.5;
            is = (r.6, r.7, ap (λ y. slice_index_or ms y None) z2 ∙ r.8);
          }
