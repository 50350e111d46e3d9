-- Procedures of modules, and which of them closure pairs lead to: none from elsewhere takes tokens.
use Rattle.std.proofs.Common.{◌≡◌, refl, sym, ◌∙◌, ap, subst, ℕ, zero, suc, ◌+◌, ℤ, Bool, true}
use Rattle.std.proofs.Common.{false, ◌&&◌, List, [], ◌∷◌, ◌++◌, map, replicate, Option}
use Rattle.std.proofs.Common.{Some, None, slice_get, slice_set, slice_index_or, get_or}
use Rattle.std.proofs.lemmas.Option.{slice_get-map, slice_get_within, get_or_from_slice_get}
use Rattle.std.proofs.lemmas.List.Quantifiers.{position-Some}
use Rattle.std.specs.Prelude.{position, All, unwrap_or, option_map, codes}
use Rattle.std.specs.Option.{option_map_or}
use Rattle.std.specs.Str.{bytes_eq}
use Rattle.source_events.specs.declared.FeedPair.{FeedPair}
use Rattle.source_events.specs.declared.FeedPair.TheVariants as fed
use Rattle.proc_language.proofs.Offers.{each_at}
use Rattle.proc_language.specs.declared.module.Proc.{Proc}
use Rattle.proc_language.specs.declared.module.ModuleFields.{ModuleFields}
use Rattle.proc_language.specs.Limits.{Each}
use Rattle.proc_names.specs.Calls.{proc_calls}
use Rattle.proc_program.specs.declared.program.Handle.{Handle}
use Rattle.proc_program.specs.declared.program.Handle.TheVariants.{Given, Own, Imported}
use Rattle.proc_program.specs.declared.program.ProgramImport.{ProgramImport}
use Rattle.proc_program.specs.declared.program.Procedure.{Procedure}
use Rattle.proc_program.specs.declared.program.Program.{Program}
use Rattle.proc_program.specs.Lower.{procedure_of, procedures_of, part_of}
use Rattle.proc_semantics.specs.declared.value.Target.{Target}
use Rattle.proc_semantics.specs.declared.value.Pair.{Pair}
use Rattle.proc_semantics.specs.declared.value.Pair.TheVariants.{Bad, Outside, Runs}
use Rattle.proc_semantics.specs.declared.value.Value.{Value}
use Rattle.proc_semantics.specs.declared.value.Value.TheVariants.{Num, Closure, Other}
use Rattle.proc_semantics.specs.declared.value.Register.{Register}
use Rattle.proc_semantics.specs.Values.{pair_in, register_of, first_of, rest_of, if_there, taken, home_part}
use Rattle.proc_semantics.specs.Values.{target, proc_in, proc_at, is_named, is_shared, shared_in, shared_at}
use Rattle.proc_semantics.specs.Values.{found, has_main, main_target, pair_found, linked_by, linked}
use Rattle.proc_semantics.specs.Values.{import_in, pair_of, pair_fed, registers_fed}
use Rattle.token_language.specs.declared.module.TokenProc.{TokenProc}
use Rattle.token_language.specs.declared.module.TokenModuleFields.{TokenModuleFields}
use Rattle.token_language.specs.Erased.{erased, erased_proc}
use Rattle.token_semantics.specs.Meaning.{world, first_call}
use Rattle.token_semantics.proofs.Fits.{tokens_taken, taken_by, ProcFits, CallsFit}
use Rattle.token_semantics.specs.Law.{IsAccepted}
use Rattle.token_semantics.proofs.Resolved.{calls_fit}

-- ---- lists

pub all_get : {A : Type 0} (P : A → Type 0) (xs : List A) (i : ℕ) (x : A) → All P xs
    → slice_get xs i ≡ Some x → P x
all_get P xs i x h e = subst P (get_or_from_slice_get xs i x x e) (h i x (slice_get_within xs i x e))

pub each_append : {A : Type 0} (P : A → Type 0) (xs ys : List A) → Each P xs → Each P ys → Each P (xs ++ ys)
each_append P [] ys h k = k
each_append P (x ∷ xs) ys h k = (h.0, each_append P xs ys h.1 k)

pub each_replicate : {A : Type 0} (P : A → Type 0) (n : ℕ) (x : A) → P x → Each P (replicate n x)
each_replicate P zero x h = tt
each_replicate P (suc n) x h = (h, each_replicate P n x h)

pub each_set : {A : Type 0} (P : A → Type 0) (xs : List A) (i : ℕ) (x : A) → Each P xs → P x
    → Each P (slice_set xs i x)
each_set P [] i x h k = tt
each_set P (y ∷ xs) zero x h k = (k, h.1)
each_set P (y ∷ xs) (suc i) x h k = (h.0, each_set P xs i x h.1 k)

same_some : {A : Type 0} (x y : A) (o : Option A) → o ≡ Some x → o ≡ Some y → x ≡ y
same_some x y o e f = let g : Some x ≡ Some y = sym e ∙ f in cc

-- ---- the procedures of a module without tokens

procedures_get : (m : ModuleFields) (n : ℕ) (ps : List Proc) (i : ℕ)
    → slice_get (procedures_of m n ps) i ≡ option_map (procedure_of m (first_call n ps i)) (slice_get ps i)
procedures_get m n [] i = refl
procedures_get m n (p ∷ ps) zero = refl
procedures_get m n (p ∷ ps) (suc i) = procedures_get m (n + proc_calls p) ps i

abbrev pub lowered_at : TokenModuleFields → ℕ → Option TokenProc → Option Procedure
lowered_at m j None = None
lowered_at m j (Some p) = Some (procedure_of (erased m) (first_call 0 (erased m).procs j) (erased_proc p))

abbrev pub lowered_in : Option TokenModuleFields → ℕ → Option Procedure
lowered_in None j = None
lowered_in (Some m) j = lowered_at m j (slice_get m.procs j)

procedure_get : (m : TokenModuleFields) (j : ℕ)
    → slice_get (part_of (erased m)).procs j ≡ lowered_at m j (slice_get m.procs j)
procedure_get m j =
    procedures_get (erased m) 0 (erased m).procs j
    ∙ ap (option_map (procedure_of (erased m) (first_call 0 (erased m).procs j)))
    (slice_get-map erased_proc m.procs j)
    ∙ by (slice_get m.procs j)
  where
    by : (o : Option TokenProc)
        → option_map (procedure_of (erased m) (first_call 0 (erased m).procs j)) (option_map erased_proc o)
        ≡ lowered_at m j o
    by None = refl
    by (Some p) = refl

module _ (modules : List TokenModuleFields) where
  abbrev part_in : Option TokenModuleFields → Option Program
  part_in o = option_map part_of (option_map erased o)

  part_get : (home : ℕ) → home_part (world modules) home ≡ part_in (slice_get modules home)
  part_get home =
      slice_get-map part_of (map erased modules) home ∙ ap (option_map part_of)
      (slice_get-map erased modules home)

  pub lookup : (t : Target) → proc_at (world modules) t ≡ lowered_in (slice_get modules t.home) t.proc
  lookup t = ap (λ u. proc_in u t.proc) (part_get t.home) ∙ by (slice_get modules t.home)
    where
      by : (o : Option TokenModuleFields)
          → proc_in (part_in o) t.proc ≡ lowered_in o t.proc
      by None = refl
      by (Some m) = procedure_get m t.proc

  -- ---- how many tokens are taken by what a closure pair leads to

  abbrev pub Takes : Target → ℕ → Type 0
  Takes t c =
      (m : TokenModuleFields) → slice_get modules t.home ≡ Some m
      → (p : TokenProc) → slice_get m.procs t.proc ≡ Some p → tokens_taken p ≡ c

  abbrev pub PairTakes : Pair → ℕ → Type 0
  PairTakes Bad c = Unit {0}
  PairTakes Outside c = c ≡ 0
  PairTakes (Runs t) c = Takes t c

  abbrev pub ValueTakesNone : Value → Type 0
  ValueTakesNone v = PairTakes (pair_in v) 0

  abbrev pub RegisterTakesNone : Register → Type 0
  RegisterTakesNone r = PairTakes (unwrap_or r.pair Bad) 0

  abbrev pub ValuesTakeNone : List Value → Type 0
  ValuesTakeNone vs = Each ValueTakesNone vs

  abbrev pub RegistersTakeNone : List Register → Type 0
  RegistersTakeNone rs = Each RegisterTakesNone rs

  value_get : (env : List Value) → ValuesTakeNone env → (i : ℕ) → ValueTakesNone (slice_index_or env i Other)
  value_get [] h i = tt
  value_get (v ∷ env) h zero = h.0
  value_get (v ∷ env) h (suc i) = value_get env h.1 i

  pub registers_of : (vs : List Value) → ValuesTakeNone vs → RegistersTakeNone (map register_of vs)
  registers_of [] h = tt
  registers_of (Num v ∷ vs) h = (tt, registers_of vs h.1)
  registers_of (Closure p ∷ vs) h = (h.0, registers_of vs h.1)
  registers_of (Other ∷ vs) h = (tt, registers_of vs h.1)

  first_takes : (rs : List Register) → RegistersTakeNone rs → RegisterTakesNone (first_of rs)
  first_takes [] h = tt
  first_takes (r ∷ rs) h = h.0

  rest_take : (rs : List Register) → RegistersTakeNone rs → RegistersTakeNone (rest_of rs)
  rest_take [] h = tt
  rest_take (r ∷ rs) h = h.1

  pub taken_take : (callbacks : List Bool) (env : List Value) → ValuesTakeNone env → (rs : List Register)
      → RegistersTakeNone rs → (out : List Value) → taken env callbacks rs ≡ Some out → ValuesTakeNone out
  taken_take [] env h rs hs out e = subst ValuesTakeNone (let f : Some env ≡ Some out = e in cc) h
  taken_take (false ∷ cs) env h rs hs out e =
      by (first_of rs).number
      (λ v. taken_take cs (env ++ Num v ∷ [])
      (each_append ValueTakesNone env (Num v ∷ []) h (tt, tt)) (rest_of rs) (rest_take rs hs) out) e
    where
      by : (o : Option ℤ)
          → ((v : ℤ) → taken (env ++ Num v ∷ []) cs (rest_of rs) ≡ Some out → ValuesTakeNone out)
          → if_there o (λ v. taken (env ++ Num v ∷ []) cs (rest_of rs)) ≡ Some out → ValuesTakeNone out
      by None go f = absurd (let g : None ≡ Some out = f in cc)
      by (Some v) go f = go v f
  taken_take (true ∷ cs) env h rs hs out e =
      by (first_of rs).pair (first_takes rs hs)
      (λ p k. taken_take cs ((env ++ Closure p ∷ []) ++ Other ∷ [])
      (each_append ValueTakesNone (env ++ Closure p ∷ []) (Other ∷ [])
      (each_append ValueTakesNone env (Closure p ∷ []) h (k, tt)) (tt, tt))
      (rest_of (rest_of rs)) (rest_take (rest_of rs) (rest_take rs hs)) out) e
    where
      by : (o : Option Pair) → PairTakes (unwrap_or o Bad) 0
          → ((p : Pair) → PairTakes p 0
          → taken ((env ++ Closure p ∷ []) ++ Other ∷ []) cs (rest_of (rest_of rs)) ≡ Some out
          → ValuesTakeNone out)
          → if_there o (λ p. taken ((env ++ Closure p ∷ []) ++ Other ∷ []) cs
          (rest_of (rest_of rs))) ≡ Some out
          → ValuesTakeNone out
      by None k go f = absurd (let g : None ≡ Some out = f in cc)
      by (Some p) k go f = go p k f

  module _ (accepted : All IsAccepted modules) where
    -- ---- what other parts may import takes none

    shared_takes : (m : TokenModuleFields) → CallsFit m → (name : List ℕ) (j : ℕ)
        → position (is_shared name) (part_of (erased m)).procs ≡ Some j
        → (p : TokenProc) → slice_get m.procs j ≡ Some p → tokens_taken p ≡ 0
    shared_takes m fits name j e p f =
        let r = procedure_of (erased m) (first_call 0 (erased m).procs j) (erased_proc p) in
        let there : slice_get (part_of (erased m)).procs j ≡ Some r = procedure_get m j
        ∙ ap (lowered_at m j) f in
        let at : get_or (part_of (erased m)).procs j r ≡ r =
        get_or_from_slice_get (part_of (erased m)).procs j r r there in
        let test : is_shared name r ≡ true =
        sym (ap (is_shared name) at) ∙ (position-Some (is_shared name) (part_of (erased m)).procs j r e).1 in
        (each_at (ProcFits m) m.procs j p fits f).shared
        (first_true p.shared (bytes_eq name p.name.text) test)
      where
        first_true : (a b : Bool) → (a && b) ≡ true → a ≡ true
        first_true true b h = refl
        first_true false b h = h

    shared_in_takes : (home : ℕ) (name : List ℕ) (t : Target)
        → shared_in home name (home_part (world modules) home) ≡ Some t → Takes t 0
    shared_in_takes home name t e =
        by (slice_get modules home) refl (sym (ap (shared_in home name) (part_get home)) ∙ e)
      where
        at : (m : TokenModuleFields) → slice_get modules home ≡ Some m → (o : Option ℕ)
            → position (is_shared name) (part_of (erased m)).procs ≡ o → option_map (target home) o ≡ Some t
            → Takes t 0
        at m g None h f = absurd (let k : None ≡ Some t = f in cc)
        at m g (Some j) h f =
            subst (λ t. Takes t 0) (let k : Some (target home j) ≡ Some t = f in cc)
            (λ n i p q. let same : m ≡ n = same_some m n (slice_get modules home) g i in
            shared_takes m (calls_fit m (all_get IsAccepted modules home m accepted g).resolved) name j h p
            (ap (λ n. slice_get n.procs j) same ∙ q))

        by : (o : Option TokenModuleFields) → slice_get modules home ≡ o
            → shared_in home name (part_in o) ≡ Some t → Takes t 0
        by None g f = absurd (let k : None ≡ Some t = f in cc)
        by (Some m) g f = at m g (position (is_shared name) (part_of (erased m)).procs) refl f

    shared_at_takes : (name : List ℕ) (o : Option ℕ) (t : Target)
        → shared_at (world modules) name o ≡ Some t → Takes t 0
    shared_at_takes name None t e = absurd (let k : None ≡ Some t = e in cc)
    shared_at_takes name (Some home) t e = shared_in_takes home name t e

    pub found_takes : (part name : List ℕ) (t : Target) → found (world modules) part name ≡ Some t → Takes t 0
    unfolding found
    found_takes part name t e = shared_at_takes name (position (is_named part) (world modules)) t e

    pub main_takes : (t : Target) → main_target (world modules) ≡ Some t → Takes t 0
    unfolding main_target
    main_takes t e = shared_at_takes (codes "main") (position has_main (world modules)) t e

    -- ---- closure pairs

    found_pair : (o : Option Target) → ((t : Target) → o ≡ Some t → Takes t 0) → PairTakes (pair_found o) 0
    found_pair None h = tt
    found_pair (Some t) h = h t refl

    linked_takes : (i : Option ProgramImport) → PairTakes (linked (world modules) i) 0
    unfolding linked
    linked_takes None = tt
    linked_takes (Some i) = by (position (is_named i.part) (world modules))
      where
        by : (o : Option ℕ) → PairTakes (linked_by (world modules) i.name o) 0
        by None = refl
        by (Some home) =
            found_pair (shared_in home i.name (home_part (world modules) home)) (shared_in_takes home i.name)

    pub pair_takes : (home : ℕ) (m : TokenModuleFields) → slice_get modules home ≡ Some m → (env : List Value)
        → ValuesTakeNone env → (h : Handle) → PairTakes (pair_of (world modules) home env h) (taken_by m h)
    pair_takes home m e env none (Given i) = value_get env none i
    pair_takes home m e env none (Own j) = λ n f p g.
        let same : n ≡ m = same_some n m (slice_get modules home) f e in
        sym (ap (λ o. option_map_or tokens_taken o 0) (ap (λ n. slice_get n.procs j) (sym same) ∙ g))
    pair_takes home m e env none (Imported k) = linked_takes (import_in (home_part (world modules) home) k)

    -- ---- the registers of an item

    fed_takes : (f : FeedPair) → PairTakes (unwrap_or (pair_fed (world modules) f) Bad) 0
    fed_takes fed.Nothing = tt
    fed_takes fed.Bad = tt
    fed_takes fed.Out = refl
    fed_takes (fed.Hop part name) = found_pair (found (world modules) part name) (found_takes part name)

    pub fed_take : (ints : List (Option ℤ)) (pairs : List FeedPair)
        → RegistersTakeNone (registers_fed (world modules) ints pairs)
    fed_take ints pairs = (
      fed_takes (slice_index_or pairs 0 fed.Nothing),
      (
        fed_takes (slice_index_or pairs 1 fed.Nothing),
        (
          fed_takes (slice_index_or pairs 2 fed.Nothing),
          (fed_takes (slice_index_or pairs 3 fed.Nothing), tt),
        ),
      ),
    )
