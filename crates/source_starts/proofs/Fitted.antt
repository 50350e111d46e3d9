-- The procedures of a module whose names are resolved fit their frames and their module.
use Rattle.std.proofs.Common.{◌≡◌, ℕ, zero, suc, ◌+◌, ◌^◌, ◌<◌, ◌≤◌, pos, Bool, true, false, List, [], ◌∷◌}
use Rattle.std.proofs.Common.{length, map, take, Option, Some, None, refl, sym, ap, ◌∙◌, arith}
use Rattle.std.proofs.Common.{IfSome, unwrap_or, lt-ltb}
use Rattle.std.specs.Prelude.{slice_get, position, replicate, is_some, if◌then◌else◌, ◌&&◌}
use Rattle.std.specs.Option.{option_map_or}
use Rattle.std.proofs.lemmas.Bool.{and_parts}
use Rattle.std.proofs.lemmas.Option.{slice_get_within}
use Rattle.std.proofs.lemmas.List.Sums.{sum_by-cons}
use Rattle.lcm_machine.specs.Table.{fits_64}
use Rattle.proc_language.specs.declared.tree.Name.{Name}
use Rattle.proc_language.specs.declared.module.Global.{Global}
use Rattle.proc_language.specs.declared.module.Param.{Param}
use Rattle.proc_language.specs.declared.module.Proc.{Proc}
use Rattle.proc_language.specs.declared.module.ModuleFields.{ModuleFields}
use Rattle.proc_language.specs.Tree.{Expr, Args, Stmt, Block, number, var, element, call, op, no_args, value}
use Rattle.proc_language.specs.Tree.{proc, set, set_at, do_call, if_then, if_else, while, return, halt}
use Rattle.proc_language.specs.Tree.{no_stmts, stmt}
use Rattle.proc_language.specs.declared.TheConstants.{LARGEST_LITERAL}
use Rattle.proc_language.specs.Limits as language
use Rattle.proc_language.specs.Limits.{Each, IsModule, ProcFits, GlobalFits, LengthFits, param_registers}
use Rattle.proc_language.specs.Limits.{params_registers}
use Rattle.proc_names.specs.declared.scope.Variable.{Variable}
use Rattle.proc_names.specs.declared.scope.Variable.TheVariants as named
use Rattle.proc_names.specs.declared.scope.Callee.{Callee}
use Rattle.proc_names.specs.declared.scope.Callee.TheVariants as called
use Rattle.proc_names.specs.Names.{same, or_else, is_callback, is_array, param_at, global_at, variable_named}
use Rattle.proc_names.specs.Names.{callee_named, passed_named}
use Rattle.proc_names.specs.NameFaults.{plain_faults, array_faults, call_faults, called_faults, passed_faults}
use Rattle.proc_names.specs.NameFaults.{expr_faults, args_faults, stmt_faults, block_faults}
use Rattle.proc_names.specs.Need.{depth, args_depth, stmt_depth, block_depth, need}
use Rattle.proc_names.specs.Calls.{calls, stmt_calls, block_calls}
use Rattle.proc_program.specs.Lower.{words, words_in, first_word_of, param_place, place_by, row_by, handle_by}
use Rattle.proc_program.specs.Lower.{exp_of, args_of, step_of, steps_of}
use Rattle.proc_program.specs.Limits.{register_count, registers_of, arg_registers}
use Rattle.proc_program.specs.declared.program.Location.{Location}
use Rattle.proc_program.specs.declared.program.Handle.{Handle}
use Rattle.proc_program.specs.declared.program.Array.{Array}
use Rattle.proc_program.specs.Program as run
use Rattle.proc_program.specs.Program.{Exp, Statement}
use Rattle.proc_program.specs.View.{args_of as args_view}
use Rattle.proc_program.specs.StepView.{block_of as block_view}
use Rattle.proc_program.proofs.Offers.{row_within, count_same}
use Rattle.source_laws.specs.Fits.{Kind, AsNumber, AsPair, kinds_from, PlaceInside, RowInside, HandleInside}
use Rattle.source_laws.specs.Fits.{PassFits, ExpFits, ArgsFit, StepFits, BlockFits}
use Rattle.overlay_machine.proofs.Offers.{found_at}
use Rattle.proc_templates.proofs.Offers.{left_none, right_none}

-- ---- lists

-- ---- kinds of places

abbrev pub is_call : Param → Bool
is_call q = is_some q.arity

kind_local : (bs : List Bool) (n k : ℕ) → k < n
    → slice_get (kinds_from bs n) (registers_of bs + k) ≡ Some AsNumber
kind_local [] n k h = let e : registers_of [] + k ≡ k = omega arith in ap (slice_get (replicate n AsNumber)) e
    ∙ numbers n k h
  where
    numbers : (n k : ℕ) → k < n → slice_get (replicate n AsNumber) k ≡ Some AsNumber
    numbers zero k h = absurd (omega (arith, h))
    numbers (suc n) zero h = refl
    numbers (suc n) (suc k) h = numbers n k (omega (arith, h))
kind_local (false ∷ bs) n k h =
    let s = sum_by-cons register_count false bs in
    let e : registers_of (false ∷ bs) + k ≡ suc (registers_of bs + k) = omega (arith, s) in
    ap (slice_get (kinds_from (false ∷ bs) n)) e ∙ kind_local bs n k h
kind_local (true ∷ bs) n k h =
    let s = sum_by-cons register_count true bs in
    let e : registers_of (true ∷ bs) + k ≡ suc (suc (registers_of bs + k)) = omega (arith, s) in
    ap (slice_get (kinds_from (true ∷ bs) n)) e ∙ kind_local bs n k h

abbrev kind_by : Bool → Kind
kind_by true = AsPair
kind_by false = AsNumber

-- the first of a parameter's places
kind_param : (ps : List Param) (n i : ℕ) (q : Param) → slice_get ps i ≡ Some q
    → slice_get (kinds_from (map is_call ps) n) (param_place ps i) ≡ Some (kind_by (is_call q))
kind_param [] n i q e = absurd cc
kind_param (x ∷ ps) n zero q e =
    let s : x ≡ q = cc in
    ap (λ y. slice_get (kinds_from (is_call y ∷ map is_call ps) n) 0) s ∙ by (is_call q)
  where
    by : (b : Bool) → slice_get (kinds_from (b ∷ map is_call ps) n) 0 ≡ Some (kind_by b)
    by true = refl
    by false = refl
kind_param (x ∷ ps) n (suc i) q e =
    let s = sum_by-cons (λ (y : Param). param_registers y.arity) x (take i ps) in
    ap (slice_get (kinds_from (is_call x ∷ map is_call ps) n)) s ∙ by x.arity ∙ kind_param ps n i q e
  where
    by : (a : Option ℕ) → slice_get (kinds_from (is_some a ∷ map is_call ps) n)
        (param_registers a + param_place ps i) ≡ slice_get (kinds_from (map is_call ps) n) (param_place ps i)
    by None = let z : 1 + param_place ps i ≡ suc (param_place ps i) = omega arith in
        ap (slice_get (kinds_from (false ∷ map is_call ps) n)) z
    by (Some a) = let z : 2 + param_place ps i ≡ suc (suc (param_place ps i)) = omega arith in
        ap (slice_get (kinds_from (true ∷ map is_call ps) n)) z

pub registers_same : (ps : List Param) → registers_of (map is_call ps) ≡ params_registers ps
registers_same [] = refl
registers_same (p ∷ ps) =
    let a = sum_by-cons register_count (is_some p.arity) (map is_call ps) in
    let b = sum_by-cons (λ (q : Param). param_registers q.arity) p ps in
    let c = count_same p.arity in
    let h = registers_same ps in
    omega (arith, a, b, c, h)

-- ---- globals

some_words : (g : Global) → GlobalFits g → 1 ≤ words g
some_words g fits = by g.length fits.1
  where
    by : (length : Option ℕ) → IfSome length LengthFits → 1 ≤ unwrap_or length 1
    by None h = omega arith
    by (Some n) h = h.0

-- the first word of a global is there
word_within : (gs : List Global) (k : ℕ) → Each GlobalFits gs → k < length gs
    → first_word_of gs k < words_in gs
word_within [] k fits h = absurd (omega (arith, h))
word_within (g ∷ gs) zero fits h =
    let e = sum_by-cons words g gs in let s = some_words g fits.0 in omega (arith, e, s)
word_within (g ∷ gs) (suc k) fits h =
    let a = sum_by-cons words g (take k gs) in
    let b = sum_by-cons words g gs in
    let r = word_within gs k fits.1 (omega (arith, h)) in
    omega (arith, a, b, r)

-- ---- names

-- what an index leads to, where one is found
by_index : {A V : Type 0} (P : V → Type 0) (test : A → Bool) (xs : List A) (to : ℕ → V) (rest : V)
    → ((i : ℕ) (x : A) → slice_get xs i ≡ Some x → test x ≡ true → P (to i)) → P rest
    → P (or_else (position test xs) to rest)
by_index P test xs to rest h r = by (position test xs) refl
  where
    by : (o : Option ℕ) → position test xs ≡ o → P (or_else o to rest)
    by None e = r
    by (Some i) e = let f = found_at test xs i e in h i f.0 f.1 f.2

callback_at : (ps : List Param) (i : ℕ) (q : Param) → slice_get ps i ≡ Some q
    → is_callback ps i ≡ is_call q
callback_at ps i q e = ap (λ o. option_map_or is_call o false) e

-- the procedures of a lowered module, by their numbers
abbrev pub shares : List Proc → ℕ → Bool
shares procs j = option_map_or (λ (q : Proc). q.shared) (slice_get procs j) false

module _ (m : ModuleFields) (limits : IsModule m) (p : Proc) (fits : ProcFits p) where
  abbrev pub Kinds : List Kind
  Kinds = kinds_from (map is_call p.params) (length p.locals)

  abbrev pub Temps : ℕ
  Temps = 2 + params_registers p.params + length p.locals

  abbrev pub Count : ℕ
  Count = words_in m.globals

  abbrev pub Placed : Location → Type 0
  Placed = PlaceInside Kinds (need p) Temps Count (length m.imports) (length m.procs) (shares m.procs)

  abbrev pub Rowed : Array → Type 0
  Rowed = RowInside Kinds (need p) Temps Count (length m.imports) (length m.procs) (shares m.procs)

  abbrev pub Handled : Handle → Type 0
  Handled = HandleInside Kinds (need p) Temps Count (length m.imports) (length m.procs) (shares m.procs)

  abbrev pub Passed : Handle → Type 0
  Passed = PassFits Kinds (need p) Temps Count (length m.imports) (length m.procs) (shares m.procs)

  abbrev ExpOf : ℕ → Exp → Type 0
  ExpOf = ExpFits Kinds (need p) Temps Count (length m.imports) (length m.procs) (shares m.procs)

  abbrev ArgsOf : ℕ → ℕ → run.Args → Type 0
  ArgsOf = ArgsFit Kinds (need p) Temps Count (length m.imports) (length m.procs) (shares m.procs)

  abbrev StepOf : Statement → Type 0
  StepOf = StepFits Kinds (need p) Temps Count (length m.imports) (length m.procs) (shares m.procs)

  abbrev BlockOf : run.Block → Type 0
  BlockOf = BlockFits Kinds (need p) Temps Count (length m.imports) (length m.procs) (shares m.procs)

  -- a variable without fault has its place
  abbrev Variable-fits : Name → Variable → Type 0
  Variable-fits x v = plain_faults x v ≡ [] → Placed (place_by m p v)

  param_case : (x : Name) (i : ℕ) (q : Param) → slice_get p.params i ≡ Some q
      → Variable-fits x (param_at p.params i)
  param_case x i q at = by (is_callback p.params i) refl
    where
      by : (b : Bool) → is_callback p.params i ≡ b
          → Variable-fits x (if b then named.Other else named.Param i)
      by true e = λ f. cc
      by false e = λ f. kind_param p.params (length p.locals) i q at
          ∙ ap (λ b. Some (kind_by b)) (sym (callback_at p.params i q at) ∙ e)

  global_case : (x : Name) (k : ℕ) (g : Global) → slice_get m.globals k ≡ Some g
      → Variable-fits x (global_at m.globals k)
  global_case x k g at = by (is_array m.globals k)
    where
      by : (b : Bool) → Variable-fits x (if b then named.Array k else named.Global k)
      by true = λ f. cc
      by false = λ f. word_within m.globals k limits.globals.1 (slice_get_within m.globals k g at)

  other_case : (x : Name) (b : Bool) → Variable-fits x (if b then named.Other else named.Missing)
  other_case x true = λ f. cc
  other_case x false = λ f. cc

  local_case : (x : Name) (k : ℕ) (y : Name) → slice_get p.locals k ≡ Some y
      → Variable-fits x (named.Local k)
  local_case x k y at f =
      let e = registers_same p.params in
      ap (slice_get Kinds) (ap (λ n. n + k) (sym e))
      ∙ kind_local (map is_call p.params) (length p.locals) k (slice_get_within p.locals k y at)

  variable_fits : (x : Name) → plain_faults x (variable_named m p x) ≡ []
      → Placed (place_by m p (variable_named m p x))
  unfolding variable_named
  variable_fits x =
      by_index (Variable-fits x) _ p.params _ _ (λ i q at t. param_case x i q at)
      (by_index (Variable-fits x) _ p.locals _ _ (λ k y at t. local_case x k y at)
      (by_index (Variable-fits x) _ m.globals _ _ (λ k g at t. global_case x k g at) (other_case x _)))

  array_fits : (x : Name) (v : Variable) → array_faults x v ≡ [] → Rowed (row_by m.globals v)
  array_fits x (named.Array k) f = row_within m.globals k
  array_fits x (named.Param i) f = cc
  array_fits x (named.Local i) f = cc
  array_fits x (named.Global i) f = cc
  array_fits x named.Other f = cc
  array_fits x named.Missing f = cc

  -- ---- handles

  given_pair : (f : Name) (i : ℕ) (q : Param) → slice_get p.params i ≡ Some q
      → (is_some q.arity && same q.name f) ≡ true
      → slice_get Kinds (param_place p.params i) ≡ Some AsPair
  given_pair f i q at t =
      kind_param p.params (length p.locals) i q at
      ∙ ap (λ b. Some (kind_by b)) (and_parts (is_some q.arity) (same q.name f) t).0

  abbrev Called-fits : Name → Args → Callee → Type 0
  Called-fits f xs c = called_faults m p f xs c ≡ [] → Handled (handle_by p.params c)

  abbrev Passed-fits : Name → Callee → Type 0
  Passed-fits f c = passed_faults f c ≡ [] → Passed (handle_by p.params c)

  called_other : (f : Name) (xs : Args) (b : Bool)
      → Called-fits f xs (if b then called.Other else called.Missing)
  called_other f xs true = λ e. cc
  called_other f xs false = λ e. cc

  passed_other : (f : Name) (b : Bool) → Passed-fits f (if b then called.Other else called.Missing)
  passed_other f true = λ e. cc
  passed_other f false = λ e. cc

  called_fits : (f : Name) (xs : Args) → call_faults m p f xs ≡ []
      → Handled (handle_by p.params (callee_named m p f))
  unfolding callee_named
  called_fits f xs =
      by_index (Called-fits f xs) _ p.params _ _ (λ i q at t e. given_pair f i q at t)
      (by_index (Called-fits f xs) _ m.imports _ _ (λ k x at t e. slice_get_within m.imports k x at)
      (by_index (Called-fits f xs) _ m.procs _ _ (λ j x at t e. slice_get_within m.procs j x at)
      (called_other f xs _)))

  passed_fits : (f : Name) → passed_faults f (passed_named m p f) ≡ []
      → Passed (handle_by p.params (passed_named m p f))
  unfolding passed_named
  passed_fits f =
      by_index (Passed-fits f) _ p.params _ _ (λ i q at t e. given_pair f i q at t)
      (by_index (Passed-fits f) _ m.imports _ _ (λ k x at t e. slice_get_within m.imports k x at)
      (by_index (Passed-fits f) _ m.procs _ _
      (λ j q at t e. (
        slice_get_within m.procs j q at,
        ap (λ o. option_map_or (λ (y : Proc). y.shared) o false) at
            ∙ (and_parts q.shared (same q.name f) t).0,
      ))
      (passed_other f _)))

  -- ---- expressions

  registers_kept : (xs : Args) (n : ℕ)
      → arg_registers (args_view (args_of m p n xs)) ≡ language.arg_registers xs
  registers_kept no_args n = refl
  registers_kept (value e xs) n = ap (λ k. k + 1) (registers_kept xs (n + calls e))
  registers_kept (proc f xs) n = ap (λ k. k + 2) (registers_kept xs n)

  literal_fits : (v : ℕ) → v ≤ LARGEST_LITERAL → fits_64 (pos v) ≡ true
  literal_fits v h = lt-ltb v (2 ^ 63) (omega (arith, h))

  args-depth : (xs : Args) (i : ℕ) → i ≤ args_depth i xs
  args-depth no_args i = omega arith
  args-depth (value e xs) i = let h = args-depth xs (i + 1) in omega (arith, h)
  args-depth (proc f xs) i = let h = args-depth xs (i + 2) in omega (arith, h)

  mutual
    exp_fits : (e : Expr) (n t : ℕ) → language.ExprFits e → expr_faults m p e ≡ [] → t + depth e ≤ need p
        → ExpOf t (exp_of m p n e)
    exp_fits (number at v) n t w f d = literal_fits v w
    exp_fits (var at x) n t w f d = variable_fits x f
    exp_fits (element at x e) n t w f d =
        let a = array_faults x (variable_named m p x) in
        (array_fits x (variable_named m p x) (left_none a _ f), exp_fits e n t w.1 (right_none a _ f) d)
    exp_fits (call at g xs) n t w f d =
        let r = registers_kept xs n in
        let s = w.0.1 in
        let c = call_faults m p g xs in
        (called_fits g xs (left_none c _ f), omega (arith, r, s), args_fit xs n t 0 w.1 (right_none c _ f) d)
    exp_fits (op at o a b) n t w f d =
        let x = expr_faults m p a in (
          omega (arith, d),
          exp_fits a n t w.0 (left_none x _ f) (omega (arith, d)),
          exp_fits b (n + calls a) (t + 1) w.1 (right_none x _ f) (omega (arith, d)),
        )

    args_fit : (xs : Args) (n t i : ℕ) → language.ArgsFit xs → args_faults m p xs ≡ []
        → t + args_depth i xs ≤ need p → ArgsOf t i (args_view (args_of m p n xs))
    args_fit no_args n t i w f d = tt
    args_fit (value e xs) n t i w f d =
        let x = expr_faults m p e in
        let h = args-depth xs (i + 1) in (
          omega (arith, d, h),
          exp_fits e n (t + i) w.0 (left_none x _ f) (omega (arith, d)),
          args_fit xs (n + calls e) t (i + 1) w.1 (right_none x _ f) (omega (arith, d)),
        )
    args_fit (proc g xs) n t i w f d =
        let x = passed_faults g (passed_named m p g) in
        (passed_fits g (left_none x _ f), args_fit xs n t (i + 2) w.1 (right_none x _ f) d)

  mutual
    stmt_fits : (s : Stmt) (n : ℕ) → language.StmtFits s → stmt_faults m p s ≡ []
        → Temps + stmt_depth s ≤ need p
        → StepOf (step_of m p n s)
    stmt_fits (set at x e) n w f d =
        let a = plain_faults x (variable_named m p x) in
        (variable_fits x (left_none a _ f), exp_fits e n Temps w.1 (right_none a _ f) d)
    stmt_fits (set_at at x i e) n w f d =
        let a = array_faults x (variable_named m p x) in
        let r = right_none a _ f in (
          array_fits x (variable_named m p x) (left_none a _ f),
          omega (arith, d),
          exp_fits i n Temps w.1 (left_none (expr_faults m p i) _ r) (omega (arith, d)),
          exp_fits e (n + calls i) (Temps + 1) w.2 (right_none (expr_faults m p i) _ r) (omega (arith, d)),
        )
    stmt_fits (do_call at g xs) n w f d =
        let r = registers_kept xs n in
        let s = w.0.1 in
        let c = call_faults m p g xs in (
          called_fits g xs (left_none c _ f),
          omega (arith, r, s),
          args_fit xs n Temps 0 w.1 (right_none c _ f) d,
        )
    stmt_fits (if_then at c b) n w f d =
        let x = expr_faults m p c in (
          exp_fits c n Temps w.0 (left_none x _ f) (omega (arith, d)),
          block_fits b (n + calls c) w.1 (right_none x _ f) (omega (arith, d)),
          tt,
        )
    stmt_fits (if_else at c a b) n w f d =
        let x = expr_faults m p c in
        let r = right_none x _ f in (
          exp_fits c n Temps w.0 (left_none x _ f) (omega (arith, d)),
          block_fits a (n + calls c) w.1 (left_none (block_faults m p a) _ r) (omega (arith, d)),
          block_fits b (n + calls c + block_calls a) w.2 (right_none (block_faults m p a) _ r)
              (omega (arith, d)),
        )
    stmt_fits (while at c b) n w f d =
        let x = expr_faults m p c in (
          exp_fits c n Temps w.0 (left_none x _ f) (omega (arith, d)),
          block_fits b (n + calls c) w.1 (right_none x _ f) (omega (arith, d)),
        )
    stmt_fits (return at e) n w f d = exp_fits e n Temps w f d
    stmt_fits (halt at e) n w f d = exp_fits e n Temps w f d

    pub block_fits : (b : Block) (n : ℕ) → language.BlockFits b → block_faults m p b ≡ []
        → Temps + block_depth b ≤ need p → BlockOf (block_view (steps_of m p n b))
    block_fits no_stmts n w f d = tt
    block_fits (stmt s b) n w f d =
        let x = stmt_faults m p s in (
          stmt_fits s n w.0 (left_none x _ f) (omega (arith, d)),
          block_fits b (n + stmt_calls s) w.1 (right_none x _ f) (omega (arith, d)),
        )
