-- In a resolved module each call hands over as many tokens as are taken.
use Rattle.std.proofs.Common.{◌≡◌, refl, sym, ◌∙◌, ap, subst, ℕ, zero, suc, Bool, true, false, ◌&&◌, List, []}
use Rattle.std.proofs.Common.{◌∷◌, ◌++◌, length, map, if◌then◌else◌, Option, Some, None, slice_get}
use Rattle.std.proofs.lemmas.Option.{slice_get-map, get_or_from_slice_get}
use Rattle.std.proofs.lemmas.List.Quantifiers.{position-Some}
use Rattle.std.specs.Prelude.{option_map, is_none, is_some}
use Rattle.std.specs.Option.{option_map_or}
use Rattle.proc_language.specs.declared.tree.Name.{Name}
use Rattle.proc_language.specs.declared.module.Proc.{Proc}
use Rattle.proc_language.specs.declared.module.ModuleFields.{ModuleFields}
use Rattle.proc_language.specs.Limits.{Each}
use Rattle.proc_names.specs.declared.fault.NameFault.{NameFault}
use Rattle.proc_names.specs.declared.fault.NameFault.TheVariants.{Arity}
use Rattle.proc_names.specs.declared.scope.Callee.{Callee}
use Rattle.proc_names.specs.declared.scope.Callee.TheVariants as callee_of
use Rattle.proc_names.specs.Faults.{unless}
use Rattle.proc_names.specs.Names.{same, or_else, index_of, callback_index, shared_index, is_taken}
use Rattle.proc_names.specs.Names.{callee_named, passed_named}
use Rattle.proc_names.specs.NameFaults.{passed_faults}
use Rattle.proc_program.specs.Lower.{handle_by}
use Rattle.token_language.specs.declared.module.TokenParam.{TokenParam}
use Rattle.token_language.specs.declared.module.TokenParam.TheVariants as param
use Rattle.token_language.specs.declared.module.TokenProc.{TokenProc}
use Rattle.token_language.specs.declared.module.TokenModuleFields.{TokenModuleFields}
use Rattle.token_language.specs.Tree.{Expr, number, var, element, call, op, Args, no_args, value, proc, token}
use Rattle.token_language.specs.Tree.{Stmt, set, set_at, do_call, if_then, if_else, while, return, halt, make}
use Rattle.token_language.specs.Tree.{spend, Block, no_stmts, stmt}
use Rattle.token_language.specs.StmtView.{block_of}
use Rattle.token_language.specs.Tokens.{param_tokens}
use Rattle.token_language.specs.Erased.{erased, erased_proc, erased_params}
use Rattle.token_language.specs.TokenFaults.{is_token, wrong, arg_tokens, fit, fit_proc, called_faults}
use Rattle.token_language.specs.TokenFaults.{or_token, variable_faults, element_faults, call_faults}
use Rattle.token_language.specs.TokenFaults.{handed_faults, token_faults, expr_faults, args_faults}
use Rattle.token_language.specs.TokenFaults.{stmt_faults, block_faults, shared_faults, proc_faults}
use Rattle.token_language.specs.TokenFaults.{procs_faults, IsTokenResolved}
use Rattle.token_semantics.proofs.Fits.{tokens_given, tokens_taken, taken_by, ExprFits}
use Rattle.token_semantics.proofs.Fits.{ArgsFit, StmtFits, BlockFits, ProcFits, CallsFit}

-- ---- lists without an item

pub filled : {A : Type 0} (x : A) (xs : List A) → x ∷ xs ≡ [] → ⊥
filled x xs h = cc

pub parts : {A : Type 0} (xs ys : List A) → xs ++ ys ≡ [] → (xs ≡ []) × (ys ≡ [])
parts [] ys h = (refl, h)
parts (x ∷ xs) ys h = absurd (filled x (xs ++ ys) h)

none_mapped : (names : List Name) → wrong names ≡ [] → length names ≡ 0
none_mapped [] h = refl
none_mapped (x ∷ names) h = absurd (filled _ _ h)

holds : (b : Bool) (f : NameFault) → unless b f ≡ [] → b ≡ true
holds true f h = refl
holds false f h = absurd (filled f [] h)

-- ---- arguments and parameters

second : (a b : Bool) → (a && b) ≡ true → b ≡ true
second true b h = h
second false b h = absurd (let k : false ≡ true = h in cc)

no_truth : {P : Type 0} → false ≡ true → P
no_truth h = absurd cc

fit_tokens : (xs : Args) (params : List TokenParam) → fit xs params ≡ true
    → length (arg_tokens xs) ≡ length (param_tokens params)
fit_tokens no_args [] h = refl
fit_tokens no_args (param.Plain q ∷ params) h = no_truth h
fit_tokens no_args (param.Token y ∷ params) h = no_truth h
fit_tokens (value e xs) [] h = no_truth h
fit_tokens (value e xs) (param.Plain q ∷ params) h =
    fit_tokens xs params (second (is_none q.arity) (fit xs params) h)
fit_tokens (value e xs) (param.Token y ∷ params) h = no_truth h
fit_tokens (proc f xs) [] h = no_truth h
fit_tokens (proc f xs) (param.Plain q ∷ params) h =
    fit_tokens xs params (second (is_some q.arity) (fit xs params) h)
fit_tokens (proc f xs) (param.Token y ∷ params) h = no_truth h
fit_tokens (token x xs) [] h = no_truth h
fit_tokens (token x xs) (param.Plain q ∷ params) h = no_truth h
fit_tokens (token x xs) (param.Token y ∷ params) h = ap suc (fit_tokens xs params h)

-- ---- what is called

called_fits : (m : TokenModuleFields) (p : TokenProc) (f : Name) (xs : Args) (c : Callee)
    → called_faults m p f xs c ≡ [] → tokens_given xs ≡ taken_by m (handle_by (erased_params p.params) c)
called_fits m p f xs (callee_of.Callback i) h = none_mapped (arg_tokens xs) (parts _ _ h).1
called_fits m p f xs (callee_of.Import i) h = none_mapped (arg_tokens xs) (parts _ _ h).1
called_fits m p f xs (callee_of.Proc j) h =
    by (slice_get m.procs j) (holds (fit_proc xs m.procs j) (Arity f.at) h)
  where
    by : (o : Option TokenProc) → option_map_or (λ q. fit xs q.params) o false ≡ true
        → tokens_given xs ≡ option_map_or tokens_taken o 0
    by None e = no_truth e
    by (Some q) e = fit_tokens xs q.params e
called_fits m p f xs callee_of.Other h = absurd (filled _ _ h)
called_fits m p f xs callee_of.Missing h = absurd (filled _ _ h)

-- ---- what is passed on: of procedures, shared ones alone

-- what a callee leads to, where it is a procedure of the module
abbrev proc_of : Callee → Option ℕ
proc_of (callee_of.Callback i) = None
proc_of (callee_of.Import i) = None
proc_of (callee_of.Proc j) = Some j
proc_of callee_of.Other = None
proc_of callee_of.Missing = None

nothing : {P : Type 0} (j : ℕ) → None ≡ Some j → P
nothing j h = absurd cc

passed_shared : (m : ModuleFields) (p : Proc) (f : Name) (j : ℕ) → passed_named m p f ≡ callee_of.Proc j
    → shared_index m.procs f ≡ Some j
unfolding passed_named
passed_shared m p f j h =
    first (callback_index p.params f) (index_of (λ i. i.name) m.imports f) (shared_index m.procs f)
    (is_taken m p f) (ap proc_of h)
  where
    last : (b : Bool) → proc_of (if b then callee_of.Other else callee_of.Missing) ≡ Some j → None ≡ Some j
    last true e = e
    last false e = e

    first : (a b c : Option ℕ) (d : Bool)
        → proc_of (or_else a callee_of.Callback (or_else b callee_of.Import (or_else c callee_of.Proc
        (if d then callee_of.Other else callee_of.Missing)))) ≡ Some j
        → c ≡ Some j
    first (Some i) b c d e = nothing j e
    first None (Some i) c d e = nothing j e
    first None None (Some i) d e = e
    first None None None d e = last d e

-- a shared procedure takes no tokens
abbrev SharedTakeNone : TokenModuleFields → Type 0
SharedTakeNone m = (j : ℕ) (q : TokenProc) → slice_get m.procs j ≡ Some q → q.shared ≡ true
    → tokens_taken q ≡ 0

first_true : (a b : Bool) → (a && b) ≡ true → a ≡ true
first_true true b h = refl
first_true false b h = h

shared_at : (m : TokenModuleFields) → SharedTakeNone m → (f : Name) (j : ℕ)
    → shared_index (erased m).procs f ≡ Some j → option_map_or tokens_taken (slice_get m.procs j) 0 ≡ 0
shared_at m none f j h = by (slice_get m.procs j) refl
  where
    by : (o : Option TokenProc) → slice_get m.procs j ≡ o → option_map_or tokens_taken o 0 ≡ 0
    by None e = refl
    by (Some q) e =
        let there : slice_get (map erased_proc m.procs) j ≡ Some (erased_proc q) =
        slice_get-map erased_proc m.procs j ∙ ap (option_map erased_proc) e in
        let at = get_or_from_slice_get (map erased_proc m.procs) j (erased_proc q) (erased_proc q) there in
        let passes = (position-Some (λ q. q.shared && same q.name f) (map erased_proc m.procs) j
        (erased_proc q) h).1 in
        none j q e (first_true q.shared (same q.name f) (sym (ap (λ q. q.shared && same q.name f) at)
        ∙ passes))

passed_fits : (m : TokenModuleFields) → SharedTakeNone m → (p : TokenProc) (f : Name) (b : Bool) (c : Callee)
    → passed_named (erased m) (erased_proc p) f ≡ c → passed_faults f (or_token b c) ≡ []
    → taken_by m (handle_by (erased_params p.params) c) ≡ 0
passed_fits m none p f b (callee_of.Callback i) e h = refl
passed_fits m none p f b (callee_of.Import i) e h = refl
passed_fits m none p f b (callee_of.Proc j) e h =
    shared_at m none f j (passed_shared (erased m) (erased_proc p) f j e)
passed_fits m none p f true callee_of.Other e h = absurd (filled _ _ h)
passed_fits m none p f false callee_of.Other e h = absurd (filled _ _ h)
passed_fits m none p f true callee_of.Missing e h = absurd (filled _ _ h)
passed_fits m none p f false callee_of.Missing e h = absurd (filled _ _ h)

module _ (m : TokenModuleFields) (none : SharedTakeNone m) (p : TokenProc) where
  abbrev mutual
    expr_fits : (e : Expr) → expr_faults m p e ≡ [] → ExprFits m p e
    expr_fits (number at v) h = tt
    expr_fits (var at x) h = tt
    expr_fits (element at x e) h = expr_fits e (parts (element_faults m p x) (expr_faults m p e) h).1
    expr_fits (call at f xs) h =
        let both = parts (call_faults m p f xs) (args_faults m p xs) h in
        (called_fits m p f xs (callee_named (erased m) (erased_proc p) f) both.0, args_fit xs both.1)
    expr_fits (op at o a b) h =
        let both = parts (expr_faults m p a) (expr_faults m p b) h in
        (expr_fits a both.0, expr_fits b both.1)

    args_fit : (xs : Args) → args_faults m p xs ≡ [] → ArgsFit m p xs
    args_fit no_args h = tt
    args_fit (value e xs) h =
        let both = parts (expr_faults m p e) (args_faults m p xs) h in
        (expr_fits e both.0, args_fit xs both.1)
    args_fit (proc f xs) h =
        let both = parts (handed_faults m p f) (args_faults m p xs) h in (
          passed_fits m none p f (is_token p f) (passed_named (erased m) (erased_proc p) f) refl both.0,
          args_fit xs both.1,
        )
    args_fit (token x xs) h = args_fit xs (parts (token_faults p x) (args_faults m p xs) h).1

  abbrev mutual
    stmt_fits : (x : Stmt) → stmt_faults m p x ≡ [] → StmtFits m p x
    stmt_fits (set at end x e) h = expr_fits e (parts (variable_faults m p x) (expr_faults m p e) h).1
    stmt_fits (set_at at end x i e) h =
        let both = parts (expr_faults m p i) (expr_faults m p e)
        (parts (element_faults m p x) (expr_faults m p i ++ expr_faults m p e) h).1 in
        (expr_fits i both.0, expr_fits e both.1)
    stmt_fits (do_call at end f xs) h =
        let both = parts (call_faults m p f xs) (args_faults m p xs) h in
        (called_fits m p f xs (callee_named (erased m) (erased_proc p) f) both.0, args_fit xs both.1)
    stmt_fits (if_then at end c a) h =
        let both = parts (expr_faults m p c) (block_faults m p a) h in
        (expr_fits c both.0, block_fits a both.1)
    stmt_fits (if_else at end c a b) h =
        let both = parts (expr_faults m p c) (block_faults m p a ++ block_faults m p b) h in
        let two = parts (block_faults m p a) (block_faults m p b) both.1 in
        (expr_fits c both.0, block_fits a two.0, block_fits b two.1)
    stmt_fits (while at end c a) h =
        let both = parts (expr_faults m p c) (block_faults m p a) h in
        (expr_fits c both.0, block_fits a both.1)
    stmt_fits (return at end e) h = expr_fits e h
    stmt_fits (halt at end e) h = expr_fits e h
    stmt_fits (make at end x) h = tt
    stmt_fits (spend at end x) h = tt

    block_fits : (b : Block) → block_faults m p b ≡ [] → BlockFits m p b
    block_fits no_stmts h = tt
    block_fits (stmt x b) h =
        let both = parts (stmt_faults m p x) (block_faults m p b) h in
        (stmt_fits x both.0, block_fits b both.1)

-- ---- the module

shared_none : (p : TokenProc) → shared_faults p ≡ [] → p.shared ≡ true → tokens_taken p ≡ 0
shared_none p h s = none_mapped (param_tokens p.params)
    (sym (ap (λ b. if b then wrong (param_tokens p.params) else []) s) ∙ h)

proc_parts : (m : TokenModuleFields) (p : TokenProc) → proc_faults m p ≡ []
    → (shared_faults p ≡ []) × (block_faults m p (block_of p.body) ≡ [])
proc_parts m p h = parts (shared_faults p) (block_faults m p (block_of p.body)) (parts _ _ h).1

proc_resolved : (m : TokenModuleFields) (ps : List TokenProc) → procs_faults m ps ≡ []
    → (j : ℕ) (q : TokenProc)
    → slice_get ps j ≡ Some q → proc_faults m q ≡ []
proc_resolved m [] h j q e = absurd (let f : None ≡ Some q = e in cc)
proc_resolved m (p ∷ ps) h zero q e =
    let same : p ≡ q = (let f : Some p ≡ Some q = e in cc) in
    subst (λ q. proc_faults m q ≡ []) same (parts (proc_faults m p) (procs_faults m ps) h).0
proc_resolved m (p ∷ ps) h (suc j) q e =
    proc_resolved m ps (parts (proc_faults m p) (procs_faults m ps) h).1 j q e

procs_fit : (m : TokenModuleFields) → SharedTakeNone m → (ps : List TokenProc) → procs_faults m ps ≡ []
    → Each (ProcFits m) ps
procs_fit m none [] h = tt
procs_fit m none (p ∷ ps) h =
    let both = parts (proc_faults m p) (procs_faults m ps) h in
    let two = proc_parts m p both.0 in (
      record { shared = shared_none p two.0; body = block_fits m none p (block_of p.body) two.1 },
      procs_fit m none ps both.1,
    )

-- what is said of the names of a procedure of a resolved module
pub names_fit : (m : TokenModuleFields) → IsTokenResolved m → (j : ℕ) (q : TokenProc)
    → slice_get m.procs j ≡ Some q
    → (shared_faults q ≡ []) × (block_faults m q (block_of q.body) ≡ [])
names_fit m h j q e = proc_parts m q (proc_resolved m m.procs (parts _ (procs_faults m m.procs) h).1 j q e)

pub calls_fit : (m : TokenModuleFields) → IsTokenResolved m → CallsFit m
calls_fit m h =
    procs_fit m (λ j q e. shared_none q (names_fit m h j q e).0) m.procs
    (parts _ (procs_faults m m.procs) h).1
