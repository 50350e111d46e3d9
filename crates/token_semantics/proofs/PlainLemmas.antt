-- A plain module is one with tokens: without them it is itself, and resolved where it is.
use Rattle.std.proofs.Common.{◌≡◌, refl, sym, ◌∙◌, ap, subst, ℕ, arith, Bool, true, false, ◌&&◌, List, []}
use Rattle.std.proofs.Common.{◌∷◌, ◌++◌, length, map, if◌then◌else◌, Option, Some, None, slice_get, inr}
use Rattle.std.proofs.lemmas.Option.{slice_get-map}
use Rattle.std.specs.Prelude.{option_map, is_none, is_some}
use Rattle.std.specs.Option.{option_map_or}
use Rattle.std.specs.List.{list_any}
use Rattle.proc_language.specs.declared.tree.Name.{Name}
use Rattle.proc_language.specs.declared.module.Param.{Param}
use Rattle.proc_language.specs.declared.module.Proc.{Proc}
use Rattle.proc_language.specs.declared.module.ModuleFields.{ModuleFields}
use Rattle.proc_language.specs.Limits.{Each, IsModule}
use Rattle.proc_language.specs.Tree as plain
use Rattle.proc_language.specs.StmtView.{block_of as plain_block_of}
use Rattle.proc_names.specs.declared.fault.NameFault.TheVariants.{Arity, WrongKind}
use Rattle.proc_names.specs.declared.scope.Callee.{Callee}
use Rattle.proc_names.specs.declared.scope.Callee.TheVariants as callee_of
use Rattle.proc_names.specs.Faults.{unless}
use Rattle.proc_names.specs.Names.{same, variable_named, callee_named, passed_named}
use Rattle.proc_names.specs.NameFaults as names
use Rattle.proc_names.specs.NameFaults.{plain_faults, array_faults, registers_fit, callback_arity}
use Rattle.proc_names.specs.NameFaults.{import_arity, passed_faults, twice, name_faults}
use Rattle.token_language.specs.declared.module.TokenParam.TheVariants as param
use Rattle.token_language.specs.declared.module.TokenLocal.TheVariants as local
use Rattle.token_language.specs.declared.module.TokenProc.{TokenProc}
use Rattle.token_language.specs.StmtView.{block_of}
use Rattle.token_language.specs.Tokens.{param_name, local_name, param_tokens, local_tokens, tokens_of}
use Rattle.token_language.specs.Limits.{TokensFit}
use Rattle.token_language.specs.Erased.{erased_expr, erased_args, erased_before, erased_block, stmts_in}
use Rattle.token_language.specs.Erased.{erased_params, erased_locals, erased_proc, erased}
use Rattle.token_language.specs.TokenFaults.{is_token, wrong, arg_tokens, fit, fit_proc, outside_faults}
use Rattle.token_language.specs.TokenFaults.{called_faults, or_token, variable_faults, element_faults}
use Rattle.token_language.specs.TokenFaults.{call_faults, handed_faults, expr_faults, args_faults}
use Rattle.token_language.specs.TokenFaults.{stmt_faults, block_faults, shared_faults, proc_faults}
use Rattle.token_language.specs.TokenFaults.{procs_faults, token_name_faults}
use Rattle.token_semantics.specs.Plain.{tokened_expr, tokened_args, tokened_stmt, tokened_block, tokened_proc}
use Rattle.token_semantics.specs.Plain.{tokened}
use Rattle.token_semantics.specs.Law.{PlainAreAccepted}

-- ---- without tokens it is itself

mutual
  expr_back : (e : plain.Expr) → erased_expr (tokened_expr e) ≡ e
  expr_back (plain.number at n) = refl
  expr_back (plain.var at x) = refl
  expr_back (plain.element at x e) = ap (plain.element at x) (expr_back e)
  expr_back (plain.call at f xs) = ap (plain.call at f) (args_back xs)
  expr_back (plain.op at o a b) =
      ap (λ a. plain.op at o a (erased_expr (tokened_expr b))) (expr_back a)
      ∙ ap (plain.op at o a) (expr_back b)

  args_back : (xs : plain.Args) → erased_args (tokened_args xs) ≡ xs
  args_back plain.no_args = refl
  args_back (plain.value e xs) =
      ap (λ e. plain.value e (erased_args (tokened_args xs))) (expr_back e)
      ∙ ap (plain.value e) (args_back xs)
  args_back (plain.proc f xs) = ap (plain.proc f) (args_back xs)

mutual
  before_back : (x : plain.Stmt) (b : plain.Block) → erased_before (tokened_stmt x) b ≡ plain.stmt x b
  before_back (plain.set at x e) b = ap (λ e. plain.stmt (plain.set at x e) b) (expr_back e)
  before_back (plain.set_at at x i e) b =
      ap (λ i. plain.stmt (plain.set_at at x i (erased_expr (tokened_expr e))) b) (expr_back i)
      ∙ ap (λ e. plain.stmt (plain.set_at at x i e) b) (expr_back e)
  before_back (plain.do_call at f xs) b = ap (λ xs. plain.stmt (plain.do_call at f xs) b) (args_back xs)
  before_back (plain.if_then at c a) b =
      ap (λ c. plain.stmt (plain.if_then at c (erased_block (tokened_block a))) b) (expr_back c)
      ∙ ap (λ a. plain.stmt (plain.if_then at c a) b) (block_back a)
  before_back (plain.if_else at c a d) b =
      ap (λ c. plain.stmt (plain.if_else at c (erased_block (tokened_block a))
      (erased_block (tokened_block d))) b)
      (expr_back c)
      ∙ ap (λ a. plain.stmt (plain.if_else at c a (erased_block (tokened_block d))) b) (block_back a)
      ∙ ap (λ d. plain.stmt (plain.if_else at c a d) b) (block_back d)
  before_back (plain.while at c a) b =
      ap (λ c. plain.stmt (plain.while at c (erased_block (tokened_block a))) b) (expr_back c)
      ∙ ap (λ a. plain.stmt (plain.while at c a) b) (block_back a)
  before_back (plain.return at e) b = ap (λ e. plain.stmt (plain.return at e) b) (expr_back e)
  before_back (plain.halt at e) b = ap (λ e. plain.stmt (plain.halt at e) b) (expr_back e)

  block_back : (b : plain.Block) → erased_block (tokened_block b) ≡ b
  block_back plain.no_stmts = refl
  block_back (plain.stmt x b) = before_back x (erased_block (tokened_block b))
      ∙ ap (plain.stmt x) (block_back b)

body_of : (xs : List plain.Stmt) → block_of (map tokened_stmt xs) ≡ tokened_block (plain_block_of xs)
body_of [] = refl
body_of (x ∷ xs) = ap (Rattle.token_language.specs.Tree.stmt (tokened_stmt x)) (body_of xs)

stmts_back : (xs : List plain.Stmt) → stmts_in (erased_block (block_of (map tokened_stmt xs))) ≡ xs
stmts_back [] = refl
stmts_back (x ∷ xs) =
    ap stmts_in (before_back x (erased_block (block_of (map tokened_stmt xs))))
    ∙ ap (λ xs. x ∷ xs) (stmts_back xs)

params_back : (params : List Param) → erased_params (map param.Plain params) ≡ params
params_back [] = refl
params_back (q ∷ params) = ap (λ params. q ∷ params) (params_back params)

locals_back : (locals : List Name) → erased_locals (map local.Plain locals) ≡ locals
locals_back [] = refl
locals_back (x ∷ locals) = ap (λ locals. x ∷ locals) (locals_back locals)

proc_with : Proc → List Param → List Name → List plain.Stmt → Proc
proc_with p params locals body = record {
  at = p.at;
  shared = p.shared;
  name = p.name;
  params = params;
  locals = locals;
  body = body;
}

proc_back : (p : Proc) → erased_proc (tokened_proc p) ≡ p
unfolding proc_with
proc_back p =
    let body = stmts_in (erased_block (block_of (map tokened_stmt p.body))) in
    ap (λ params. proc_with p params (erased_locals (map local.Plain p.locals)) body) (params_back p.params)
    ∙ ap (λ locals. proc_with p p.params locals body) (locals_back p.locals)
    ∙ ap (proc_with p p.params p.locals) (stmts_back p.body)

procs_back : (ps : List Proc) → map erased_proc (map tokened_proc ps) ≡ ps
procs_back [] = refl
procs_back (p ∷ ps) =
    ap (λ p. p ∷ map erased_proc (map tokened_proc ps)) (proc_back p) ∙ ap (λ ps. p ∷ ps) (procs_back ps)

back : (m : ModuleFields) → erased (tokened m) ≡ m
back m = ap (λ procs. record m { procs = procs }) (procs_back m.procs)

-- ---- it has no tokens

no_params : (params : List Param) → param_tokens (map param.Plain params) ≡ []
no_params [] = refl
no_params (q ∷ params) = no_params params

no_locals : (locals : List Name) → local_tokens (map local.Plain locals) ≡ []
no_locals [] = refl
no_locals (x ∷ locals) = no_locals locals

no_tokens : (p : Proc) → tokens_of (tokened_proc p) ≡ []
no_tokens p =
    ap (λ xs. xs ++ local_tokens (map local.Plain p.locals)) (no_params p.params) ∙ no_locals p.locals

none_has : (ps : List Proc) → Each (λ p. tokens_of p ≡ []) (map tokened_proc ps)
none_has [] = tt
none_has (p ∷ ps) = (no_tokens p, none_has ps)

few : (ps : List Proc) → Each TokensFit (map tokened_proc ps)
few [] = tt
few (p ∷ ps) = (let e = ap length (no_tokens p) in omega (arith, e), few ps)

-- ---- its names

joined : {A : Type 0} (a a' b b' : List A) → a ≡ a' → b ≡ b' → a ++ b ≡ a' ++ b'
joined a a' b b' e f = ap (λ a. a ++ b) e ∙ ap (λ b. a' ++ b) f

fit_same : (xs : plain.Args) (params : List Param)
    → fit (tokened_args xs) (map param.Plain params) ≡ names.fit xs params
fit_same plain.no_args [] = refl
fit_same plain.no_args (q ∷ params) = refl
fit_same (plain.value e xs) [] = refl
fit_same (plain.value e xs) (q ∷ params) = ap (λ b. is_none q.arity && b) (fit_same xs params)
fit_same (plain.proc f xs) [] = refl
fit_same (plain.proc f xs) (q ∷ params) = ap (λ b. is_some q.arity && b) (fit_same xs params)

fit_proc_same : (xs : plain.Args) (ps : List Proc) (i : ℕ)
    → fit_proc (tokened_args xs) (map tokened_proc ps) i ≡ names.fit_proc xs ps i
fit_proc_same xs ps i =
    ap (λ o. option_map_or (λ q. fit (tokened_args xs) q.params) o false) (slice_get-map tokened_proc ps i)
    ∙ by (slice_get ps i)
  where
    by : (o : Option Proc)
        → option_map_or (λ q. fit (tokened_args xs) q.params) (option_map tokened_proc o) false
        ≡ option_map_or (λ q. names.fit xs q.params) o false
    by None = refl
    by (Some q) = fit_same xs q.params

no_arg_tokens : (xs : plain.Args) → arg_tokens (tokened_args xs) ≡ []
no_arg_tokens plain.no_args = refl
no_arg_tokens (plain.value e xs) = no_arg_tokens xs
no_arg_tokens (plain.proc f xs) = no_arg_tokens xs

nothing_more : {A : Type 0} (xs : List A) → xs ++ [] ≡ xs
nothing_more [] = refl
nothing_more (x ∷ xs) = ap (λ xs. x ∷ xs) (nothing_more xs)

outside_same : (f : Name) (xs : plain.Args) (arity : Option ℕ)
    → outside_faults f (tokened_args xs) arity ≡ unless (registers_fit xs arity) (Arity f.at)
outside_same f xs arity =
    joined _ _ _ _ (ap (λ xs. unless (registers_fit xs arity) (Arity f.at)) (args_back xs))
    (ap wrong (no_arg_tokens xs))
    ∙ nothing_more (unless (registers_fit xs arity) (Arity f.at))

module _ (m : ModuleFields) (p : Proc) where
  abbrev tm : Rattle.token_language.specs.declared.module.TokenModuleFields.TokenModuleFields
  tm = tokened m

  abbrev tp : TokenProc
  tp = tokened_proc p

  not_token : (x : Name) → is_token tp x ≡ false
  not_token x = ap (list_any (λ y. same y x)) (no_tokens p)

  -- what is said of a name where no token has it
  in_plain : {A : Type 0} (F : ModuleFields → Proc → A) → F (erased tm) (erased_proc tp) ≡ F m p
  in_plain F = ap (λ m. F m (erased_proc tp)) (back m) ∙ ap (F m) (proc_back p)

  variable_same : (x : Name) → variable_faults tm tp x ≡ plain_faults x (variable_named m p x)
  variable_same x =
      ap (λ b. if b then WrongKind x.at ∷ [] else plain_faults x
      (variable_named (erased tm) (erased_proc tp) x))
      (not_token x) ∙ in_plain (λ m p. plain_faults x (variable_named m p x))

  element_same : (x : Name) → element_faults tm tp x ≡ array_faults x (variable_named m p x)
  element_same x =
      ap (λ b. if b then WrongKind x.at ∷ [] else array_faults x
      (variable_named (erased tm) (erased_proc tp) x))
      (not_token x) ∙ in_plain (λ m p. array_faults x (variable_named m p x))

  passed_same : (f : Name) → handed_faults tm tp f ≡ passed_faults f (passed_named m p f)
  passed_same f =
      ap (λ b. passed_faults f (or_token b (passed_named (erased tm) (erased_proc tp) f))) (not_token f)
      ∙ in_plain (λ m p. passed_faults f (or_token false (passed_named m p f)))
      ∙ by (passed_named m p f)
    where
      by : (c : Callee) → passed_faults f (or_token false c) ≡ passed_faults f c
      by (callee_of.Callback i) = refl
      by (callee_of.Import i) = refl
      by (callee_of.Proc i) = refl
      by callee_of.Other = refl
      by callee_of.Missing = refl

  called_same : (f : Name) (xs : plain.Args) (c : Callee)
      → called_faults tm tp f (tokened_args xs) c ≡ names.called_faults m p f xs c
  called_same f xs (callee_of.Callback i) =
      outside_same f xs (callback_arity (erased_params tp.params) i)
      ∙ ap (λ params. unless (registers_fit xs (callback_arity params i)) (Arity f.at)) (params_back p.params)
  called_same f xs (callee_of.Import i) = outside_same f xs (import_arity m.imports i)
  called_same f xs (callee_of.Proc i) = ap (λ b. unless b (Arity f.at)) (fit_proc_same xs m.procs i)
  called_same f xs callee_of.Other = refl
  called_same f xs callee_of.Missing = refl

  call_same : (f : Name) (xs : plain.Args) → call_faults tm tp f
      (tokened_args xs) ≡ names.call_faults m p f xs
  call_same f xs =
      in_plain (λ m p. called_faults tm tp f (tokened_args xs) (callee_named m p f))
      ∙ called_same f xs (callee_named m p f)

  mutual
    expr_same : (e : plain.Expr) → expr_faults tm tp (tokened_expr e) ≡ names.expr_faults m p e
    expr_same (plain.number at n) = refl
    expr_same (plain.var at x) = variable_same x
    expr_same (plain.element at x e) = joined _ _ _ _ (element_same x) (expr_same e)
    expr_same (plain.call at f xs) = joined _ _ _ _ (call_same f xs) (args_same xs)
    expr_same (plain.op at o a b) = joined _ _ _ _ (expr_same a) (expr_same b)

    args_same : (xs : plain.Args) → args_faults tm tp (tokened_args xs) ≡ names.args_faults m p xs
    args_same plain.no_args = refl
    args_same (plain.value e xs) = joined _ _ _ _ (expr_same e) (args_same xs)
    args_same (plain.proc f xs) = joined _ _ _ _ (passed_same f) (args_same xs)

  mutual
    stmt_same : (x : plain.Stmt) → stmt_faults tm tp (tokened_stmt x) ≡ names.stmt_faults m p x
    stmt_same (plain.set at x e) = joined _ _ _ _ (variable_same x) (expr_same e)
    stmt_same (plain.set_at at x i e) =
        joined _ _ _ _ (element_same x) (joined _ _ _ _ (expr_same i) (expr_same e))
    stmt_same (plain.do_call at f xs) = joined _ _ _ _ (call_same f xs) (args_same xs)
    stmt_same (plain.if_then at c a) = joined _ _ _ _ (expr_same c) (block_same a)
    stmt_same (plain.if_else at c a b) =
        joined _ _ _ _ (expr_same c) (joined _ _ _ _ (block_same a) (block_same b))
    stmt_same (plain.while at c a) = joined _ _ _ _ (expr_same c) (block_same a)
    stmt_same (plain.return at e) = expr_same e
    stmt_same (plain.halt at e) = expr_same e

    block_same : (b : plain.Block) → block_faults tm tp (tokened_block b) ≡ names.block_faults m p b
    block_same plain.no_stmts = refl
    block_same (plain.stmt x b) = joined _ _ _ _ (stmt_same x) (block_same b)

param_names : (params : List Param) → map param_name (map param.Plain params) ≡ map (λ q. q.name) params
param_names [] = refl
param_names (q ∷ params) = ap (λ xs. q.name ∷ xs) (param_names params)

local_names : (locals : List Name) → map local_name (map local.Plain locals) ≡ locals
local_names [] = refl
local_names (x ∷ locals) = ap (λ xs. x ∷ xs) (local_names locals)

nothing_shared : (p : Proc) → shared_faults (tokened_proc p) ≡ []
nothing_shared p = ap (λ xs. if p.shared then wrong xs else []) (no_params p.params) ∙ by p.shared
  where
    by : (b : Bool) → (if b then wrong [] else []) ≡ []
    by true = refl
    by false = refl

proc_same : (m : ModuleFields) (p : Proc) → proc_faults (tokened m) (tokened_proc p) ≡ names.proc_faults m p
proc_same m p =
    joined _ _ _ _ (ap twice (joined _ _ _ _ (param_names p.params) (local_names p.locals)))
    (joined _ [] _ _ (nothing_shared p)
    (ap (block_faults (tokened m) (tokened_proc p)) (body_of p.body)
    ∙ block_same m p (plain_block_of p.body)))

procs_same : (m : ModuleFields) (ps : List Proc)
    → procs_faults (tokened m) (map tokened_proc ps) ≡ names.procs_faults m ps
procs_same m [] = refl
procs_same m (p ∷ ps) = joined _ _ _ _ (proc_same m p) (procs_same m ps)

proc_names : (ps : List Proc) → map (λ p. p.name) (map tokened_proc ps) ≡ map (λ p. p.name) ps
proc_names [] = refl
proc_names (p ∷ ps) = ap (λ xs. p.name ∷ xs) (proc_names ps)

faults_same : (m : ModuleFields) → token_name_faults (tokened m) ≡ name_faults m
faults_same m =
    joined _ _ _ _
    (ap (λ xs. twice (map (λ i. i.name) m.imports ++ (map (λ g. g.name) m.globals ++ xs)))
    (proc_names m.procs))
    (procs_same m m.procs)

pub plain_are_accepted : PlainAreAccepted
plain_are_accepted m fits resolved = record {
  same = back m;
  accepted = record {
    limits = record { plain = subst IsModule (sym (back m)) fits; tokens = few m.procs };
    resolved = faults_same m ∙ resolved;
    checked = inr (none_has m.procs);
  };
}
