-- The faults of names in a module with tokens. A name leads where it leads in the module without its tokens.
use Rattle.std.specs.Prelude.{◌≡◌, ℕ, Bool, true, false, ◌&&◌, ◌||◌, is_some, is_none}
use Rattle.std.specs.Prelude.{if◌then◌else◌, List, [], ◌∷◌, ◌++◌, map, slice_get, Option, Result}
use Rattle.std.specs.Option.{option_map_or}
use Rattle.std.specs.List.{list_any}
use Rattle.proc_language.specs.declared.tree.Name.{Name}
use Rattle.proc_names.specs.declared.fault.NameFault.{NameFault}
use Rattle.proc_names.specs.declared.fault.NameFault.TheVariants.{Unknown, Arity, WrongKind}
use Rattle.proc_names.specs.declared.scope.Callee.{Callee}
use Rattle.proc_names.specs.declared.scope.Callee.TheVariants as callee_of
use Rattle.proc_names.specs.Faults.{first, unless}
use Rattle.proc_names.specs.Names.{same, is_there, variable_named, callee_named, passed_named}
use Rattle.proc_names.specs.NameFaults.{plain_faults, array_faults, registers_fit, callback_arity}
use Rattle.proc_names.specs.NameFaults.{import_arity, passed_faults, names_of_items, twice, none_or}
use Rattle.token_language.specs.declared.module.TokenParam.{TokenParam}
use Rattle.token_language.specs.declared.module.TokenParam.TheVariants as param
use Rattle.token_language.specs.declared.module.TokenProc.{TokenProc}
use Rattle.token_language.specs.declared.module.TokenModuleFields.{TokenModuleFields}
use Rattle.token_language.specs.Tree.{Expr, number, var, element, call, op, Args, no_args, value, proc, token}
use Rattle.token_language.specs.Tree.{Stmt, set, set_at, do_call, if_then, if_else, while, return, halt}
use Rattle.token_language.specs.Tree.{make, spend, Block, no_stmts, stmt}
use Rattle.token_language.specs.StmtView.{block_of}
use Rattle.token_language.specs.Tokens.{param_name, local_name, param_tokens, tokens_of}
use Rattle.token_language.specs.Erased.{erased, erased_args, erased_params, erased_locals, erased_proc}

-- ---- tokens

-- some token of the procedure has the name
abbrev pub is_token : TokenProc → Name → Bool
is_token p x = list_any (λ y. same y x) (tokens_of p)

-- a parameter or local that is no token has the name
abbrev pub is_plain : TokenProc → Name → Bool
is_plain p x =
    is_there (λ q. q.name) (erased_params p.params) x || is_there (λ y. y) (erased_locals p.locals) x

-- a name that is to be a token
abbrev pub token_faults : TokenProc → Name → List NameFault
token_faults p x =
    if is_token p x then [] else if is_plain p x then WrongKind x.at ∷ [] else Unknown x.at ∷ []

-- tokens that may not stand there
abbrev pub wrong : List Name → List NameFault
wrong names = map (λ x. WrongKind x.at) names

-- ---- calls

abbrev pub arg_tokens : Args → List Name
arg_tokens no_args = []
arg_tokens (value e args) = arg_tokens args
arg_tokens (proc f args) = arg_tokens args
arg_tokens (token x args) = x ∷ arg_tokens args

-- as many arguments as parameters, `proc` exactly at each callback, and `token` exactly at each token
abbrev pub fit : Args → List TokenParam → Bool
fit no_args [] = true
fit (value e args) (param.Plain q ∷ params) = is_none q.arity && fit args params
fit (proc f args) (param.Plain q ∷ params) = is_some q.arity && fit args params
fit (token x args) (param.Token y ∷ params) = fit args params
fit _ _ = false

abbrev pub fit_proc : Args → List TokenProc → ℕ → Bool
fit_proc args procs i = option_map_or (λ q. fit args q.params) (slice_get procs i) false

-- a call of a callback or an import that takes so many registers, and no token
abbrev pub outside_faults : Name → Args → Option ℕ → List NameFault
outside_faults f args arity =
    unless (registers_fit (erased_args args) arity) (Arity f.at) ++ wrong (arg_tokens args)

abbrev pub called_faults : TokenModuleFields → TokenProc → Name → Args → Callee → List NameFault
called_faults m p f args (callee_of.Callback i) =
    outside_faults f args (callback_arity (erased_params p.params) i)
called_faults m p f args (callee_of.Import i) = outside_faults f args (import_arity m.imports i)
called_faults m p f args (callee_of.Proc i) = unless (fit_proc args m.procs i) (Arity f.at)
called_faults m p f args callee_of.Other = WrongKind f.at ∷ []
called_faults m p f args callee_of.Missing = Unknown f.at ∷ []

-- what there is of a name that leads nowhere but to a token
abbrev pub or_token : Bool → Callee → Callee
or_token true callee_of.Missing = callee_of.Other
or_token true callee = callee
or_token false callee = callee

-- ---- each use of a name in a procedure

module _ (m : TokenModuleFields) (p : TokenProc) where
  abbrev pub variable_faults : Name → List NameFault
  variable_faults x =
      if is_token p x then WrongKind x.at ∷ []
      else plain_faults x (variable_named (erased m) (erased_proc p) x)

  abbrev pub element_faults : Name → List NameFault
  element_faults x =
      if is_token p x then WrongKind x.at ∷ []
      else array_faults x (variable_named (erased m) (erased_proc p) x)

  abbrev pub call_faults : Name → Args → List NameFault
  call_faults f args = called_faults m p f args (callee_named (erased m) (erased_proc p) f)

  abbrev pub handed_faults : Name → List NameFault
  handed_faults f = passed_faults f (or_token (is_token p f) (passed_named (erased m) (erased_proc p) f))

  abbrev mutual
    pub expr_faults : Expr → List NameFault
    expr_faults (number at n) = []
    expr_faults (var at x) = variable_faults x
    expr_faults (element at x e) = element_faults x ++ expr_faults e
    expr_faults (call at f args) = call_faults f args ++ args_faults args
    expr_faults (op at o a b) = expr_faults a ++ expr_faults b

    pub args_faults : Args → List NameFault
    args_faults no_args = []
    args_faults (value e args) = expr_faults e ++ args_faults args
    args_faults (proc f args) = handed_faults f ++ args_faults args
    args_faults (token x args) = token_faults p x ++ args_faults args

  abbrev mutual
    pub stmt_faults : Stmt → List NameFault
    stmt_faults (set at end x e) = variable_faults x ++ expr_faults e
    stmt_faults (set_at at end x i e) = element_faults x ++ (expr_faults i ++ expr_faults e)
    stmt_faults (do_call at end f args) = call_faults f args ++ args_faults args
    stmt_faults (if_then at end c b) = expr_faults c ++ block_faults b
    stmt_faults (if_else at end c b d) = expr_faults c ++ (block_faults b ++ block_faults d)
    stmt_faults (while at end c b) = expr_faults c ++ block_faults b
    stmt_faults (return at end e) = expr_faults e
    stmt_faults (halt at end e) = expr_faults e
    stmt_faults (make at end x) = token_faults p x
    stmt_faults (spend at end x) = token_faults p x

    pub block_faults : Block → List NameFault
    block_faults no_stmts = []
    block_faults (stmt s b) = stmt_faults s ++ block_faults b

-- ---- the module

-- its tokens among them
abbrev pub own_names : TokenProc → List Name
own_names p = map param_name p.params ++ map local_name p.locals

-- no other part hands a token over
abbrev pub shared_faults : TokenProc → List NameFault
shared_faults p = if p.shared then wrong (param_tokens p.params) else []

abbrev pub proc_faults : TokenModuleFields → TokenProc → List NameFault
proc_faults m p = twice (own_names p) ++ (shared_faults p ++ block_faults m p (block_of p.body))

abbrev pub procs_faults : TokenModuleFields → List TokenProc → List NameFault
procs_faults m [] = []
procs_faults m (p ∷ procs) = proc_faults m p ++ procs_faults m procs

abbrev pub token_name_faults : TokenModuleFields → List NameFault
token_name_faults m =
    twice (names_of_items (λ p. p.name) m.imports m.globals m.procs) ++ procs_faults m m.procs

abbrev pub IsTokenResolved : TokenModuleFields → Type 0
IsTokenResolved m = token_name_faults m ≡ []

abbrev pub resolved_tokens : TokenModuleFields → Result (Unit {0}) NameFault
resolved_tokens m = none_or (first (token_name_faults m))
