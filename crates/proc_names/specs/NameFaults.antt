-- The faults of names in a module. docs/LANGUAGE.md has the rules in words.
use Rattle.std.specs.Prelude.{ℕ, ◌==◌, Bool, true, false, ◌&&◌, not, is_some, is_none, List, [], ◌∷◌, ◌++◌}
use Rattle.std.specs.Prelude.{map, slice_get, Option, Some, None, option_map, Result, Ok, Err}
use Rattle.std.specs.Option.{option_map_or, option_and_then}
use Rattle.proc_language.specs.declared.tree.Name.{Name}
use Rattle.proc_language.specs.declared.module.Import.{Import}
use Rattle.proc_language.specs.declared.module.Global.{Global}
use Rattle.proc_language.specs.declared.module.Param.{Param}
use Rattle.proc_language.specs.declared.module.Proc.{Proc}
use Rattle.proc_language.specs.declared.module.ModuleFields.{ModuleFields}
use Rattle.proc_language.specs.Tree.{Expr, number, var, element, call, op, Args, no_args, value, proc}
use Rattle.proc_language.specs.Tree.{Stmt, set, set_at, do_call, if_then, if_else, while, return, halt}
use Rattle.proc_language.specs.Tree.{Block, no_stmts, stmt}
use Rattle.proc_language.specs.Limits.{arg_registers}
use Rattle.proc_language.specs.StmtView.{block_of}
use Rattle.proc_names.specs.declared.fault.NameFault.{NameFault}
use Rattle.proc_names.specs.declared.fault.NameFault.TheVariants.{Unknown, Twice, Arity, WrongKind}
use Rattle.proc_names.specs.declared.scope.Variable.{Variable}
use Rattle.proc_names.specs.declared.scope.Variable.TheVariants as variable_of
use Rattle.proc_names.specs.declared.scope.Callee.{Callee}
use Rattle.proc_names.specs.declared.scope.Callee.TheVariants as callee_of
use Rattle.proc_names.specs.Faults.{first, unless}
use Rattle.proc_names.specs.Names.{same, variable_named, callee_named, passed_named}

-- ---- variables

-- used without an index
abbrev pub plain_faults : Name → Variable → List NameFault
plain_faults x (variable_of.Param i) = []
plain_faults x (variable_of.Local i) = []
plain_faults x (variable_of.Global i) = []
plain_faults x (variable_of.Array i) = WrongKind x.at ∷ []
plain_faults x variable_of.Other = WrongKind x.at ∷ []
plain_faults x variable_of.Missing = Unknown x.at ∷ []

-- used with an index
abbrev pub array_faults : Name → Variable → List NameFault
array_faults x (variable_of.Array i) = []
array_faults x (variable_of.Param i) = WrongKind x.at ∷ []
array_faults x (variable_of.Local i) = WrongKind x.at ∷ []
array_faults x (variable_of.Global i) = WrongKind x.at ∷ []
array_faults x variable_of.Other = WrongKind x.at ∷ []
array_faults x variable_of.Missing = Unknown x.at ∷ []

-- ---- calls

-- as many registers as is stated
abbrev pub registers_fit : Args → Option ℕ → Bool
registers_fit args (Some n) = arg_registers args == n
registers_fit args None = false

abbrev pub callback_arity : List Param → ℕ → Option ℕ
callback_arity params i = option_and_then (λ q. q.arity) (slice_get params i)

abbrev pub import_arity : List Import → ℕ → Option ℕ
import_arity imports i = option_map (λ x. x.arity) (slice_get imports i)

-- as many arguments as parameters, and `proc` exactly at each callback
abbrev pub fit : Args → List Param → Bool
fit no_args [] = true
fit no_args (q ∷ params) = false
fit (value e args) [] = false
fit (value e args) (q ∷ params) = is_none q.arity && fit args params
fit (proc f args) [] = false
fit (proc f args) (q ∷ params) = is_some q.arity && fit args params

abbrev pub fit_proc : Args → List Proc → ℕ → Bool
fit_proc args procs i = option_map_or (λ q. fit args q.params) (slice_get procs i) false

-- what the name of a call leads to takes other arguments, or isn't called
abbrev pub called_faults : ModuleFields → Proc → Name → Args → Callee → List NameFault
called_faults m p f args (callee_of.Callback i) =
    unless (registers_fit args (callback_arity p.params i)) (Arity f.at)
called_faults m p f args (callee_of.Import i) =
    unless (registers_fit args (import_arity m.imports i)) (Arity f.at)
called_faults m p f args (callee_of.Proc i) = unless (fit_proc args m.procs i) (Arity f.at)
called_faults m p f args callee_of.Other = WrongKind f.at ∷ []
called_faults m p f args callee_of.Missing = Unknown f.at ∷ []

abbrev pub call_faults : ModuleFields → Proc → Name → Args → List NameFault
call_faults m p f args = called_faults m p f args (callee_named m p f)

-- a name that is passed on
abbrev pub passed_faults : Name → Callee → List NameFault
passed_faults f (callee_of.Callback i) = []
passed_faults f (callee_of.Import i) = []
passed_faults f (callee_of.Proc i) = []
passed_faults f callee_of.Other = WrongKind f.at ∷ []
passed_faults f callee_of.Missing = Unknown f.at ∷ []

-- ---- expressions and statements

module _ (m : ModuleFields) (p : Proc) where
  abbrev mutual
    pub expr_faults : Expr → List NameFault
    expr_faults (number at n) = []
    expr_faults (var at x) = plain_faults x (variable_named m p x)
    expr_faults (element at x e) = array_faults x (variable_named m p x) ++ expr_faults e
    expr_faults (call at f args) = call_faults m p f args ++ args_faults args
    expr_faults (op at o a b) = expr_faults a ++ expr_faults b

    pub args_faults : Args → List NameFault
    args_faults no_args = []
    args_faults (value e args) = expr_faults e ++ args_faults args
    args_faults (proc f args) = passed_faults f (passed_named m p f) ++ args_faults args

  abbrev mutual
    pub stmt_faults : Stmt → List NameFault
    stmt_faults (set at x e) = plain_faults x (variable_named m p x) ++ expr_faults e
    stmt_faults (set_at at x i e) = array_faults x (variable_named m p x) ++ (expr_faults i ++ expr_faults e)
    stmt_faults (do_call at f args) = call_faults m p f args ++ args_faults args
    stmt_faults (if_then at c b) = expr_faults c ++ block_faults b
    stmt_faults (if_else at c b d) = expr_faults c ++ (block_faults b ++ block_faults d)
    stmt_faults (while at c b) = expr_faults c ++ block_faults b
    stmt_faults (return at e) = expr_faults e
    stmt_faults (halt at e) = expr_faults e

    pub block_faults : Block → List NameFault
    block_faults no_stmts = []
    block_faults (stmt s b) = stmt_faults s ++ block_faults b

-- ---- names that stand twice

-- each place after where the name stands again
abbrev pub again : Name → List Name → List NameFault
again x [] = []
again x (y ∷ ys) = unless (not (same x y)) (Twice y.at) ++ again x ys

abbrev pub twice : List Name → List NameFault
twice [] = []
twice (x ∷ xs) = again x xs ++ twice xs

-- imports by the name after the dot
abbrev pub names_of_items : {P : Type 0} → (P → Name) → List Import → List Global → List P → List Name
names_of_items name_of imports globals procs =
    map (λ i. i.name) imports ++ (map (λ g. g.name) globals ++ map name_of procs)

abbrev pub item_names : ModuleFields → List Name
item_names m = names_of_items (λ p. p.name) m.imports m.globals m.procs

abbrev pub own_names : Proc → List Name
own_names p = map (λ q. q.name) p.params ++ p.locals

-- ---- the module

abbrev pub proc_faults : ModuleFields → Proc → List NameFault
proc_faults m p = twice (own_names p) ++ block_faults m p (block_of p.body)

abbrev pub procs_faults : ModuleFields → List Proc → List NameFault
procs_faults m [] = []
procs_faults m (p ∷ procs) = proc_faults m p ++ procs_faults m procs

abbrev pub name_faults : ModuleFields → List NameFault
name_faults m = twice (item_names m) ++ procs_faults m m.procs

-- none, or the first
abbrev pub none_or : Option NameFault → Result (Unit {0}) NameFault
none_or None = Ok tt
none_or (Some f) = Err f

abbrev pub resolved : ModuleFields → Result (Unit {0}) NameFault
resolved m = none_or (first (name_faults m))
