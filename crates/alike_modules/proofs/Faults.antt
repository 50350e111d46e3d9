-- Names of modules that are alike have the same faults, but for their places.
use Rattle.std.proofs.Common.{◌≡◌, refl, ◌∙◌, ap, sym, ℕ, ◌==◌, Bool, true, false, ◌&&◌, not}
use Rattle.std.proofs.Common.{List, [], ◌∷◌, ◌++◌, map, Option, Some, None}
use Rattle.std.specs.Prelude.{is_some, is_none, slice_get, option_map}
use Rattle.std.specs.Option.{option_and_then, option_map_or}
use Rattle.std.proofs.lemmas.List.{map-append}
use Rattle.std.proofs.lemmas.Option.{slice_get-map}
use Rattle.proc_language.specs.declared.tree.Name.{Name}
use Rattle.proc_language.specs.declared.module.Import.{Import}
use Rattle.proc_language.specs.declared.module.Param.{Param}
use Rattle.proc_language.specs.declared.module.Proc.{Proc}
use Rattle.proc_language.specs.declared.module.ModuleFields.{ModuleFields}
use Rattle.proc_language.specs.Tree.{Expr, number, var, element, call, op, Args, no_args, value, proc}
use Rattle.proc_language.specs.Tree.{Stmt, set, set_at, do_call, if_then, if_else, while, return, halt}
use Rattle.proc_language.specs.Tree.{Block, no_stmts, stmt}
use Rattle.proc_language.specs.StmtView.{block_of}
use Rattle.proc_language.specs.Unplaced.{unplaced_name, unplaced_expr, unplaced_args, unplaced_stmt}
use Rattle.proc_language.specs.Unplaced.{unplaced_block, unplaced_import, unplaced_global, unplaced_param}
use Rattle.proc_language.specs.Unplaced.{unplaced_proc, unplaced, IsAlike}
use Rattle.proc_names.specs.declared.fault.NameFault.{NameFault}
use Rattle.proc_names.specs.declared.fault.NameFault.TheVariants.{Unknown, Twice, Arity, WrongKind}
use Rattle.proc_names.specs.declared.scope.Variable.{Variable}
use Rattle.proc_names.specs.declared.scope.Variable.TheVariants as variable_of
use Rattle.proc_names.specs.declared.scope.Callee.{Callee}
use Rattle.proc_names.specs.declared.scope.Callee.TheVariants as callee_of
use Rattle.proc_names.specs.Faults.{unless}
use Rattle.proc_names.specs.Names.{same, variable_named, callee_named, passed_named}
use Rattle.proc_names.specs.NameFaults.{plain_faults, array_faults, registers_fit, callback_arity}
use Rattle.proc_names.specs.NameFaults.{import_arity}
use Rattle.proc_names.specs.NameFaults.{fit, fit_proc, called_faults, call_faults, passed_faults, expr_faults}
use Rattle.proc_names.specs.NameFaults.{args_faults, stmt_faults, block_faults, again, twice, item_names}
use Rattle.proc_names.specs.NameFaults.{own_names, proc_faults, procs_faults, name_faults}
use Rattle.alike_modules.proofs.Lists.{get_of}
use Rattle.alike_modules.proofs.Counts.{block_alike, arg_registers_alike}
use Rattle.alike_modules.proofs.Names.{variable_alike, callee_alike, passed_alike}

-- a fault without its place
abbrev bare : NameFault → NameFault
bare (Unknown at) = Unknown 0
bare (Twice at) = Twice 0
bare (Arity at) = Arity 0
bare (WrongKind at) = WrongKind 0

abbrev bared : List NameFault → List NameFault
bared fs = map bare fs

-- faults of two parts
both : (xs xs' ys ys' : List NameFault) → xs' ≡ bared xs → ys' ≡ bared ys → xs' ++ ys' ≡ bared (xs ++ ys)
both xs xs' ys ys' a b = (λ i. a i ++ b i) ∙ sym (map-append bare xs ys)

unless_bare : (b b' : Bool) (f f' : NameFault) → b' ≡ b → f' ≡ bare f → unless b' f' ≡ bared (unless b f)
unless_bare b b' f f' e d = (λ i. unless (e i) (d i)) ∙ by b
  where
    by : (c : Bool) → unless c (bare f) ≡ bared (unless c f)
    by true = refl
    by false = refl

-- ---- uses of names

plain_bare : (x : Name) (v : Variable) → plain_faults (unplaced_name x) v ≡ bared (plain_faults x v)
plain_bare x (variable_of.Param k) = refl
plain_bare x (variable_of.Local k) = refl
plain_bare x (variable_of.Global k) = refl
plain_bare x (variable_of.Array k) = refl
plain_bare x variable_of.Other = refl
plain_bare x variable_of.Missing = refl

array_bare : (x : Name) (v : Variable) → array_faults (unplaced_name x) v ≡ bared (array_faults x v)
array_bare x (variable_of.Param k) = refl
array_bare x (variable_of.Local k) = refl
array_bare x (variable_of.Global k) = refl
array_bare x (variable_of.Array k) = refl
array_bare x variable_of.Other = refl
array_bare x variable_of.Missing = refl

passed_bare : (f : Name) (c : Callee) → passed_faults (unplaced_name f) c ≡ bared (passed_faults f c)
passed_bare f (callee_of.Callback k) = refl
passed_bare f (callee_of.Import k) = refl
passed_bare f (callee_of.Proc k) = refl
passed_bare f callee_of.Other = refl
passed_bare f callee_of.Missing = refl

fit_alike : (args : Args) (ps : List Param) → fit (unplaced_args args) (map unplaced_param ps) ≡ fit args ps
fit_alike no_args [] = refl
fit_alike no_args (q ∷ ps) = refl
fit_alike (value e args) [] = refl
fit_alike (value e args) (q ∷ ps) = ap (λ b. is_none q.arity && b) (fit_alike args ps)
fit_alike (proc f args) [] = refl
fit_alike (proc f args) (q ∷ ps) = ap (λ b. is_some q.arity && b) (fit_alike args ps)

fit_proc_alike : (args : Args) (ps : List Proc) (k : ℕ)
    → fit_proc (unplaced_args args) (map unplaced_proc ps) k ≡ fit_proc args ps k
fit_proc_alike args ps k =
    get_of unplaced_proc (λ q. fit (unplaced_args args) q.params) false ps k ∙ by (slice_get ps k)
  where
    by : (x : Option Proc)
        → option_map_or (λ q. fit (unplaced_args args) (map unplaced_param q.params)) x false
        ≡ option_map_or (λ q. fit args q.params) x false
    by None = refl
    by (Some q) = fit_alike args q.params

registers_alike : (args : Args) (n : Option ℕ) → registers_fit (unplaced_args args) n ≡ registers_fit args n
registers_alike args None = refl
registers_alike args (Some n) = ap (λ k. k == n) (arg_registers_alike args)

callback_alike : (ps : List Param) (k : ℕ) → callback_arity (map unplaced_param ps) k ≡ callback_arity ps k
callback_alike ps k = ap (option_and_then (λ q. q.arity)) (slice_get-map unplaced_param ps k) ∙
    by (slice_get ps k)
  where
    by : (x : Option Param)
        → option_and_then (λ q. q.arity) (option_map unplaced_param x) ≡ option_and_then (λ q. q.arity) x
    by None = refl
    by (Some q) = refl

import_alike : (is : List Import) (k : ℕ) → import_arity (map unplaced_import is) k ≡ import_arity is k
import_alike is k = ap (option_map (λ x. x.arity)) (slice_get-map unplaced_import is k) ∙ by (slice_get is k)
  where
    by : (x : Option Import)
        → option_map (λ x. x.arity) (option_map unplaced_import x) ≡ option_map (λ x. x.arity) x
    by None = refl
    by (Some q) = refl

module _ (m : ModuleFields) (p : Proc) where
  called_bare : (f : Name) (args : Args) (c : Callee)
      → called_faults (unplaced m) (unplaced_proc p) (unplaced_name f) (unplaced_args args) c
      ≡ bared (called_faults m p f args c)
  called_bare f args (callee_of.Callback k) =
      unless_bare (registers_fit args (callback_arity p.params k)) _ (Arity f.at) (Arity 0)
      (ap (registers_fit (unplaced_args args)) (callback_alike p.params k)
      ∙ registers_alike args (callback_arity p.params k)) refl
  called_bare f args (callee_of.Import k) =
      unless_bare (registers_fit args (import_arity m.imports k)) _ (Arity f.at) (Arity 0)
      (ap (registers_fit (unplaced_args args)) (import_alike m.imports k)
      ∙ registers_alike args (import_arity m.imports k)) refl
  called_bare f args (callee_of.Proc k) =
      unless_bare (fit_proc args m.procs k) _ (Arity f.at) (Arity 0) (fit_proc_alike args m.procs k) refl
  called_bare f args callee_of.Other = refl
  called_bare f args callee_of.Missing = refl

  call_bare : (f : Name) (args : Args)
      → call_faults (unplaced m) (unplaced_proc p) (unplaced_name f) (unplaced_args args)
      ≡ bared (call_faults m p f args)
  call_bare f args =
      ap (called_faults (unplaced m) (unplaced_proc p) (unplaced_name f) (unplaced_args args))
      (callee_alike m p f)
      ∙ called_bare f args (callee_named m p f)

  use_bare : (x : Name)
      → plain_faults (unplaced_name x) (variable_named (unplaced m) (unplaced_proc p) (unplaced_name x))
      ≡ bared (plain_faults x (variable_named m p x))
  use_bare x = ap (plain_faults (unplaced_name x)) (variable_alike m p x) ∙
      plain_bare x (variable_named m p x)

  index_bare : (x : Name)
      → array_faults (unplaced_name x) (variable_named (unplaced m) (unplaced_proc p) (unplaced_name x))
      ≡ bared (array_faults x (variable_named m p x))
  index_bare x = ap (array_faults (unplaced_name x)) (variable_alike m p x) ∙
      array_bare x (variable_named m p x)

  pass_bare : (f : Name)
      → passed_faults (unplaced_name f) (passed_named (unplaced m) (unplaced_proc p) (unplaced_name f))
      ≡ bared (passed_faults f (passed_named m p f))
  pass_bare f = ap (passed_faults (unplaced_name f)) (passed_alike m p f) ∙ passed_bare f (passed_named m p f)

  -- ---- expressions and statements

  mutual
    expr_bare : (e : Expr)
        → expr_faults (unplaced m) (unplaced_proc p) (unplaced_expr e) ≡ bared (expr_faults m p e)
    expr_bare (number at n) = refl
    expr_bare (var at x) = use_bare x
    expr_bare (element at x e) = both _ _ (expr_faults m p e) _ (index_bare x) (expr_bare e)
    expr_bare (call at f args) =
        both (call_faults m p f args) _ (args_faults m p args) _ (call_bare f args) (args_bare args)
    expr_bare (op at o a b) = both (expr_faults m p a) _ (expr_faults m p b) _ (expr_bare a) (expr_bare b)

    args_bare : (args : Args)
        → args_faults (unplaced m) (unplaced_proc p) (unplaced_args args) ≡ bared (args_faults m p args)
    args_bare no_args = refl
    args_bare (value e args) =
        both (expr_faults m p e) _ (args_faults m p args) _ (expr_bare e) (args_bare args)
    args_bare (proc f args) = both _ _ (args_faults m p args) _ (pass_bare f) (args_bare args)

  mutual
    stmt_bare : (s : Stmt)
        → stmt_faults (unplaced m) (unplaced_proc p) (unplaced_stmt s) ≡ bared (stmt_faults m p s)
    stmt_bare (set at x e) = both _ _ (expr_faults m p e) _ (use_bare x) (expr_bare e)
    stmt_bare (set_at at x k e) =
        both _ _ (expr_faults m p k ++ expr_faults m p e) _ (index_bare x)
        (both (expr_faults m p k) _ (expr_faults m p e) _ (expr_bare k) (expr_bare e))
    stmt_bare (do_call at f args) =
        both (call_faults m p f args) _ (args_faults m p args) _ (call_bare f args) (args_bare args)
    stmt_bare (if_then at c b) =
        both (expr_faults m p c) _ (block_faults m p b) _ (expr_bare c) (block_bare b)
    stmt_bare (if_else at c b d) =
        both (expr_faults m p c) _ (block_faults m p b ++ block_faults m p d) _ (expr_bare c)
        (both (block_faults m p b) _ (block_faults m p d) _ (block_bare b) (block_bare d))
    stmt_bare (while at c b) =
        both (expr_faults m p c) _ (block_faults m p b) _ (expr_bare c) (block_bare b)
    stmt_bare (return at e) = expr_bare e
    stmt_bare (halt at e) = expr_bare e

    block_bare : (b : Block)
        → block_faults (unplaced m) (unplaced_proc p) (unplaced_block b) ≡ bared (block_faults m p b)
    block_bare no_stmts = refl
    block_bare (stmt s b) = both (stmt_faults m p s) _ (block_faults m p b) _ (stmt_bare s) (block_bare b)

-- ---- names that stand twice

again_bare : (x : Name) (ys : List Name)
    → again (unplaced_name x) (map unplaced_name ys) ≡ bared (again x ys)
again_bare x [] = refl
again_bare x (y ∷ ys) =
    both (unless (not (same x y)) (Twice y.at)) _ (again x ys) _
    (unless_bare (not (same x y)) _ (Twice y.at) (Twice 0) refl refl) (again_bare x ys)

twice_bare : (xs : List Name) → twice (map unplaced_name xs) ≡ bared (twice xs)
twice_bare [] = refl
twice_bare (x ∷ xs) = both (again x xs) _ (twice xs) _ (again_bare x xs) (twice_bare xs)

-- the names of items are those that they had
named_alike : {A : Type 0} (g : A → A) (name : A → Name) → ((x : A) → name (g x) ≡ unplaced_name (name x))
    → (xs : List A) → map name (map g xs) ≡ map unplaced_name (map name xs)
named_alike g name e [] = refl
named_alike g name e (x ∷ xs) = λ i. e x i ∷ named_alike g name e xs i

item_names_alike : (m : ModuleFields) → item_names (unplaced m) ≡ map unplaced_name (item_names m)
item_names_alike m =
    (λ i. named_alike unplaced_import (λ x. x.name) (λ x. refl) m.imports i
    ++ (named_alike unplaced_global (λ g. g.name) (λ g. refl) m.globals i
    ++ named_alike unplaced_proc (λ p. p.name) (λ p. refl) m.procs i))
    ∙ ap (λ xs. map unplaced_name (map (λ x. x.name) m.imports) ++ xs)
    (sym (map-append unplaced_name (map (λ g. g.name) m.globals) (map (λ p. p.name) m.procs)))
    ∙ sym (map-append unplaced_name (map (λ x. x.name) m.imports)
    (map (λ g. g.name) m.globals ++ map (λ p. p.name) m.procs))

own_names_alike : (p : Proc) → own_names (unplaced_proc p) ≡ map unplaced_name (own_names p)
own_names_alike p =
    ap (λ xs. xs ++ map unplaced_name p.locals)
    (named_alike unplaced_param (λ q. q.name) (λ q. refl) p.params)
    ∙ sym (map-append unplaced_name (map (λ q. q.name) p.params) p.locals)

-- ---- the module

proc_bare : (m : ModuleFields) (p : Proc) →
    proc_faults (unplaced m) (unplaced_proc p) ≡ bared (proc_faults m p)
proc_bare m p =
    both (twice (own_names p)) _ (block_faults m p (block_of p.body)) _
    (ap twice (own_names_alike p) ∙ twice_bare (own_names p))
    (ap (block_faults (unplaced m) (unplaced_proc p)) (block_alike p.body) ∙ block_bare m p (block_of p.body))

procs_bare : (m : ModuleFields) (ps : List Proc)
    → procs_faults (unplaced m) (map unplaced_proc ps) ≡ bared (procs_faults m ps)
procs_bare m [] = refl
procs_bare m (p ∷ ps) = both (proc_faults m p) _ (procs_faults m ps) _ (proc_bare m p) (procs_bare m ps)

faults_bare : (m : ModuleFields) → name_faults (unplaced m) ≡ bared (name_faults m)
faults_bare m =
    both (twice (item_names m)) _ (procs_faults m m.procs) _
    (ap twice (item_names_alike m) ∙ twice_bare (item_names m)) (procs_bare m m.procs)

none_bare : (fs : List NameFault) → bared fs ≡ [] → fs ≡ []
none_bare [] e = refl
none_bare (f ∷ fs) e = cc

pub same_names : (a b : ModuleFields) → IsAlike a b → name_faults a ≡ [] → name_faults b ≡ []
same_names a b h e =
    none_bare (name_faults b)
    (sym (faults_bare b) ∙ ap name_faults (sym h) ∙ faults_bare a ∙ ap bared e)
