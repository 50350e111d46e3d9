-- The calls of a module, numbered from 0 by the order of their closing brackets.
use Rattle.std.specs.Prelude.{ℕ, ◌+◌, List, [], ◌∷◌, ◌++◌, flat_map, sum_by}
use Rattle.proc_language.specs.declared.tree.Name.{Name}
use Rattle.proc_language.specs.declared.module.Proc.{Proc}
use Rattle.proc_language.specs.declared.module.ModuleFields.{ModuleFields}
use Rattle.proc_language.specs.Tree.{Expr, number, var, element, call, op, Args, no_args, value, proc}
use Rattle.proc_language.specs.Tree.{Stmt, set, set_at, do_call, if_then, if_else, while, return, halt}
use Rattle.proc_language.specs.Tree.{Block, no_stmts, stmt}
use Rattle.proc_language.specs.StmtView.{block_of}

-- how many calls there are; of a call, those in its arguments close before it
abbrev mutual
  pub calls : Expr → ℕ
  calls (number at n) = 0
  calls (var at x) = 0
  calls (element at x e) = calls e
  calls (call at f args) = args_calls args + 1
  calls (op at o a b) = calls a + calls b

  pub args_calls : Args → ℕ
  args_calls no_args = 0
  args_calls (value e args) = calls e + args_calls args
  args_calls (proc f args) = args_calls args

abbrev mutual
  pub stmt_calls : Stmt → ℕ
  stmt_calls (set at x e) = calls e
  stmt_calls (set_at at x i e) = calls i + calls e
  stmt_calls (do_call at f args) = args_calls args + 1
  stmt_calls (if_then at c b) = calls c + block_calls b
  stmt_calls (if_else at c b d) = calls c + (block_calls b + block_calls d)
  stmt_calls (while at c b) = calls c + block_calls b
  stmt_calls (return at e) = calls e
  stmt_calls (halt at e) = calls e

  pub block_calls : Block → ℕ
  block_calls no_stmts = 0
  block_calls (stmt s b) = stmt_calls s + block_calls b

abbrev pub proc_calls : Proc → ℕ
proc_calls p = block_calls (block_of p.body)

abbrev pub module_calls : ModuleFields → ℕ
module_calls m = sum_by proc_calls m.procs

-- the names of the calls, in the order in which their brackets close
abbrev mutual
  pub closed : Expr → List Name
  closed (number at n) = []
  closed (var at x) = []
  closed (element at x e) = closed e
  closed (call at f args) = args_closed args ++ f ∷ []
  closed (op at o a b) = closed a ++ closed b

  pub args_closed : Args → List Name
  args_closed no_args = []
  args_closed (value e args) = closed e ++ args_closed args
  args_closed (proc f args) = args_closed args

abbrev mutual
  pub stmt_closed : Stmt → List Name
  stmt_closed (set at x e) = closed e
  stmt_closed (set_at at x i e) = closed i ++ closed e
  stmt_closed (do_call at f args) = args_closed args ++ f ∷ []
  stmt_closed (if_then at c b) = closed c ++ block_closed b
  stmt_closed (if_else at c b d) = closed c ++ (block_closed b ++ block_closed d)
  stmt_closed (while at c b) = closed c ++ block_closed b
  stmt_closed (return at e) = closed e
  stmt_closed (halt at e) = closed e

  pub block_closed : Block → List Name
  block_closed no_stmts = []
  block_closed (stmt s b) = stmt_closed s ++ block_closed b

abbrev pub module_closed : ModuleFields → List Name
module_closed m = flat_map (λ p. block_closed (block_of p.body)) m.procs
