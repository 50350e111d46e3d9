-- A module without its tokens.
use Rattle.std.specs.Prelude.{List, [], ◌∷◌, map}
use Rattle.proc_language.specs.declared.tree.Name.{Name}
use Rattle.proc_language.specs.declared.module.Param.{Param}
use Rattle.proc_language.specs.declared.module.Proc.{Proc}
use Rattle.proc_language.specs.declared.module.ModuleFields.{ModuleFields}
use Rattle.proc_language.specs.Tree as plain
use Rattle.token_language.specs.Tree.{Expr, number, var, element, call, op, Args, no_args, value, proc, token}
use Rattle.token_language.specs.Tree.{Stmt, set, set_at, do_call, if_then, if_else, while, return, halt}
use Rattle.token_language.specs.Tree.{make, spend, Block, no_stmts, stmt}
use Rattle.token_language.specs.StmtView.{block_of}
use Rattle.token_language.specs.declared.module.TokenParam.{TokenParam}
use Rattle.token_language.specs.declared.module.TokenParam.TheVariants as param
use Rattle.token_language.specs.declared.module.TokenLocal.{TokenLocal}
use Rattle.token_language.specs.declared.module.TokenLocal.TheVariants as local
use Rattle.token_language.specs.declared.module.TokenProc.{TokenProc}
use Rattle.token_language.specs.declared.module.TokenModuleFields.{TokenModuleFields}

abbrev mutual
  pub erased_expr : Expr → plain.Expr
  erased_expr (number at n) = plain.number at n
  erased_expr (var at x) = plain.var at x
  erased_expr (element at x e) = plain.element at x (erased_expr e)
  erased_expr (call at f args) = plain.call at f (erased_args args)
  erased_expr (op at o a b) = plain.op at o (erased_expr a) (erased_expr b)

  pub erased_args : Args → plain.Args
  erased_args no_args = plain.no_args
  erased_args (value e args) = plain.value (erased_expr e) (erased_args args)
  erased_args (proc f args) = plain.proc f (erased_args args)
  erased_args (token x args) = erased_args args

abbrev mutual
  -- a statement, and after it the rest of its block
  pub erased_before : Stmt → plain.Block → plain.Block
  erased_before (set at end x e) b = plain.stmt (plain.set at x (erased_expr e)) b
  erased_before (set_at at end x i e) b = plain.stmt (plain.set_at at x (erased_expr i) (erased_expr e)) b
  erased_before (do_call at end f args) b = plain.stmt (plain.do_call at f (erased_args args)) b
  erased_before (if_then at end c a) b = plain.stmt (plain.if_then at (erased_expr c) (erased_block a)) b
  erased_before (if_else at end c a d) b =
      plain.stmt (plain.if_else at (erased_expr c) (erased_block a) (erased_block d)) b
  erased_before (while at end c a) b = plain.stmt (plain.while at (erased_expr c) (erased_block a)) b
  erased_before (return at end e) b = plain.stmt (plain.return at (erased_expr e)) b
  erased_before (halt at end e) b = plain.stmt (plain.halt at (erased_expr e)) b
  erased_before (make at end x) b = b
  erased_before (spend at end x) b = b

  pub erased_block : Block → plain.Block
  erased_block no_stmts = plain.no_stmts
  erased_block (stmt s b) = erased_before s (erased_block b)

-- the statements of a block
abbrev pub stmts_in : plain.Block → List plain.Stmt
stmts_in plain.no_stmts = []
stmts_in (plain.stmt s b) = s ∷ stmts_in b

abbrev pub erased_params : List TokenParam → List Param
erased_params [] = []
erased_params (param.Plain q ∷ params) = q ∷ erased_params params
erased_params (param.Token x ∷ params) = erased_params params

abbrev pub erased_locals : List TokenLocal → List Name
erased_locals [] = []
erased_locals (local.Plain x ∷ locals) = x ∷ erased_locals locals
erased_locals (local.Token x ∷ locals) = erased_locals locals

abbrev pub erased_proc : TokenProc → Proc
erased_proc p = record {
  at = p.at;
  shared = p.shared;
  name = p.name;
  params = erased_params p.params;
  locals = erased_locals p.locals;
  body = stmts_in (erased_block (block_of p.body));
}

abbrev pub erased : TokenModuleFields → ModuleFields
erased m = record {
  at = m.at;
  name = m.name;
  code = m.code;
  data_base = m.data_base;
  closure = m.closure;
  returns = m.returns;
  return_count = m.return_count;
  stack = m.stack;
  movable = m.movable;
  imports = m.imports;
  globals = m.globals;
  procs = map erased_proc m.procs;
}
