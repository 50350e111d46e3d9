-- A plain module as one with tokens, of which it has none.
use Rattle.std.specs.Prelude.{map}
use Rattle.proc_language.specs.declared.module.Proc.{Proc}
use Rattle.proc_language.specs.declared.module.ModuleFields.{ModuleFields}
use Rattle.proc_language.specs.Tree as plain
use Rattle.token_language.specs.Tree.{Expr, number, var, element, call, op, Args, no_args, value, proc}
use Rattle.token_language.specs.Tree.{Stmt, set, set_at, do_call, if_then, if_else, while, return, halt}
use Rattle.token_language.specs.Tree.{Block, no_stmts, stmt}
use Rattle.token_language.specs.declared.module.TokenParam.TheVariants as param
use Rattle.token_language.specs.declared.module.TokenLocal.TheVariants as local
use Rattle.token_language.specs.declared.module.TokenProc.{TokenProc}
use Rattle.token_language.specs.declared.module.TokenModuleFields.{TokenModuleFields}

abbrev mutual
  pub tokened_expr : plain.Expr → Expr
  tokened_expr (plain.number at n) = number at n
  tokened_expr (plain.var at x) = var at x
  tokened_expr (plain.element at x e) = element at x (tokened_expr e)
  tokened_expr (plain.call at f xs) = call at f (tokened_args xs)
  tokened_expr (plain.op at o a b) = op at o (tokened_expr a) (tokened_expr b)

  pub tokened_args : plain.Args → Args
  tokened_args plain.no_args = no_args
  tokened_args (plain.value e xs) = value (tokened_expr e) (tokened_args xs)
  tokened_args (plain.proc f xs) = proc f (tokened_args xs)

-- the places of last tokens aren't known: they are 0
abbrev mutual
  pub tokened_stmt : plain.Stmt → Stmt
  tokened_stmt (plain.set at x e) = set at 0 x (tokened_expr e)
  tokened_stmt (plain.set_at at x i e) = set_at at 0 x (tokened_expr i) (tokened_expr e)
  tokened_stmt (plain.do_call at f xs) = do_call at 0 f (tokened_args xs)
  tokened_stmt (plain.if_then at c a) = if_then at 0 (tokened_expr c) (tokened_block a)
  tokened_stmt (plain.if_else at c a b) =
      if_else at 0 (tokened_expr c) (tokened_block a) (tokened_block b)
  tokened_stmt (plain.while at c a) = while at 0 (tokened_expr c) (tokened_block a)
  tokened_stmt (plain.return at e) = return at 0 (tokened_expr e)
  tokened_stmt (plain.halt at e) = halt at 0 (tokened_expr e)

  pub tokened_block : plain.Block → Block
  tokened_block plain.no_stmts = no_stmts
  tokened_block (plain.stmt x b) = stmt (tokened_stmt x) (tokened_block b)

abbrev pub tokened_proc : Proc → TokenProc
tokened_proc p = record {
  at = p.at;
  end = 0;
  shared = p.shared;
  name = p.name;
  params = map param.Plain p.params;
  locals = map local.Plain p.locals;
  body = map tokened_stmt p.body;
}

abbrev pub tokened : ModuleFields → TokenModuleFields
tokened m = record {
  at = m.at;
  name = m.name;
  code = m.code;
  data_base = m.data_base;
  closure = m.closure;
  returns = m.returns;
  return_count = m.return_count;
  stack = m.stack;
  movable = m.movable;
  imports = m.imports;
  globals = m.globals;
  procs = map tokened_proc m.procs;
}
