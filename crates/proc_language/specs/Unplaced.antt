-- Trees without their places: every place is 0.
use Rattle.std.specs.Prelude.{◌≡◌, map}
use Rattle.proc_language.specs.declared.tree.Name.{Name}
use Rattle.proc_language.specs.declared.module.Import.{Import}
use Rattle.proc_language.specs.declared.module.Global.{Global}
use Rattle.proc_language.specs.declared.module.Param.{Param}
use Rattle.proc_language.specs.declared.module.Proc.{Proc}
use Rattle.proc_language.specs.declared.module.ModuleFields.{ModuleFields}
use Rattle.proc_language.specs.Tree.{Expr, number, var, element, call, op, Args, no_args, value, proc}
use Rattle.proc_language.specs.Tree.{Stmt, set, set_at, do_call, if_then, if_else, while, return, halt}
use Rattle.proc_language.specs.Tree.{Block, no_stmts, stmt}

abbrev pub unplaced_name : Name → Name
unplaced_name x = record x { at = 0 }

abbrev mutual
  pub unplaced_expr : Expr → Expr
  unplaced_expr (number at n) = number 0 n
  unplaced_expr (var at x) = var 0 (unplaced_name x)
  unplaced_expr (element at x e) = element 0 (unplaced_name x) (unplaced_expr e)
  unplaced_expr (call at f args) = call 0 (unplaced_name f) (unplaced_args args)
  unplaced_expr (op at o a b) = op 0 o (unplaced_expr a) (unplaced_expr b)

  pub unplaced_args : Args → Args
  unplaced_args no_args = no_args
  unplaced_args (value e args) = value (unplaced_expr e) (unplaced_args args)
  unplaced_args (proc f args) = proc (unplaced_name f) (unplaced_args args)

abbrev mutual
  pub unplaced_stmt : Stmt → Stmt
  unplaced_stmt (set at x e) = set 0 (unplaced_name x) (unplaced_expr e)
  unplaced_stmt (set_at at x i e) = set_at 0 (unplaced_name x) (unplaced_expr i) (unplaced_expr e)
  unplaced_stmt (do_call at f args) = do_call 0 (unplaced_name f) (unplaced_args args)
  unplaced_stmt (if_then at c b) = if_then 0 (unplaced_expr c) (unplaced_block b)
  unplaced_stmt (if_else at c b d) = if_else 0 (unplaced_expr c) (unplaced_block b) (unplaced_block d)
  unplaced_stmt (while at c b) = while 0 (unplaced_expr c) (unplaced_block b)
  unplaced_stmt (return at e) = return 0 (unplaced_expr e)
  unplaced_stmt (halt at e) = halt 0 (unplaced_expr e)

  pub unplaced_block : Block → Block
  unplaced_block no_stmts = no_stmts
  unplaced_block (stmt s b) = stmt (unplaced_stmt s) (unplaced_block b)

abbrev pub unplaced_import : Import → Import
unplaced_import i = record i { at = 0; part = unplaced_name i.part; name = unplaced_name i.name }

abbrev pub unplaced_global : Global → Global
unplaced_global g = record g { at = 0; name = unplaced_name g.name }

abbrev pub unplaced_param : Param → Param
unplaced_param p = record p { name = unplaced_name p.name }

abbrev pub unplaced_proc : Proc → Proc
unplaced_proc p = record p {
  at = 0;
  name = unplaced_name p.name;
  params = map unplaced_param p.params;
  locals = map unplaced_name p.locals;
  body = map unplaced_stmt p.body;
}

abbrev pub unplaced : ModuleFields → ModuleFields
unplaced m = record m {
  at = 0;
  name = unplaced_name m.name;
  imports = map unplaced_import m.imports;
  globals = map unplaced_global m.globals;
  procs = map unplaced_proc m.procs;
}

-- two modules are the same but for their places
abbrev pub IsAlike : ModuleFields → ModuleFields → Type 0
IsAlike a b = unplaced a ≡ unplaced b
