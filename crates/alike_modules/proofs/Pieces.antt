-- Modules that are alike print the same.
use Rattle.std.proofs.Common.{◌≡◌, refl, ◌∙◌, ap, sym, List, [], ◌∷◌, ◌++◌, map, flat_map, codes}
use Rattle.proc_language.specs.declared.module.Param.{Param}
use Rattle.proc_language.specs.declared.module.Proc.{Proc}
use Rattle.proc_language.specs.declared.module.ModuleFields.{ModuleFields}
use Rattle.proc_language.specs.Tree.{Expr, number, var, element, call, op, Args, no_args, value, proc}
use Rattle.proc_language.specs.Tree.{Stmt, set, set_at, do_call, if_then, if_else, while, return, halt}
use Rattle.proc_language.specs.Tree.{Block, no_stmts, stmt}
use Rattle.proc_language.specs.StmtView.{block_of}
use Rattle.proc_language.specs.Unplaced.{unplaced_name, unplaced_expr, unplaced_args, unplaced_stmt}
use Rattle.proc_language.specs.Unplaced.{unplaced_block, unplaced_import, unplaced_global, unplaced_param}
use Rattle.proc_language.specs.Unplaced.{unplaced_proc, unplaced, IsAlike}
use Rattle.proc_print.specs.Printed.{Piece, word, sign, spelled, named, between_signs, bracketed, signs_of}
use Rattle.proc_print.specs.Printed.{expr_pieces, args_pieces, more_pieces, ended, in_curly, stmt_pieces}
use Rattle.proc_print.specs.Printed.{block_pieces, import_pieces, global_pieces, param_pieces, more_params}
use Rattle.proc_print.specs.Printed.{params_pieces, local_pieces, export_pieces, proc_pieces, base_pieces}
use Rattle.proc_print.specs.Printed.{seal_pieces, header_pieces, module_pieces, printed}
use Rattle.alike_modules.proofs.Lists.{flat_of}
use Rattle.alike_modules.proofs.Counts.{block_alike}

-- ---- expressions

bracketed_alike : (e : Expr) (pieces : List Piece) → bracketed (unplaced_expr e) pieces ≡ bracketed e pieces
bracketed_alike (number at n) pieces = refl
bracketed_alike (var at x) pieces = refl
bracketed_alike (element at x e) pieces = refl
bracketed_alike (call at f args) pieces = refl
bracketed_alike (op at o a b) pieces = refl

mutual
  expr_alike : (e : Expr) → expr_pieces (unplaced_expr e) ≡ expr_pieces e
  expr_alike (number at n) = refl
  expr_alike (var at x) = refl
  expr_alike (element at x e) = λ i. named x ++ between_signs (codes "[") (expr_alike e i) (codes "]")
  expr_alike (call at f args) = λ i. named f ++ between_signs (codes "(") (args_alike args i) (codes ")")
  expr_alike (op at o a b) = λ i.
      bracketed_alike a (expr_alike a i) i ++ (sign (signs_of o) ∷ bracketed_alike b (expr_alike b i) i)

  args_alike : (args : Args) → args_pieces (unplaced_args args) ≡ args_pieces args
  args_alike no_args = refl
  args_alike (value e args) = λ i. expr_alike e i ++ more_alike args i
  args_alike (proc f args) = λ i. (word (codes "proc") ∷ named f) ++ more_alike args i

  more_alike : (args : Args) → more_pieces (unplaced_args args) ≡ more_pieces args
  more_alike no_args = refl
  more_alike (value e args) = λ i. sign (codes ",") ∷ (expr_alike e i ++ more_alike args i)
  more_alike (proc f args) = λ i. sign (codes ",") ∷ ((word (codes "proc") ∷ named f) ++ more_alike args i)

-- ---- statements

mutual
  stmt_alike : (s : Stmt) → stmt_pieces (unplaced_stmt s) ≡ stmt_pieces s
  stmt_alike (set at x e) = λ i. ended (named x ++ (sign (codes "=") ∷ expr_alike e i))
  stmt_alike (set_at at x k e) = λ i.
      ended (named x ++ (between_signs (codes "[") (expr_alike k i) (codes "]")
      ++ (sign (codes "=") ∷ expr_alike e i)))
  stmt_alike (do_call at f args) = λ i.
      ended (named f ++ between_signs (codes "(") (args_alike args i) (codes ")"))
  stmt_alike (if_then at c b) = λ i. word (codes "if") ∷ (expr_alike c i ++ in_curly (pieces_alike b i))
  stmt_alike (if_else at c b d) = λ i.
      word (codes "if") ∷ (expr_alike c i ++ (in_curly (pieces_alike b i)
      ++ (word (codes "else") ∷ in_curly (pieces_alike d i))))
  stmt_alike (while at c b) = λ i. word (codes "while") ∷ (expr_alike c i ++ in_curly (pieces_alike b i))
  stmt_alike (return at e) = λ i. ended (word (codes "return") ∷ expr_alike e i)
  stmt_alike (halt at e) = λ i. ended (word (codes "halt") ∷ expr_alike e i)

  pieces_alike : (b : Block) → block_pieces (unplaced_block b) ≡ block_pieces b
  pieces_alike no_stmts = refl
  pieces_alike (stmt s b) = λ i. stmt_alike s i ++ pieces_alike b i

-- ---- items

more_params_alike : (ps : List Param) → more_params (map unplaced_param ps) ≡ more_params ps
more_params_alike [] = refl
more_params_alike (p ∷ ps) = ap (λ more. sign (codes ",") ∷ (param_pieces p ++ more)) (more_params_alike ps)

params_alike : (ps : List Param) → params_pieces (map unplaced_param ps) ≡ params_pieces ps
params_alike [] = refl
params_alike (p ∷ ps) = ap (λ more. param_pieces p ++ more) (more_params_alike ps)

body_alike : (p : Proc) → block_pieces (block_of (map unplaced_stmt p.body)) ≡ block_pieces (block_of p.body)
body_alike p = ap block_pieces (block_alike p.body) ∙ pieces_alike (block_of p.body)

proc_alike : (p : Proc) → proc_pieces (unplaced_proc p) ≡ proc_pieces p
proc_alike p = λ i.
    export_pieces p.shared
    ++ (word (codes "proc") ∷ (named p.name ++
    (between_signs (codes "(") (params_alike p.params i) (codes ")")
    ++ in_curly (flat_of unplaced_name local_pieces p.locals i ++ body_alike p i))))

procs_alike : (ps : List Proc) → flat_map proc_pieces (map unplaced_proc ps) ≡ flat_map proc_pieces ps
procs_alike [] = refl
procs_alike (p ∷ ps) = λ i. proc_alike p i ++ procs_alike ps i

header_alike : (m : ModuleFields) → header_pieces (unplaced m) ≡ header_pieces m
unfolding header_pieces base_pieces seal_pieces
header_alike m = refl

module_alike : (m : ModuleFields) → module_pieces (unplaced m) ≡ module_pieces m
module_alike m = λ i.
    header_alike m i ++ (flat_of unplaced_import import_pieces m.imports i
    ++ (flat_of unplaced_global global_pieces m.globals i ++ procs_alike m.procs i))

pub same_text : (a b : ModuleFields) → IsAlike a b → printed a ≡ printed b
same_text a b h =
    ap spelled (sym (module_alike a)) ∙ ap printed h ∙ ap spelled (module_alike b)
