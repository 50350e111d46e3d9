-- Trees as ghost values: each is told from every other. A tree is kept as a plain one that holds all of it.
use Rattle.std.specs.Prelude.{◌≡◌, refl, ℕ}
use Rattle.std.specs.Coded.{Coded}
use Rattle.std.proofs.Common.{sym, ◌∙◌, ap}
use Rattle.proc_language.specs.declared.tree.Op.TheVariants.{Plus}
use Rattle.proc_language.specs.Tree as plain
use Rattle.proc_language.specs.Codes.{coded_expr as coded_plain_expr, coded_stmt as coded_plain_stmt}
use Rattle.token_language.specs.Tree.{Expr, number, var, element, call, op, Args, no_args, value, proc, token}
use Rattle.token_language.specs.Tree.{Stmt, set, set_at, do_call, if_then, if_else, while, return, halt}
use Rattle.token_language.specs.Tree.{make, spend, Block, no_stmts, stmt}

-- ---- expressions: `proc` and a name has a value after it, and a token has its name twice

abbrev mutual
  kept : Expr → plain.Expr
  kept (number at n) = plain.number at n
  kept (var at x) = plain.var at x
  kept (element at x e) = plain.element at x (kept e)
  kept (call at f args) = plain.call at f (kept_args args)
  kept (op at o a b) = plain.op at o (kept a) (kept b)

  kept_args : Args → plain.Args
  kept_args no_args = plain.no_args
  kept_args (value e args) = plain.value (kept e) (kept_args args)
  kept_args (proc f args) = plain.proc f (plain.value (plain.number 0 0) (kept_args args))
  kept_args (token x args) = plain.proc x (plain.proc x (kept_args args))

abbrev mutual
  told : plain.Expr → Expr
  told (plain.number at n) = number at n
  told (plain.var at x) = var at x
  told (plain.element at x e) = element at x (told e)
  told (plain.call at f args) = call at f (told_args args)
  told (plain.op at o a b) = op at o (told a) (told b)

  told_args : plain.Args → Args
  told_args plain.no_args = no_args
  told_args (plain.value e args) = value (told e) (told_args args)
  told_args (plain.proc f plain.no_args) = no_args
  told_args (plain.proc f (plain.value e args)) = proc f (told_args args)
  told_args (plain.proc f (plain.proc x args)) = token f (told_args args)

mutual
  back : (e : Expr) → told (kept e) ≡ e
  back (number at n) = refl
  back (var at x) = refl
  back (element at x e) = ap (element at x) (back e)
  back (call at f args) = ap (call at f) (args_back args)
  back (op at o a b) = λ i. op at o (back a i) (back b i)

  args_back : (args : Args) → told_args (kept_args args) ≡ args
  args_back no_args = refl
  args_back (value e args) = λ i. value (back e i) (args_back args i)
  args_back (proc f args) = ap (proc f) (args_back args)
  args_back (token x args) = ap (token x) (args_back args)

pub expr_inj : (x y : Expr) → coded_plain_expr.code (kept x) ≡ coded_plain_expr.code (kept y) → x ≡ y
expr_inj x y same = sym (back x) ∙ ap told (coded_plain_expr.inj (kept x) (kept y) same) ∙ back y

abbrev pub coded_expr : Coded Expr
coded_expr = record { code = λ e. coded_plain_expr.code (kept e); inj = expr_inj }

-- ---- statements: the last expression has the place of the last token

abbrev with_end : ℕ → Expr → plain.Expr
with_end end e = plain.op end Plus (plain.number 0 0) (kept e)

abbrev mutual
  kept_stmt : Stmt → plain.Stmt
  kept_stmt (set at end x e) = plain.set at x (with_end end e)
  kept_stmt (set_at at end x i e) = plain.set_at at x (kept i) (with_end end e)
  kept_stmt (do_call at end f args) = plain.do_call at f (plain.value (plain.number end 0) (kept_args args))
  kept_stmt (if_then at end c b) = plain.if_then at (with_end end c) (kept_block b)
  kept_stmt (if_else at end c b d) = plain.if_else at (with_end end c) (kept_block b) (kept_block d)
  kept_stmt (while at end c b) = plain.while at (with_end end c) (kept_block b)
  kept_stmt (return at end e) = plain.return at (with_end end e)
  kept_stmt (halt at end e) = plain.halt at (with_end end e)
  kept_stmt (make at end x) = plain.set at x (plain.number end 0)
  kept_stmt (spend at end x) = plain.set at x (plain.var end x)

  kept_block : Block → plain.Block
  kept_block no_stmts = plain.no_stmts
  kept_block (stmt s b) = plain.stmt (kept_stmt s) (kept_block b)

abbrev mutual
  told_stmt : plain.Stmt → Stmt
  told_stmt (plain.set at x (plain.op end o n e)) = set at end x (told e)
  told_stmt (plain.set at x (plain.number end n)) = make at end x
  told_stmt (plain.set at x (plain.var end y)) = spend at end x
  told_stmt (plain.set_at at x i (plain.op end o n e)) = set_at at end x (told i) (told e)
  told_stmt (plain.do_call at f (plain.value (plain.number end n) args)) = do_call at end f (told_args args)
  told_stmt (plain.if_then at (plain.op end o n c) b) = if_then at end (told c) (told_block b)
  told_stmt (plain.if_else at (plain.op end o n c) b d) =
      if_else at end (told c) (told_block b) (told_block d)
  told_stmt (plain.while at (plain.op end o n c) b) = while at end (told c) (told_block b)
  told_stmt (plain.return at (plain.op end o n e)) = return at end (told e)
  told_stmt (plain.halt at (plain.op end o n e)) = halt at end (told e)
  told_stmt _ = halt 0 0 (number 0 0)

  told_block : plain.Block → Block
  told_block plain.no_stmts = no_stmts
  told_block (plain.stmt s b) = stmt (told_stmt s) (told_block b)

mutual
  stmt_back : (s : Stmt) → told_stmt (kept_stmt s) ≡ s
  stmt_back (set at end x e) = ap (set at end x) (back e)
  stmt_back (set_at at end x e f) = λ i. set_at at end x (back e i) (back f i)
  stmt_back (do_call at end f args) = ap (do_call at end f) (args_back args)
  stmt_back (if_then at end c b) = λ i. if_then at end (back c i) (block_back b i)
  stmt_back (if_else at end c b d) = λ i. if_else at end (back c i) (block_back b i) (block_back d i)
  stmt_back (while at end c b) = λ i. while at end (back c i) (block_back b i)
  stmt_back (return at end e) = ap (return at end) (back e)
  stmt_back (halt at end e) = ap (halt at end) (back e)
  stmt_back (make at end x) = refl
  stmt_back (spend at end x) = refl

  block_back : (b : Block) → told_block (kept_block b) ≡ b
  block_back no_stmts = refl
  block_back (stmt s b) = λ i. stmt (stmt_back s i) (block_back b i)

pub stmt_inj : (x y : Stmt)
    → coded_plain_stmt.code (kept_stmt x) ≡ coded_plain_stmt.code (kept_stmt y) → x ≡ y
stmt_inj x y same =
    sym (stmt_back x) ∙ ap told_stmt (coded_plain_stmt.inj (kept_stmt x) (kept_stmt y) same) ∙ stmt_back y

abbrev pub coded_stmt : Coded Stmt
coded_stmt = record { code = λ s. coded_plain_stmt.code (kept_stmt s); inj = stmt_inj }
