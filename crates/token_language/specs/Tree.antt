-- The tree of a module with tokens, as contracts see it: with its places.
use Rattle.std.specs.Prelude.{ℕ, ◌+◌}
use Rattle.proc_language.specs.declared.tree.Name.{Name}
use Rattle.proc_language.specs.declared.tree.Op.{Op}

-- expressions, and the arguments of a call; a number before all else is the place of the first token
mutual
  pub data Expr : Type 0 where
    number : ℕ → ℕ → Expr
    var : ℕ → Name → Expr
    element : ℕ → Name → Expr → Expr
    call : ℕ → Name → Args → Expr
    op : ℕ → Op → Expr → Expr → Expr

  pub data Args : Type 0 where
    no_args : Args
    value : Expr → Args → Args
    proc : Name → Args → Args
    token : Name → Args → Args

-- statements, and lists of them; two numbers are the places of the first and the last token
mutual
  pub data Stmt : Type 0 where
    set : ℕ → ℕ → Name → Expr → Stmt
    set_at : ℕ → ℕ → Name → Expr → Expr → Stmt
    do_call : ℕ → ℕ → Name → Args → Stmt
    if_then : ℕ → ℕ → Expr → Block → Stmt
    if_else : ℕ → ℕ → Expr → Block → Block → Stmt
    while : ℕ → ℕ → Expr → Block → Stmt
    return : ℕ → ℕ → Expr → Stmt
    halt : ℕ → ℕ → Expr → Stmt
    make : ℕ → ℕ → Name → Stmt
    spend : ℕ → ℕ → Name → Stmt

  pub data Block : Type 0 where
    no_stmts : Block
    stmt : Stmt → Block → Block

-- ---- how many nodes there are

abbrev mutual
  pub size_of : Expr → ℕ
  size_of (number at n) = 1
  size_of (var at x) = 1
  size_of (element at x e) = size_of e + 1
  size_of (call at f args) = size_of_args args + 1
  size_of (op at o a b) = size_of a + size_of b + 1

  pub size_of_args : Args → ℕ
  size_of_args no_args = 0
  size_of_args (value e args) = size_of e + size_of_args args + 1
  size_of_args (proc f args) = size_of_args args + 1
  size_of_args (token x args) = size_of_args args + 1

abbrev mutual
  pub stmt_size : Stmt → ℕ
  stmt_size (set at end x e) = 1
  stmt_size (set_at at end x i e) = 1
  stmt_size (do_call at end f args) = 1
  stmt_size (if_then at end c b) = block_size b + 1
  stmt_size (if_else at end c b d) = block_size b + block_size d + 1
  stmt_size (while at end c b) = block_size b + 1
  stmt_size (return at end e) = 1
  stmt_size (halt at end e) = 1
  stmt_size (make at end x) = 1
  stmt_size (spend at end x) = 1

  pub block_size : Block → ℕ
  block_size no_stmts = 0
  block_size (stmt s b) = stmt_size s + block_size b + 1
