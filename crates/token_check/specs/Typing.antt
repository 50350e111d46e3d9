-- The typing of tokens: the set of full tokens before and after each statement and expression.
use Rattle.std.specs.Prelude.{◌≡◌, ℕ, true, false, List, Option, Some, None, slice_set}
use Rattle.proc_language.specs.declared.tree.Name.{Name}
use Rattle.token_language.specs.declared.module.TokenProc.{TokenProc}
use Rattle.token_language.specs.declared.module.TokenModuleFields.{TokenModuleFields}
use Rattle.token_language.specs.Tree.{Expr, number, var, element, call, op, Args, no_args, value, proc, token}
use Rattle.token_language.specs.Tree.{Stmt, set, set_at, do_call, if_then, if_else, while, return, halt, make}
use Rattle.token_language.specs.Tree.{spend, Block, no_stmts, stmt}
use Rattle.token_language.specs.StmtView.{block_of}
use Rattle.proc_language.specs.Limits.{Each}
use Rattle.token_language.specs.Tokens.{tokens_of}
use Rattle.token_check.specs.Tokens.{Full, is_full, is_clear, token_at}
use Rattle.token_check.specs.Walk.{FullAfter, at_first}

-- this token is empty, and is filled
abbrev pub Fills : Option ℕ → Full → Full → Type 0
Fills None s t = ⊥
Fills (Some i) s t = (is_full s i ≡ false) × (slice_set s i true ≡ t)

-- this token is full, and is emptied
abbrev pub Empties : Option ℕ → Full → Full → Type 0
Empties None s t = ⊥
Empties (Some i) s t = (is_full s i ≡ true) × (slice_set s i false ≡ t)

-- two ways meet with equal sets; where one of them doesn't go on, the other does alone
abbrev pub Joins : FullAfter → FullAfter → FullAfter → Type 0
Joins None b after = b ≡ after
Joins (Some s) None after = Some s ≡ after
Joins (Some s) (Some t) after = (s ≡ t) × (Some s ≡ after)

-- a loop's body that goes on ends with the set from before the test
abbrev pub ComesBack : Full → FullAfter → Type 0
ComesBack before None = Unit {0}
ComesBack before (Some t) = before ≡ t

-- where it goes on, no token is full
abbrev pub IsClear : FullAfter → Type 0
IsClear None = Unit {0}
IsClear (Some s) = is_clear s ≡ true

module _ (tokens : List Name) where
  abbrev mutual
    pub ExprTyped : Expr → Full → Full → Type 0
    ExprTyped (number at n) s t = s ≡ t
    ExprTyped (var at x) s t = s ≡ t
    ExprTyped (element at x e) s t = ExprTyped e s t
    ExprTyped (call at f args) s t = ArgsTyped args s t
    ExprTyped (op at o a b) s t = (u : Full) × ExprTyped a s u × ExprTyped b u t

    pub ArgsTyped : Args → Full → Full → Type 0
    ArgsTyped no_args s t = s ≡ t
    ArgsTyped (value e args) s t = (u : Full) × ExprTyped e s u × ArgsTyped args u t
    ArgsTyped (proc f args) s t = ArgsTyped args s t
    ArgsTyped (token x args) s t = (u : Full) × Empties (token_at tokens x) s u × ArgsTyped args u t

  abbrev mutual
    pub StmtTyped : Stmt → Full → FullAfter → Type 0
    StmtTyped (set at end x e) s after = (t : Full) × ExprTyped e s t × (Some t ≡ after)
    StmtTyped (set_at at end x i e) s after =
        (u : Full) × ExprTyped i s u × (t : Full) × ExprTyped e u t × (Some t ≡ after)
    StmtTyped (do_call at end f args) s after = (t : Full) × ArgsTyped args s t × (Some t ≡ after)
    StmtTyped (if_then at end c a) s after =
        (t : Full) × ExprTyped c s t × (u : FullAfter) × BlockTyped a (Some t) u × Joins u (Some t) after
    StmtTyped (if_else at end c a b) s after =
        (t : Full) × ExprTyped c s t × (u : FullAfter) × BlockTyped a (Some t) u
        × (v : FullAfter) × BlockTyped b (Some t) v × Joins u v after
    StmtTyped (while at end c a) s after =
        (t : Full) × ExprTyped c s t × (u : FullAfter) × BlockTyped a (Some t) u × ComesBack s u ×
        (Some t ≡ after)
    StmtTyped (return at end e) s after = (t : Full) × ExprTyped e s t × (is_clear t ≡ true) × (None ≡ after)
    StmtTyped (halt at end e) s after = (t : Full) × ExprTyped e s t × (is_clear t ≡ true) × (None ≡ after)
    StmtTyped (make at end x) s after = (t : Full) × Fills (token_at tokens x) s t × (Some t ≡ after)
    StmtTyped (spend at end x) s after = (t : Full) × Empties (token_at tokens x) s t × (Some t ≡ after)

    -- a statement stands only where something goes on
    pub BlockTyped : Block → FullAfter → FullAfter → Type 0
    BlockTyped no_stmts before after = before ≡ after
    BlockTyped (stmt x b) None after = ⊥
    BlockTyped (stmt x b) (Some s) after = (t : FullAfter) × StmtTyped x s t × BlockTyped b t after

abbrev pub ProcTyped : TokenProc → Type 0
ProcTyped p =
    (after : FullAfter) × BlockTyped (tokens_of p) (block_of p.body) (Some (at_first p)) after × IsClear after

abbrev pub IsTyped : TokenModuleFields → Type 0
IsTyped m = Each ProcTyped m.procs
