-- Statements as their code has them.
use Rattle.std.specs.Prelude.{ℕ, List, [], ◌∷◌, Some, None}
use Rattle.proc_language.specs.declared.tree.StmtKind.{StmtKind}
use Rattle.proc_language.specs.declared.tree.StmtKind.TheVariants.{Set, SetAt, Call, If, While, Return, Halt}
use Rattle.proc_language.specs.Tree.{Stmt, set, set_at, do_call, if_then, if_else, while, return, halt}
use Rattle.proc_language.specs.Tree.{Block, no_stmts, stmt}
use Rattle.proc_language.specs.View.{args_of}

abbrev pub block_of : List Stmt → Block
block_of [] = no_stmts
block_of (s ∷ stmts) = stmt s (block_of stmts)

abbrev pub stmt_at : ℕ → StmtKind → Stmt
stmt_at at (Set x e) = set at x e
stmt_at at (SetAt x i e) = set_at at x i e
stmt_at at (Call c) = do_call at c.name (args_of c.args)
stmt_at at (If c b None) = if_then at c (block_of b)
stmt_at at (If c b (Some d)) = if_else at c (block_of b) (block_of d)
stmt_at at (While c b) = while at c (block_of b)
stmt_at at (Return e) = return at e
stmt_at at (Halt e) = halt at e
