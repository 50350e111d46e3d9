-- Statements as their code has them.
use Rattle.std.specs.Prelude.{ℕ, List, [], ◌∷◌, Some, None}
use Rattle.token_language.specs.declared.tree.TokenStmtKind.{TokenStmtKind}
use Rattle.token_language.specs.declared.tree.TokenStmtKind.TheVariants.{Set, SetAt, Call, If, While}
use Rattle.token_language.specs.declared.tree.TokenStmtKind.TheVariants.{Return, Halt, Make, Spend}
use Rattle.token_language.specs.Tree.{Stmt, set, set_at, do_call, if_then, if_else, while, return, halt}
use Rattle.token_language.specs.Tree.{make, spend, Block, no_stmts, stmt}
use Rattle.token_language.specs.View.{args_of}

abbrev pub block_of : List Stmt → Block
block_of [] = no_stmts
block_of (s ∷ stmts) = stmt s (block_of stmts)

abbrev pub stmt_at : ℕ → ℕ → TokenStmtKind → Stmt
stmt_at at end (Set x e) = set at end x e
stmt_at at end (SetAt x i e) = set_at at end x i e
stmt_at at end (Call c) = do_call at end c.name (args_of c.args)
stmt_at at end (If c b None) = if_then at end c (block_of b)
stmt_at at end (If c b (Some d)) = if_else at end c (block_of b) (block_of d)
stmt_at at end (While c b) = while at end c (block_of b)
stmt_at at end (Return e) = return at end e
stmt_at at end (Halt e) = halt at end e
stmt_at at end (Make x) = make at end x
stmt_at at end (Spend x) = spend at end x
