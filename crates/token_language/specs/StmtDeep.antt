-- The parts of a statement are smaller than the whole.
use Rattle.std.specs.Prelude.{ℕ, ◌+◌, ◌≤◌, max, List, [], ◌∷◌, Some, None}
use Rattle.std.proofs.Common.{arith}
use denote.Param.Weighed.{most}
use Rattle.token_language.specs.declared.tree.TokenStmtKind.{TokenStmtKind}
use Rattle.token_language.specs.declared.tree.TokenStmtKind.TheVariants.{Set, SetAt, Call, If, While}
use Rattle.token_language.specs.declared.tree.TokenStmtKind.TheVariants.{Return, Halt, Make, Spend}
use Rattle.token_language.specs.declared.tree.TokenStmt.TheDeep.{deep-TokenStmtKind}
use Rattle.token_language.specs.Tree.{Stmt, stmt_size, block_size}
use Rattle.token_language.specs.StmtView.{stmt_at, block_of}

stmts_deep : (stmts : List Stmt) → most (λ s. stmt_size s + 1) stmts ≤ block_size (block_of stmts)
stmts_deep [] = omega arith
stmts_deep (s ∷ stmts) = omega (arith, stmts_deep stmts)

pub depth_le-stmt_size : (at end : ℕ) (kind : TokenStmtKind)
    → max (deep-TokenStmtKind kind) 0 ≤ stmt_size (stmt_at at end kind)
depth_le-stmt_size at end (Set x e) = omega arith
depth_le-stmt_size at end (SetAt x i e) = omega arith
depth_le-stmt_size at end (Call c) = omega arith
depth_le-stmt_size at end (If c b None) = omega (arith, stmts_deep b)
depth_le-stmt_size at end (If c b (Some d)) = omega (arith, stmts_deep b, stmts_deep d)
depth_le-stmt_size at end (While c b) = omega (arith, stmts_deep b)
depth_le-stmt_size at end (Return e) = omega arith
depth_le-stmt_size at end (Halt e) = omega arith
depth_le-stmt_size at end (Make x) = omega arith
depth_le-stmt_size at end (Spend x) = omega arith
