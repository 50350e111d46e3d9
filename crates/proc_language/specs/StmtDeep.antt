-- The parts of a statement are smaller than the whole.
use Rattle.std.specs.Prelude.{ℕ, ◌+◌, ◌≤◌, max, List, [], ◌∷◌, Some, None}
use Rattle.std.proofs.Common.{arith}
use denote.Param.Weighed.{most}
use Rattle.proc_language.specs.declared.tree.StmtKind.{StmtKind}
use Rattle.proc_language.specs.declared.tree.StmtKind.TheVariants.{Set, SetAt, Call, If, While, Return, Halt}
use Rattle.proc_language.specs.declared.tree.Stmt.TheDeep.{deep-StmtKind}
use Rattle.proc_language.specs.Tree.{Stmt, stmt_size, block_size}
use Rattle.proc_language.specs.StmtView.{stmt_at, block_of}

stmts_deep : (stmts : List Stmt) → most (λ s. stmt_size s + 1) stmts ≤ block_size (block_of stmts)
stmts_deep [] = omega arith
stmts_deep (s ∷ stmts) = omega (arith, stmts_deep stmts)

pub depth_le-stmt_size : (at : ℕ) (kind : StmtKind) → max (deep-StmtKind kind) 0 ≤ stmt_size (stmt_at at kind)
depth_le-stmt_size at (Set x e) = omega arith
depth_le-stmt_size at (SetAt x i e) = omega arith
depth_le-stmt_size at (Call c) = omega arith
depth_le-stmt_size at (If c b None) = omega (arith, stmts_deep b)
depth_le-stmt_size at (If c b (Some d)) = omega (arith, stmts_deep b, stmts_deep d)
depth_le-stmt_size at (While c b) = omega (arith, stmts_deep b)
depth_le-stmt_size at (Return e) = omega arith
depth_le-stmt_size at (Halt e) = omega arith
