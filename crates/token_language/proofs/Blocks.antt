-- Blocks and their statements.
use Rattle.std.proofs.Common.{◌≡◌, refl, ap, List, [], ◌∷◌}
use Rattle.proc_language.specs.Tree as plain
use Rattle.proc_language.specs.StmtView.{block_of}
use Rattle.token_language.specs.Erased.{stmts_in}

-- a block is that of its statements
pub block_of-stmts_in : (b : plain.Block) → block_of (stmts_in b) ≡ b
block_of-stmts_in plain.no_stmts = refl
block_of-stmts_in (plain.stmt s b) = ap (plain.stmt s) (block_of-stmts_in b)

-- and they are those of their block
pub stmts_in-block_of : (stmts : List plain.Stmt) → stmts_in (block_of stmts) ≡ stmts
stmts_in-block_of [] = refl
stmts_in-block_of (s ∷ stmts) = ap (λ ss. s ∷ ss) (stmts_in-block_of stmts)
