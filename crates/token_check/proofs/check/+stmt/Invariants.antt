use Rattle.std.proofs.Common.{◌≡◌, ◌+◌, ◌*◌, ◌≤◌, drop}
use Rattle.token_language.specs.Tree.{stmt_size, block_size}
use Rattle.token_language.specs.StmtView.{block_of}
use Rattle.token_language.specs.Tokens.{tokens_of}
use Rattle.token_check.specs.Walk.{block_walk}
use Rattle.token_check.proofs.check.+stmt.Given as goal

abbrev pub decreases-statement : goal.decreases-statement
decreases-statement l = 2 * stmt_size l.s.now

abbrev pub decreases-guarded : goal.decreases-guarded
decreases-guarded l = 2 * block_size (block_of l.body.now) + 1

abbrev pub decreases-block : goal.decreases-block
decreases-block l = 2 * block_size (block_of l.stmts.now)

abbrev pub invariant-block-loop-s : goal.invariant-block-loop-s
invariant-block-loop-s l = record {
  told : block_walk (tokens_of l.p) (block_of (drop l.s-index l.stmts)) l.after
      ≡ block_walk (tokens_of l.p) (block_of l.stmts) l.fn.before;
  smaller : block_size (block_of (drop l.s-index l.stmts)) ≤ block_size (block_of l.stmts);
}
