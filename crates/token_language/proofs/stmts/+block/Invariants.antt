use Rattle.std.proofs.Common.{◌≡◌, ◌+◌, ◌*◌, ◌≤◌, drop}
use Rattle.token_language.specs.Tree.{stmt_size, block_size}
use Rattle.token_language.specs.StmtView.{block_of as token_block_of}
use Rattle.token_language.specs.Erased.{erased_block}
use Rattle.token_language.specs.Fronts.{stmts_before}
use Rattle.token_language.proofs.stmts.+block.Given as goal

abbrev pub decreases-statement : goal.decreases-statement
decreases-statement l = 3 * stmt_size l.s.now

abbrev pub decreases-guarded : goal.decreases-guarded
decreases-guarded l = 3 * block_size (token_block_of l.body.now) + 1

abbrev pub decreases-branched : goal.decreases-branched
decreases-branched l =
    3 * (block_size (token_block_of l.body.now) + block_size (token_block_of l.other.now)) + 2

abbrev pub decreases-block : goal.decreases-block
decreases-block l = 3 * block_size (token_block_of l.stmts.now)

abbrev pub invariant-block-loop-s : goal.invariant-block-loop-s
invariant-block-loop-s l = record {
  told :
      stmts_before l.kept.items (erased_block (token_block_of (drop l.s-index l.stmts)))
      ≡ erased_block (token_block_of l.stmts);
  smaller : block_size (token_block_of (drop l.s-index l.stmts)) ≤ block_size (token_block_of l.stmts);
}
