use Rattle.std.proofs.Common.{◌≡◌, ◌≤◌, drop}
use Rattle.token_language.specs.Tree.{stmt_size, block_size}
use Rattle.token_language.specs.StmtView.{block_of}
use Rattle.proc_names.specs.Faults.{first, earlier}
use Rattle.token_language.specs.TokenFaults.{block_faults}
use Rattle.token_language.proofs.uses.+stmt.Given as goal

abbrev pub decreases-stmt_fault : goal.decreases-stmt_fault
decreases-stmt_fault l = stmt_size l.s.now

abbrev pub decreases-block_fault : goal.decreases-block_fault
decreases-block_fault l = block_size (block_of l.stmts.now)

abbrev pub invariant-block_fault-loop-s : goal.invariant-block_fault-loop-s
invariant-block_fault-loop-s l = record {
  told :
      earlier l.found (first (block_faults l.m l.p (block_of (drop l.s-index l.stmts))))
      ≡ first (block_faults l.m l.p (block_of l.stmts));
  smaller : block_size (block_of (drop l.s-index l.stmts)) ≤ block_size (block_of l.stmts);
}
