use Rattle.std.proofs.Common.{◌≡◌, ◌≤◌, ◌+◌, ◌*◌, ◌++◌, drop}
use Rattle.proc_language.specs.Tree.{stmt_size, block_size}
use Rattle.proc_language.specs.StmtView.{block_of}
use Rattle.proc_names.specs.Calls.{block_calls}
use Rattle.proc_program.specs.Lower.{steps_of}
use Rattle.proc_program.proofs.lower.+step_of.Given as goal

abbrev pub decreases-step_of : goal.decreases-step_of
decreases-step_of l = 2 * stmt_size l.s.now

abbrev pub decreases-steps_of : goal.decreases-steps_of
decreases-steps_of l = 2 * block_size (block_of l.stmts.now)

abbrev pub decreases-branch_of : goal.decreases-branch_of
decreases-branch_of l = 2 * (block_size (block_of l.body.now) + block_size (block_of l.other.now)) + 1

abbrev pub decreases-repeat_of : goal.decreases-repeat_of
decreases-repeat_of l = 2 * block_size (block_of l.body.now) + 1

abbrev pub invariant-steps_of-loop-s : goal.invariant-steps_of-loop-s
invariant-steps_of-loop-s l = record {
  told : l.lowered.items ++ steps_of l.m l.p l.next (block_of (drop l.s-index l.stmts))
      ≡ steps_of l.m l.p l.fn.next (block_of l.stmts);
  counted : l.next + block_calls (block_of (drop l.s-index l.stmts))
      ≡ l.fn.next + block_calls (block_of l.stmts);
  smaller : block_size (block_of (drop l.s-index l.stmts)) ≤ block_size (block_of l.stmts);
}
