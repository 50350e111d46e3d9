use Rattle.std.proofs.Common.{◌≤◌, ◌+◌, ◌*◌, drop}
use Rattle.proc_program.specs.Program.{step_size, block_size}
use Rattle.proc_program.specs.StepView.{block_of}
use Rattle.proc_templates.specs.Templates.{block_words}
use Rattle.proc_templates.specs.Bounds.{BlockBound}
use Rattle.proc_compiler.proofs.Loops.{Left}
use Rattle.proc_compiler.proofs.stmts.+statement.Given as goal

abbrev pub decreases-statement : goal.decreases-statement
decreases-statement l = 2 * step_size l.s.now

abbrev pub decreases-branch : goal.decreases-branch
decreases-branch l = 2 * (block_size (block_of l.body.now) + block_size (block_of l.other.now)) + 1

abbrev pub decreases-repeat : goal.decreases-repeat
decreases-repeat l = 2 * block_size (block_of l.body.now) + 1

abbrev pub decreases-block : goal.decreases-block
decreases-block l = 2 * block_size (block_of l.steps.now)

-- what is written, and what is left to write
abbrev pub invariant-block-loop-s : goal.invariant-block-loop-s
invariant-block-loop-s l = record {
  left : Left l.f (drop l.s-index l.steps) l.steps l.fn.draft l.draft;
  fits : BlockBound l.f (block_of (drop l.s-index l.steps));
  fewer : block_words (block_of (drop l.s-index l.steps)) ≤ block_words (block_of l.steps);
  smaller : block_size (block_of (drop l.s-index l.steps)) ≤ block_size (block_of l.steps);
}
