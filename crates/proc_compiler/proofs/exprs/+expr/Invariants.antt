use Rattle.std.proofs.Common.{◌+◌, ◌*◌}
use Rattle.proc_program.specs.Program.{size_of, size_among}
use Rattle.proc_program.specs.View.{args_of}
use Rattle.proc_compiler.proofs.exprs.+expr.Given as goal

abbrev pub decreases-expr : goal.decreases-expr
decreases-expr l = 2 * size_of l.e.now

abbrev pub decreases-operation : goal.decreases-operation
decreases-operation l = 2 * (size_of l.left.now + size_of l.right.now) + 1

abbrev pub decreases-element : goal.decreases-element
decreases-element l = 2 * size_of l.index.now + 1

abbrev pub decreases-call : goal.decreases-call
decreases-call l = 2 * size_among (args_of l.args.now) + 1

abbrev pub decreases-values : goal.decreases-values
decreases-values l = 2 * size_among (args_of l.args.now)
