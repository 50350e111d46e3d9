use Rattle.proc_program.specs.Program.{size_of, size_among}
use Rattle.proc_program.specs.View.{args_of}
use Rattle.proc_compiler.proofs.counts.+expr_count.Given as goal

abbrev pub decreases-expr_count : goal.decreases-expr_count
decreases-expr_count l = size_of l.e.now

abbrev pub decreases-args_count : goal.decreases-args_count
decreases-args_count l = size_among (args_of l.args.now)
