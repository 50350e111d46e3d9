use Rattle.proc_language.specs.Tree.{size_of, size_of_args}
use Rattle.proc_language.specs.View.{args_of}
use Rattle.proc_names.proofs.uses.+expr.Given as goal

abbrev pub decreases-expr_fault : goal.decreases-expr_fault
decreases-expr_fault l = size_of l.e.now

abbrev pub decreases-args_fault : goal.decreases-args_fault
decreases-args_fault l = size_of_args (args_of l.args.now)
