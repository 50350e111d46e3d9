use Rattle.token_language.specs.Tree.{size_of, size_of_args}
use Rattle.token_language.specs.View.{args_of}
use Rattle.token_check.proofs.check.+expr.Given as goal

abbrev pub decreases-expr : goal.decreases-expr
decreases-expr l = size_of l.e.now

abbrev pub decreases-args : goal.decreases-args
decreases-args l = size_of_args (args_of l.list.now)
