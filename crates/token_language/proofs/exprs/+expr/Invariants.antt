use Rattle.std.proofs.Common.{◌≡◌, ◌+◌, ◌*◌, ◌≤◌, drop, [], ◌∷◌}
use Rattle.token_language.specs.Tree.{size_of, size_of_args}
use Rattle.token_language.specs.View.{args_of as token_args_of}
use Rattle.token_language.specs.Erased.{erased_args}
use Rattle.token_language.specs.Fronts.{args_before}
use Rattle.token_language.proofs.exprs.+expr.Given as goal

abbrev pub decreases-expr : goal.decreases-expr
decreases-expr l = 3 * size_of l.e.now

abbrev pub decreases-boxed : goal.decreases-boxed
decreases-boxed l = 3 * size_of l.e.now + 1

abbrev pub decreases-call : goal.decreases-call
decreases-call l = 3 * size_of_args (token_args_of l.c.now.args) + 2

abbrev pub decreases-args : goal.decreases-args
decreases-args l = 3 * size_of_args (token_args_of l.list.now) + 1

abbrev pub decreases-argument : goal.decreases-argument
decreases-argument l = 3 * size_of_args (token_args_of (l.arg.now ∷ []))

abbrev pub invariant-args-loop-arg : goal.invariant-args-loop-arg
invariant-args-loop-arg l = record {
  told :
      args_before l.kept.items (erased_args (token_args_of (drop l.arg-index l.list)))
      ≡ erased_args (token_args_of l.list);
  smaller : size_of_args (token_args_of (drop l.arg-index l.list)) ≤ size_of_args (token_args_of l.list);
}
