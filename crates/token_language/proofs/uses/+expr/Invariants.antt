use Rattle.std.proofs.Common.{◌≡◌, ◌+◌, ◌*◌, ◌≤◌, drop, [], ◌∷◌}
use Rattle.proc_names.specs.Faults.{first, earlier}
use Rattle.token_language.specs.Tree.{size_of, size_of_args}
use Rattle.token_language.specs.View.{args_of}
use Rattle.token_language.specs.TokenFaults.{args_faults}
use Rattle.token_language.proofs.uses.+expr.Given as goal

abbrev pub decreases-expr_fault : goal.decreases-expr_fault
decreases-expr_fault l = 2 * size_of l.e.now

abbrev pub decreases-args_fault : goal.decreases-args_fault
decreases-args_fault l = 2 * size_of_args (args_of l.args.now) + 1

abbrev pub decreases-arg_fault : goal.decreases-arg_fault
decreases-arg_fault l = 2 * size_of_args (args_of (l.arg.now ∷ []))

abbrev pub invariant-args_fault-loop-arg : goal.invariant-args_fault-loop-arg
invariant-args_fault-loop-arg l = record {
  told :
      earlier l.found (first (args_faults l.m l.p (args_of (drop l.arg-index l.args))))
      ≡ first (args_faults l.m l.p (args_of l.args));
  smaller : size_of_args (args_of (drop l.arg-index l.args)) ≤ size_of_args (args_of l.args);
}
