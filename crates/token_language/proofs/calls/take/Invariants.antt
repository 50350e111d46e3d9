use Rattle.std.proofs.Common.{◌≡◌, ◌+◌, drop}
use Rattle.proc_language.specs.Limits.{arg_registers}
use Rattle.token_language.specs.View.{args_of}
use Rattle.token_language.specs.Erased.{erased_args}
use Rattle.token_language.proofs.calls.take.Given as goal

abbrev pub invariant-loop-arg : goal.invariant-loop-arg
invariant-loop-arg l =
    arg_registers (erased_args (args_of (drop l.arg-index l.args))) + l.n
    ≡ arg_registers (erased_args (args_of l.args)) + l.left
