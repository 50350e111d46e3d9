use Rattle.std.proofs.Common.{◌≡◌, drop}
use Rattle.proc_names.specs.Faults.{first, earlier}
use Rattle.token_language.specs.View.{args_of}
use Rattle.token_language.specs.TokenFaults.{wrong, arg_tokens}
use Rattle.token_language.proofs.calls.wrong_args.Given as goal

abbrev pub invariant-loop-arg : goal.invariant-loop-arg
invariant-loop-arg l =
    earlier l.found (first (wrong (arg_tokens (args_of (drop l.arg-index l.args)))))
    ≡ first (wrong (arg_tokens (args_of l.args)))
