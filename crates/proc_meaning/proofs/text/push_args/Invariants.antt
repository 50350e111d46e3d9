use Rattle.std.proofs.Common.{◌≡◌, ◌++◌, take}
use Rattle.proc_meaning.specs.Text.{out_args_text}
use Rattle.proc_meaning.proofs.text.push_args.Given as goal

abbrev pub invariant-loop-arg : goal.invariant-loop-arg
invariant-loop-arg l = l.text.items ≡ l.fn.text.items ++ out_args_text (take l.arg-index l.args)
