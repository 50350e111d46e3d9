use Rattle.std.proofs.lemmas.Result.{on_ok_weaker}
use Rattle.proc_compiler.proofs.Emitted.{pair_checked}
use Rattle.proc_compiler.proofs.routine.check.Goals as goal

pub returns-then-callback : goal.returns-then-callback
returns-then-callback c =
    rw c.if-callback.true
    (on_ok_weaker c.check_pair.result
    (pair_checked c.args.from c.argument.ensures c.argument-then-callback.ensures)
    c.check_pair.ensures)
