use Rattle.std.proofs.Common.{arith}
use Rattle.std.proofs.lemmas.Result.{on_ok_weaker}
use Rattle.proc_compiler.proofs.Emitted.{then, counted}
use Rattle.proc_compiler.proofs.stmts.sets_at.Goals as goal

pub returns : goal.returns
returns c =
    on_ok_weaker c.at_element.result
    (λ h. counted (omega arith) (omega arith)
    (then c.in_ok-expr.ensures (then c.in_ok-at_slot.ensures (then c.in_ok-expr-2.ensures
    (then c.in_ok-put.ensures (then c.in_ok-at_slot-2.ensures h))))))
    c.at_element.ensures
