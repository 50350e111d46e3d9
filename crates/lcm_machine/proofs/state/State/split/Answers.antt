use Rattle.std.proofs.Common.{rules}
use Rattle.lcm_machine.specs.Table.{ask, need}
use Rattle.lcm_machine.specs.Row.{plan_in}
use Rattle.lcm_machine.proofs.RowsMet.{got}
use Rattle.lcm_machine.proofs.TestedRows.{lacked, split_cut}
use Rattle.lcm_machine.proofs.state.State.split.Goals as goal

pub returns : goal.returns
returns g c = λ next.
    split_cut g.W.MachineWord.look c.args.self.now c.args.r1 c.args.r2 c.args.r3 next c.args.n _ _ _
    c.in_ok-into.ensures c.in_ok-into-2.ensures (got _ _ _ c.in_ok-c.ensures.is) (got _ _ _ c.in_ok-z.ensures)
    _ c.parts.ensures (search rules)

pub returns-in_err-c : goal.returns-in_err-c
unfolding plan_in ask need
returns-in_err-c g c = λ next.
    let no = lacked _ _ _ c.in_err-c.ensures.is in
    rw (c.in_ok-into.ensures, c.in_ok-into-2.ensures, no.0) (search rules)

pub returns-in_err-z : goal.returns-in_err-z
unfolding plan_in ask need
returns-in_err-z g c = λ next.
    let is = got _ _ _ c.in_ok-c.ensures.is in
    let no = lacked _ _ _ c.in_err-z.ensures in
    rw (c.in_ok-into.ensures, c.in_ok-into-2.ensures, is, no.0) (search rules)
