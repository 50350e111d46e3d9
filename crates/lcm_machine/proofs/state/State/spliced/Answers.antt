use Rattle.std.proofs.Common.{rules}
use Rattle.lcm_machine.specs.Table.{ask, need}
use Rattle.lcm_machine.specs.Row.{plan_in}
use Rattle.lcm_machine.proofs.RowsMet.{got}
use Rattle.lcm_machine.proofs.TestedRows.{lacked, splice_joined}
use Rattle.lcm_machine.proofs.state.State.spliced.Goals as goal

pub returns : goal.returns
returns g c = λ next.
    splice_joined g.W.MachineWord.look c.args.self.now c.args.r1 c.args.r2 c.args.r3 next _ _ _
    c.in_ok-into.ensures (got _ _ _ c.in_ok-a.ensures.is) (got _ _ _ c.in_ok-b.ensures.is) c.joined.ensures

pub returns-in_err-a : goal.returns-in_err-a
unfolding plan_in ask need
returns-in_err-a g c = λ next.
    let no = lacked _ _ _ c.in_err-a.ensures.is in rw (c.in_ok-into.ensures, no.0) (search rules)

pub returns-in_err-b : goal.returns-in_err-b
unfolding plan_in ask need
returns-in_err-b g c = λ next.
    let is = got _ _ _ c.in_ok-a.ensures.is in
    let no = lacked _ _ _ c.in_err-b.ensures.is in
    rw (c.in_ok-into.ensures, is, no.0) (search rules)
