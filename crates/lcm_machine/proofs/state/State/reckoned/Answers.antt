use Rattle.std.proofs.Common.{◌≡◌, true, false, rules}
use Rattle.lcm_machine.specs.Arith.{arith_of}
use Rattle.lcm_machine.specs.Table.{fits_64}
use Rattle.lcm_machine.proofs.RowsMet.{got}
use Rattle.lcm_machine.proofs.TestedRows.{lacked, told_on, arith_into, arith_no_first, arith_no_second}
use Rattle.lcm_machine.proofs.TestedRows.{arith_made, arith_over}
use Rattle.lcm_machine.proofs.state.State.reckoned.Goals as goal

pub returns : goal.returns
returns g c = λ next.
    let fits : fits_64 (arith_of c.args.op c.in_ok-x.x c.in_ok-z.z) ≡ true = search rules in
    let is : c.in_ok-of.field-0 ≡ arith_of c.args.op c.in_ok-x.x c.in_ok-z.z = search rules in
    let made =
    arith_made g.W.MachineWord.look c.args.self.now c.args.r1 c.args.r2 c.args.n next c.in_ok-into.ensures
    _ (got _ _ _ c.in_ok-x.ensures) _ (got _ _ _ c.in_ok-z.ensures) c.args.op fits in
    rw (← made, ← is) (search rules)

pub returns-in_err-into : goal.returns-in_err-into
returns-in_err-into g c = λ next.
    rw (told_on _ _ _ c.from_residual.ensures.1 c.in_err-into.ensures.1)
    (arith_into g.W.MachineWord.look c.args.self.now c.args.r1 c.args.r2 c.args.n next c.args.op
    c.in_err-into.ensures.0)

pub returns-in_err-x : goal.returns-in_err-x
returns-in_err-x g c = λ next.
    let no = lacked _ _ _ c.in_err-x.ensures in
    rw (told_on _ _ _ c.from_residual-in_err-x.ensures.1 no.1)
    (arith_no_first g.W.MachineWord.look c.args.self.now c.args.r1 c.args.r2 c.args.n next
    c.in_ok-into.ensures c.args.op no.0)

pub returns-in_err-z : goal.returns-in_err-z
returns-in_err-z g c = λ next.
    let no = lacked _ _ _ c.in_err-z.ensures in
    rw (told_on _ _ _ c.from_residual-in_err-z.ensures.1 no.1)
    (arith_no_second g.W.MachineWord.look c.args.self.now c.args.r1 c.args.r2 c.args.n next
    c.in_ok-into.ensures _ (got _ _ _ c.in_ok-x.ensures) c.args.op no.0)

pub returns-in_err-of : goal.returns-in_err-of
returns-in_err-of g c = λ next.
    let over : fits_64 (arith_of c.args.op c.in_ok-x.x c.in_ok-z.z) ≡ false = search rules in
    rw (told_on _ _ _ c.from_residual-in_err-of.ensures.1 c.in_err-of.ensures.1)
    (arith_over g.W.MachineWord.look c.args.self.now c.args.r1 c.args.r2 c.args.n next
    c.in_ok-into.ensures _ (got _ _ _ c.in_ok-x.ensures) _ (got _ _ _ c.in_ok-z.ensures) c.args.op over)
