use Rattle.std.proofs.Common.{rules}
use Rattle.lcm_machine.proofs.state.State.plan_xjmp.Goals as goal

pub returns : goal.returns
returns g c =
    rw (c.none.ensures, c.of.ensures, c.unsealed.ensures) (c.in_ok-code.ensures.is c.args.next)

pub returns-in_err-code : goal.returns-in_err-code
returns-in_err-code g c = let k = c.in_err-code.ensures.is c.args.next in search rules
