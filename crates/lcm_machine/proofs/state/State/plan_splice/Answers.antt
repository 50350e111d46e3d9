use Rattle.std.proofs.Common.{rules}
use Rattle.lcm_machine.proofs.state.State.plan_splice.Goals as goal

pub returns : goal.returns
returns g c = rw c.none.ensures (c.in_ok-both.ensures c.args.next)

pub returns-in_err-both : goal.returns-in_err-both
returns-in_err-both g c = let k = c.in_err-both.ensures c.args.next in search rules
