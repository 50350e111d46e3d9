use Rattle.std.proofs.Common.{rules}
use Rattle.lcm_machine.proofs.state.State.plan_split.Goals as goal

pub returns : goal.returns
returns g c = rw c.none.ensures (c.in_ok-low.ensures c.args.next)

pub returns-in_err-low : goal.returns-in_err-low
returns-in_err-low g c = let k = c.in_err-low.ensures c.args.next in search rules
