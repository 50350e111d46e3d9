use Rattle.std.proofs.Common.{rules}
use Rattle.lcm_machine.proofs.Onward.{fetched_goes_on}
use Rattle.lcm_machine.proofs.state.State.advance.Goals as goal

pub execute-requires : goal.execute-requires
execute-requires g c = (
  search rules,
  rw c.fetch_on.ensures.same
      (fetched_goes_on g.W.MachineWord.look g.W.MachineWord.plain c.args.self.now _ _ _ c.in-Ok.ensures.is),
)
