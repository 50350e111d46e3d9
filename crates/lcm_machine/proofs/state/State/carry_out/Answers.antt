use Rattle.std.proofs.Common.{rules}
use Rattle.lcm_machine.proofs.state.State.carry_out.Goals as goal

pub perform-requires : goal.perform-requires
perform-requires g c = (search rules, c.requires c.in-Ok.effect (search rules))
