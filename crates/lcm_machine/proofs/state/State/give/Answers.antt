use Rattle.std.proofs.Common.{sym, ◌∙◌, rules}
use Rattle.lcm_machine.proofs.state.State.give.Goals as goal

pub carry_out-requires : goal.carry_out-requires
carry_out-requires g c = (search rules, λ e h. c.requires e (sym c.making.ensures ∙ h))
