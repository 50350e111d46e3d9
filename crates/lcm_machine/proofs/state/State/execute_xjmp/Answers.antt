use Rattle.std.proofs.Common.{rules}
use Rattle.lcm_machine.proofs.RowsMet.{planned_can}
use Rattle.lcm_machine.proofs.state.State.execute_xjmp.Goals as goal

pub carry_out-requires : goal.carry_out-requires
carry_out-requires g c = (
  search rules,
  planned_can g.W.MachineWord.look g.W.MachineWord.plain c.args.self.now _ _ _
      c.requires c.plan_xjmp.ensures,
)
