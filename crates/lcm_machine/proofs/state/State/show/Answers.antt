use Rattle.std.proofs.Common.{◌≡◌, refl, rules}
use Rattle.lcm_machine.specs.Row.{plan_in, planned}
use Rattle.lcm_machine.specs.Details.{detail_row}
use Rattle.lcm_machine.proofs.RowsMet.{made_can, planned_meets}
use Rattle.lcm_machine.proofs.DetailRows.{detail_plan}
use Rattle.lcm_machine.proofs.state.State.show.Goals as goal

pub carry_out-requires : goal.carry_out-requires
carry_out-requires g c = (
  search rules,
  made_can g.W.MachineWord.look c.args.self.now c.args.r1 c.args.next _ _ c.requires c.shows.ensures,
)

pub returns : goal.returns
returns g c =
    let look = g.W.MachineWord.look in
    let row = detail_row c.args.detail c.args.r1 c.args.r2 in
    let is : planned c.shows.result ≡ plan_in look c.args.self.now row c.args.next =
    rw (detail_plan look c.args.self.now c.args.r1 c.args.r2 c.args.next c.args.detail) (search rules) in
    planned_meets look g.W.MachineWord.plain c.args.self.now _ _ _ _ _ _ refl is c.carry_out.ensures
