use Rattle.std.proofs.Common.{rules}
use Rattle.lcm_machine.proofs.Onward.{still_fits}
use Rattle.lcm_machine.proofs.state.State.perform.Goals as goal

pub go_on-requires : goal.go_on-requires
go_on-requires g c = (
  search rules,
  rw (c.make-2.ensures, c.make.ensures, c.spend-2.ensures, c.spend.ensures, c.move_on.ensures)
      (still_fits g.W.MachineWord.look g.W.MachineWord.plain c.args.self.now c.args.effect c.args.effect.next
      c.requires.1 c.requires.2),
)
