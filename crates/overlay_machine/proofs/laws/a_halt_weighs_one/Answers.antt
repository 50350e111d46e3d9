use Rattle.overlay_machine.proofs.RunsAgree.{halts_alone}
use Rattle.overlay_machine.proofs.laws.a_halt_weighs_one.Goals as goal

pub returns : goal.returns
returns c = halts_alone
