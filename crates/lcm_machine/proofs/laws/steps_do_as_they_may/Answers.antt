use Rattle.lcm_machine.proofs.StepActs.{does_as_it_may, changes_no_other, writes_where_it_may}
use Rattle.lcm_machine.proofs.laws.steps_do_as_they_may.Goals as goal

pub returns-clause-does : goal.returns-clause-does
returns-clause-does g c = does_as_it_may g.W.MachineWord.look g.W.MachineWord.plain

pub returns-clause-changes : goal.returns-clause-changes
returns-clause-changes g c = changes_no_other g.W.MachineWord.look g.W.MachineWord.plain

pub returns-clause-writes : goal.returns-clause-writes
returns-clause-writes g c = writes_where_it_may g.W.MachineWord.look g.W.MachineWord.plain
