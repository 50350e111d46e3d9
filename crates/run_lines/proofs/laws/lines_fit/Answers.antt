use Rattle.lcm_machine.proofs.Offers.{plain_fits}
use Rattle.linked_starts.proofs.Offers.{starts_fit}
use Rattle.run_lines.proofs.fit.LinesFitting.{lines_fit}
use Rattle.run_lines.proofs.laws.lines_fit.Goals as goal

pub returns-clause-runs : goal.returns-clause-runs
returns-clause-runs c = λ parts size s l n.
    plain_fits n s.state (starts_fit parts size s.state l.accepted l.rules l.starts.state)

pub returns-clause-lines : goal.returns-clause-lines
returns-clause-lines c = lines_fit
