use Rattle.lcm_machine.proofs.Commute.{row_commutes, fetch_commutes, step_commutes}
use Rattle.lcm_machine.proofs.laws.row_commutes.Goals as goal

pub returns-clause-row : goal.returns-clause-row
returns-clause-row g c =
    row_commutes g.W.MachineWord.look g.W.MachineWord.plain g.V.MachineWord.look g.V.MachineWord.plain
    g.met.W.MachineWord.looks_plain g.met.V.MachineWord.looks_plain

pub returns-clause-fetch : goal.returns-clause-fetch
returns-clause-fetch g c = fetch_commutes g.W.MachineWord.look g.V.MachineWord.look

pub returns-clause-step : goal.returns-clause-step
returns-clause-step g c =
    step_commutes g.W.MachineWord.look g.W.MachineWord.plain g.V.MachineWord.look g.V.MachineWord.plain
    g.met.W.MachineWord.looks_plain g.met.V.MachineWord.looks_plain
