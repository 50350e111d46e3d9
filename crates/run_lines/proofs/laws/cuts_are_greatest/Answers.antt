use Rattle.run_lines.proofs.CutPoints.{cut_is, stops_are_cuts}
use Rattle.run_lines.proofs.laws.cuts_are_greatest.Goals as goal

pub returns-clause-steps : goal.returns-clause-steps
returns-clause-steps c = cut_is

pub returns-clause-matched : goal.returns-clause-matched
returns-clause-matched c = stops_are_cuts
