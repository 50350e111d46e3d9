use Rattle.lcm_machine.proofs.WordsFit.{step_fits, plain_fits}
use Rattle.lcm_machine.proofs.laws.steps_keep_fitting.Goals as goal

pub returns-clause-step : goal.returns-clause-step
returns-clause-step c = step_fits

pub returns-clause-runs : goal.returns-clause-runs
returns-clause-runs c = plain_fits
