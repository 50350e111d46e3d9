use Rattle.run_lines.proofs.StepTold.{steps_tell_so, runs_are_of_steps, told_are_of_steps}
use Rattle.run_lines.proofs.laws.steps_tell_so.Goals as goal

pub returns-clause-step : goal.returns-clause-step
returns-clause-step c = steps_tell_so

pub returns-clause-runs : goal.returns-clause-runs
returns-clause-runs c = runs_are_of_steps

pub returns-clause-told : goal.returns-clause-told
returns-clause-told c = told_are_of_steps
