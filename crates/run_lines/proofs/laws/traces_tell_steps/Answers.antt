use Rattle.run_lines.proofs.TraceTold.{trace_stands}
use Rattle.run_lines.proofs.laws.traces_tell_steps.Goals as goal

pub returns : goal.returns
returns c = trace_stands
