use Rattle.std.proofs.Common.{subst}
use Rattle.trace_tool.specs.Gaps.{AreWithin}
use Rattle.trace_tool.proofs.run.stretch.Goals as goal

pub returns-clause-within : goal.returns-clause-within
returns-clause-within c =
    subst (λ r. AreWithin c.args.gap r c.run_within.result.0) c.state_mut.ensures.value
    c.run_within.ensures.made
