use Rattle.std.proofs.Common.{rules, refl}
use Rattle.trace_tool.proofs.Untrusted.{ends_untrusted}
use Rattle.trace_tool.proofs.run.run_untrusted.Goals as goal

pub returns : goal.returns
returns g c =
    ends_untrusted c.args.start.now _ c.args.steps _ _ c.run-step.result _ c.end_run.result
    c.requires.untrusted (search rules) (search rules) refl c.end_run.ensures
