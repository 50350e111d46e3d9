use Rattle.std.proofs.Common.{ap, subst, ◌∙◌}
use Rattle.run_lines.specs.EndLines.{end_line}
use Rattle.run_lines.specs.Runs.{EndsBy, end_of}
use Rattle.trace_tool.proofs.run.end_run.Goals as goal

pub returns : goal.returns
returns g c =
    subst (λ l. EndsBy (g.S.Sink.seen c.args.out.now) l (end_of c.args.step) (g.S.Sink.seen c.finish.new.out)
    c.finish.result)
    (c.as_str.ensures.value ∙ c.end_line-line.ensures.bytes ∙ ap end_line c.state.ensures)
    (subst (λ e. EndsBy (g.S.Sink.seen c.args.out.now) c.as_str.result.now e (g.S.Sink.seen c.finish.new.out)
    c.finish.result) c.end_of.ensures c.finish.ensures)
