use Rattle.std.proofs.Common.{ap, ◌∙◌, ◌++◌}
use Rattle.lcm_machine.specs.Run.{plain}
use Rattle.overlay_machine.specs.Starting.{overlay_at}
use Rattle.run_lines.specs.Texts.{lines_text}
use Rattle.run_lines.specs.EndLines.{end_line}
use Rattle.run_lines.specs.Runs.{run_text, written}
use Rattle.run_lines.specs.Traces.{trace_of}
use Rattle.line_fields.specs.Feed.{fed}
use Rattle.audited_runs.proofs.EndLinesSeen.{end_is}
use Rattle.audited_runs.proofs.TraceEnds.{trace_ends}
use Rattle.audited_runs.proofs.Feeding.{fed_is}
use Rattle.audited_runs.proofs.laws.texts_tell_items.Goals as goal

pub returns-clause-runs : goal.returns-clause-runs
unfolding run_text
returns-clause-runs c = λ parts size s is base n.
    fed_is base (written s n) (end_line (plain n s.state)) (c.lines_fit.ensures.lines parts size s is n)
    (_, end_is (plain n s.state))

pub returns-clause-traces : goal.returns-clause-traces
returns-clause-traces c = λ parts size s is base limit.
    (let t = trace_of limit (overlay_at s) in
    ap (λ ls. fed base (lines_text ls ++ t.last)) (c.start_lines_agree.ensures.traces parts size s is limit)
    ∙ fed_is base (written s limit) t.last (c.lines_fit.ensures.lines parts size s is limit)
    (trace_ends limit (overlay_at s)))
