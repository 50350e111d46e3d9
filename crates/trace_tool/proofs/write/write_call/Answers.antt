use Rattle.std.proofs.Common.{rules, ◌∙◌}
use Rattle.trusted_border.specs.declared.events.Event.TheVariants.{Called}
use Rattle.run_lines.specs.Layout.{layout}
use Rattle.run_lines.specs.Lines.{line_of}
use Rattle.run_lines.proofs.Offers.{head_fails, line_written}
use Rattle.trace_tool.proofs.write.write_call.Goals as goal

pub returns-in_err-write : goal.returns-in_err-write
returns-in_err-write g c =
    let call = c.args.call in
    let line = line_of (layout c.args.start.now) (g.V.Shown.view c.args.view.now)
    (Called call.inward call.site call.base call.end) in
    head_fails line _ _ _ _ (c.as_slice.ensures.value ∙ c.call_head-head.ensures.bytes)
    c.from_residual.ensures.0 c.in_err-write.ensures

pub returns : goal.returns
returns g c =
    let call = c.args.call in
    let line = line_of (layout c.args.start.now) (g.V.Shown.view c.args.view.now)
    (Called call.inward call.site call.base call.end) in
    line_written line _ _ _ _ _ _ (c.as_slice.ensures.value ∙ c.call_head-head.ensures.bytes) (search rules)
    c.in_ok-write.ensures c.write_rest.ensures
