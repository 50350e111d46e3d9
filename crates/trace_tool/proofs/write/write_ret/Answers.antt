use Rattle.std.proofs.Common.{rules, ◌∙◌, ◌+◌, ◌-◌, refl}
use Rattle.lcm_isa.specs.declared.Reg.TheVariants.{Dat}
use Rattle.trusted_border.specs.declared.events.Event.TheVariants.{Returned}
use Rattle.run_lines.specs.Layout.{layout}
use Rattle.run_lines.specs.Lines.{words_seen, line_of}
use Rattle.run_lines.proofs.Offers.{head_fails, word_fails, word_written}
use Rattle.trace_tool.proofs.write.write_ret.Goals as goal

pub returns-in_err-write : goal.returns-in_err-write
returns-in_err-write g c =
    let call = c.args.call in
    let line = line_of (layout c.args.start.now) (g.V.Shown.view c.args.view.now)
    (Returned call.inward call.site call.base call.end) in
    head_fails line _ _ _ _ (c.as_slice.ensures.value ∙ c.ret_head-head.ensures.bytes)
    c.from_residual.ensures.0 c.in_err-write.ensures

pub returns-in_err-write_word : goal.returns-in_err-write_word
returns-in_err-write_word g c =
    let call = c.args.call in
    let line = line_of (layout c.args.start.now) (g.V.Shown.view c.args.view.now)
    (Returned call.inward call.site call.base call.end) in
    word_fails line _ _ _ _ _ ((g.V.Shown.view c.args.view.now).reg Dat)
    (words_seen (g.V.Shown.view c.args.view.now) (c.args.call.base + 1)
    (c.args.call.end - c.args.call.base)) _ (c.as_slice.ensures.value ∙ c.ret_head-head.ensures.bytes)
    refl (search rules)
    c.from_residual-in_err-write_word.ensures.0 c.in_ok-write.ensures c.in_err-write_word.ensures

pub returns : goal.returns
returns g c =
    let call = c.args.call in
    let line = line_of (layout c.args.start.now) (g.V.Shown.view c.args.view.now)
    (Returned call.inward call.site call.base call.end) in
    word_written line _ _ _ _ _ _ ((g.V.Shown.view c.args.view.now).reg Dat)
    (words_seen (g.V.Shown.view c.args.view.now) (c.args.call.base + 1)
    (c.args.call.end - c.args.call.base)) _ _ (c.as_slice.ensures.value ∙ c.ret_head-head.ensures.bytes)
    refl (search rules) (search rules)
    c.in_ok-write.ensures c.in_ok-write_word.ensures c.write_rest.ensures
