use Rattle.std.proofs.Common.{false, sym, ap, ◌∙◌, ◌++◌, append-nil}
use Rattle.std.specs.List.{flat_map}
use Rattle.std.proofs.Math.ListN.{get_or}
use Rattle.std.proofs.lemmas.List.{take_all, get_or_default}
use Rattle.component_file.proofs.Offers.{one_more}
use Rattle.authority_report.specs.declared.spans.ReachSpan.{ReachSpan}
use Rattle.authority_report.specs.Text.{span_line}
use Rattle.authority_report.proofs.text.push_spans.Goals as goal

-- what a list has past its end
abbrev past : ReachSpan
past = record { base = 0; end = 0; read = false; write = false; run = false }

pub loop-span-init : goal.loop-span-init
loop-span-init c = sym (append-nil c.args.text.now.items)

pub loop-span-preserved : goal.loop-span-preserved
loop-span-preserved c =
    let spans = c.args.spans.now in
    let i = c.loop-span.span-index in
    rw (c.in_ok-push_span.ensures, c.loop-span.invariant)
    (one_more span_line c.args.text.now.items spans i (get_or spans i past) c.loop-span-test.true
    (get_or_default spans i past (get_or spans i past) c.loop-span-test.true))

pub returns : goal.returns
returns c =
    c.loop-span.invariant
    ∙ ap (λ xs. c.args.text.now.items ++ flat_map span_line xs)
    (take_all c.loop-span.span-index c.args.spans.now c.loop-span-test.false)
