use Rattle.std.proofs.Common.{◌++◌, map, sym, ap, ◌∙◌}
use Rattle.std.proofs.lemmas.List.{append-nil, take_all}
use Rattle.proc_templates.specs.Compiled.{row_at_label}
use Rattle.proc_compiler.proofs.Pushes.{pushed_more}
use Rattle.proc_compiler.proofs.lists.push_rows.Goals as goal

pub loop-label-init : goal.loop-label-init
loop-label-init c = sym (append-nil c.args.rows.now.items)

pub loop-label-preserved : goal.loop-label-preserved
loop-label-preserved c =
    pushed_more row_at_label c.args.labels.now c.loop-label.label-index _ c.args.rows.now.items _ _ _
    c.loop-label-test.true c.row_at.ensures c.loop-label.invariant c.in_ok-push.ensures.items

pub returns : goal.returns
returns c =
    c.loop-label.invariant
    ∙ ap (λ os. c.args.rows.now.items ++ map row_at_label os)
    (take_all _ c.args.labels.now c.loop-label-test.false)
