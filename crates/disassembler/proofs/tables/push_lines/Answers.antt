use Rattle.std.proofs.Common.{sym, ap, ◌∙◌, ◌++◌, append-nil}
use Rattle.std.specs.List.{flat_map}
use Rattle.std.proofs.lemmas.List.{take_all}
use Rattle.component_file.proofs.Offers.{one_more}
use Rattle.disassembler.proofs.tables.push_lines.Goals as goal

pub loop-item-init : goal.loop-item-init
loop-item-init g c = sym (append-nil c.args.text.now.items)

pub loop-item-preserved : goal.loop-item-preserved
loop-item-preserved g c = rw (c.in_ok-push_line.ensures, c.loop-item.invariant)
    (one_more g.T.Listed.line c.args.text.now.items c.args.items.now c.loop-item.item-index
    c.item-item.result c.loop-item-test.true c.item-item.is)

pub returns : goal.returns
returns g c =
    c.loop-item.invariant
    ∙ ap (λ xs. c.args.text.now.items ++ flat_map g.T.Listed.line xs)
    (take_all c.loop-item.item-index c.args.items.now c.loop-item-test.false)
