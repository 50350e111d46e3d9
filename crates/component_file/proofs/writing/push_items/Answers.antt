use Rattle.std.proofs.Common.{sym, subst, ap, ◌∙◌, ◌++◌, append-nil}
use Rattle.std.specs.List.{flat_map}
use Rattle.std.proofs.lemmas.List.{take_all}
use Rattle.std.proofs.lemmas.List.Elements.{All-from_recursion}
use Rattle.component_file.proofs.Lists.{one_more}
use Rattle.component_file.proofs.writing.push_items.Goals as goal

pub loop-item-init : goal.loop-item-init
loop-item-init g c = sym (append-nil c.args.out.now.items)

pub write-requires : goal.write-requires
write-requires g c = subst g.T.Spelled.can_write (sym c.item-item.is)
    (All-from_recursion g.T.Spelled.can_write c.args.items.now c.requires c.loop-item.item-index
    c.item-item.result c.loop-item-test.true)

pub loop-item-preserved : goal.loop-item-preserved
loop-item-preserved g c = rw (c.in_ok-write.ensures, c.loop-item.invariant)
    (one_more g.T.Spelled.spelled c.args.out.now.items c.args.items.now c.loop-item.item-index
    c.item-item.result c.loop-item-test.true c.item-item.is)

pub returns : goal.returns
returns g c =
    c.loop-item.invariant
    ∙ ap (λ xs. c.args.out.now.items ++ flat_map g.T.Spelled.spelled xs)
    (take_all c.loop-item.item-index c.args.items.now c.loop-item-test.false)
