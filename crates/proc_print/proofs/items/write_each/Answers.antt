use Rattle.std.proofs.Common.{sym, subst, flat_map}
use Rattle.std.proofs.Math.ListN.{drop_of_length-le}
use Rattle.proc_language.proofs.Offers.{drop_item}
use Rattle.proc_print.specs.Writing.{WritesPieces}
use Rattle.proc_print.proofs.Writing.{both, none}
use Rattle.proc_print.proofs.items.write_each.Goals as goal

pub loop-item-preserved : goal.loop-item-preserved
loop-item-preserved g c = λ end rest.
    let f = g.T.Written.pieces_of in
    let i = c.loop-item.item-index in
    let items = c.args.items.now in
    let x = c.item-item.result in
    c.loop-item.invariant end (subst (λ xs. WritesPieces c.loop-item.text end (flat_map f xs))
    (sym (drop_item items i x c.loop-item-test.true c.item-item.is)) (both c.write.ensures rest))

pub returns : goal.returns
returns g c =
    let f = g.T.Written.pieces_of in
    let text = c.loop-item.text in
    c.loop-item.invariant text (subst (λ xs. WritesPieces text text (flat_map f xs))
    (sym (drop_of_length-le c.args.items.now c.loop-item-test.false)) (none text))
