use Rattle.std.proofs.lemmas.Result.{err_from_is_err_and}
use Rattle.meaning_tool.proofs.Told.{rules_stop, feed_stops, feed_told}
use Rattle.meaning_tool.proofs.telling.meant_of.Goals as goal

pub returns-in_err-check : goal.returns-in_err-check
returns-in_err-check g c =
    let p = err_from_is_err_and c.from_residual.result c.from_residual.ensures.1 in
    rw (p.1, p.2) (rules_stop c.args.fuel _ c.args.size c.args.name.now c.args.modules.now _
    c.in_err-check.field-0.0 c.in_err-check.ensures)

pub returns-in_err-items : goal.returns-in_err-items
returns-in_err-items g c =
    let p = err_from_is_err_and c.from_residual-in_err-items.result c.from_residual-in_err-items.ensures.1 in
    rw (p.1, p.2) (feed_stops c.args.fuel _ c.args.size c.args.name.now c.args.modules.now _ _
    c.stack_base_of.result c.in_err-items.field-0.0 c.stack_base_of.ensures.same c.in_ok-check.ensures
    c.in_err-items.ensures)

pub returns : goal.returns
returns g c =
    feed_told c.args.fuel _ c.args.size c.args.name.now c.args.modules.now _ _ c.stack_base_of.result
    c.in_ok-items.items c.tell.result c.stack_base_of.ensures.same c.in_ok-check.ensures c.in_ok-items.ensures
    (rw c.as_slice.ensures at c.tell.ensures.told) c.tell.ensures.stops
