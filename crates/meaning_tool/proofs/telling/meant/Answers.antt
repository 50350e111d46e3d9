use Rattle.std.proofs.lemmas.Result.{err_from_is_err_and}
use Rattle.meaning_tool.proofs.Told.{modules_stop, modules_told}
use Rattle.meaning_tool.proofs.telling.meant.Goals as goal

pub returns-in_err-modules : goal.returns-in_err-modules
returns-in_err-modules g c =
    let p = err_from_is_err_and c.from_residual.result c.from_residual.ensures.1 in
    rw (p.1, p.2) (modules_stop c.args.fuel c.args.size c.args.words.now c.args.name.now _ _
    c.in_err-modules.field-0.0 c.in_err-modules.ensures.are)

pub returns : goal.returns
returns g c =
    modules_told c.args.fuel c.args.size c.args.words.now c.args.name.now _ _ _ c.in_ok-modules.modules
    c.as_slice.result.now c.meant_of.result c.as_slice.ensures c.in_ok-modules.ensures.count
    c.in_ok-modules.ensures.are c.meant_of.ensures
