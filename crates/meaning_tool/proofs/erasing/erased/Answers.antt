use Rattle.std.proofs.lemmas.Result.{err_from_is_err_and}
use Rattle.meaning_tool.specs.Subjects.{module_at}
use Rattle.meaning_tool.proofs.Told.{as_came}
use Rattle.meaning_tool.specs.Erased.{IsErased}
use Rattle.meaning_tool.proofs.erasing.erased.Goals as goal

pub returns-in_err-module : goal.returns-in_err-module
returns-in_err-module g c =
    let p = err_from_is_err_and c.from_residual.result c.from_residual.ensures.1 in
    rw (p.1, p.2) c.in_err-module.ensures.is

pub returns : goal.returns
returns g c =
    as_came IsErased (module_at 0 c.args.word.now) _ _ c.in_ok-module.module c.text_of.result
    c.in_ok-module.ensures.is c.text_of.ensures.does c.text_of.ensures.stops
