use Rattle.std.proofs.Common.{◌∙◌, sym, ap, Ok}
use Rattle.std.proofs.lemmas.Result.{err_from_is_err_and}
use Rattle.proc_parse.proofs.Steps.{read_on, fails_on}
use Rattle.proc_parse.proofs.Parts.{local_is}
use Rattle.proc_parse.proofs.procs.plain_local.Goals as goal

pub returns-in_err-fitting_word-clause-exact : goal.returns-in_err-fitting_word-clause-exact
returns-in_err-fitting_word-clause-exact g c =
    let p = err_from_is_err_and c.from_residual.result c.from_residual.ensures.1 in
    rw (p.1, p.2) (fails_on _ _ _ (local_is g.L.Language.made c.args.count c.args.tokens.now)
    c.in_err-fitting_word.ensures.exact)

pub returns-in_err-name-clause-exact : goal.returns-in_err-name-clause-exact
returns-in_err-name-clause-exact g c =
    let p = err_from_is_err_and c.from_residual-in_err-name.result c.from_residual-in_err-name.ensures.1 in
    rw (p.1, p.2) (fails_on _ _ _ (read_on _ (local_is g.L.Language.made c.args.count c.args.tokens.now)
    c.in_ok-fitting_word.ensures.exact) c.in_err-name.ensures)

pub returns-in_err-sign-clause-exact : goal.returns-in_err-sign-clause-exact
returns-in_err-sign-clause-exact g c =
    let p = err_from_is_err_and c.from_residual-in_err-sign.result c.from_residual-in_err-sign.ensures.1 in
    rw (p.1, p.2) (fails_on _ _ _ (read_on _ (read_on _ (local_is g.L.Language.made c.args.count
    c.args.tokens.now) c.in_ok-fitting_word.ensures.exact) c.in_ok-name.ensures) c.in_err-sign.ensures)

pub returns-clause-exact : goal.returns-clause-exact
returns-clause-exact g c =
    read_on _ (read_on _ (read_on _ (local_is g.L.Language.made c.args.count c.args.tokens.now)
    c.in_ok-fitting_word.ensures.exact) c.in_ok-name.ensures) c.in_ok-sign.ensures
    ∙ ap (λ x. Ok (x, c.sign.new.self)) (sym c.local_of.ensures.is)
