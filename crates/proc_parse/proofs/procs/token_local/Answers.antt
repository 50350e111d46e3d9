use Rattle.std.proofs.Common.{◌∙◌, sym, ap, Ok}
use Rattle.std.proofs.lemmas.Result.{err_from_is_err_and}
use Rattle.proc_parse.proofs.Steps.{read_on, fails_on}
use Rattle.proc_parse.proofs.Parts.{token_local_is, made_by}
use Rattle.proc_parse.proofs.procs.token_local.Goals as goal

pub returns-in_err-name-clause-exact : goal.returns-in_err-name-clause-exact
returns-in_err-name-clause-exact g c =
    let p = err_from_is_err_and c.from_residual.result c.from_residual.ensures.1 in
    λ makes e. rw (p.1, p.2) (fails_on _ _ _ (token_local_is g.L.Language.made c.args.held makes
    c.args.tokens.now) c.in_err-name.ensures.exact)

pub returns-in_err-sign-clause-exact : goal.returns-in_err-sign-clause-exact
returns-in_err-sign-clause-exact g c =
    let p = err_from_is_err_and c.from_residual-in_err-sign.result c.from_residual-in_err-sign.ensures.1 in
    λ makes e. rw (p.1, p.2) (fails_on _ _ _ (read_on _ (token_local_is g.L.Language.made c.args.held makes
    c.args.tokens.now)
    c.in_ok-name.ensures.exact) c.in_err-sign.ensures)

pub returns-clause-exact : goal.returns-clause-exact
returns-clause-exact g c =
    λ makes e. read_on _ (read_on _ (token_local_is g.L.Language.made c.args.held makes c.args.tokens.now)
    c.in_ok-name.ensures.exact) c.in_ok-sign.ensures
    ∙ ap (λ x. Ok (x, c.sign.new.self)) (sym (made_by (λ m. m.local c.in_ok-name.name) _ makes _ _ e
    c.token_local_of.ensures.is c.unwrap.ensures))
