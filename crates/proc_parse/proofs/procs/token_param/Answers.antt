use Rattle.std.proofs.Common.{◌∙◌, sym, ap, Ok}
use Rattle.std.proofs.lemmas.Result.{err_from_is_err_and}
use Rattle.proc_parse.proofs.Steps.{read_on, fails_on}
use Rattle.proc_parse.proofs.Parts.{token_param_is, made_by}
use Rattle.proc_parse.proofs.procs.token_param.Goals as goal

pub returns-in_err-name-clause-exact : goal.returns-in_err-name-clause-exact
returns-in_err-name-clause-exact g c =
    let p = err_from_is_err_and c.from_residual.result c.from_residual.ensures.1 in
    λ makes e. rw (p.1, p.2) (fails_on _ _ _ (token_param_is g.L.Language.made c.args.held makes
    c.args.tokens.now) c.in_err-name.ensures.exact)

pub returns-clause-exact : goal.returns-clause-exact
returns-clause-exact g c =
    λ makes e. read_on _ (token_param_is g.L.Language.made c.args.held makes c.args.tokens.now)
    c.in_ok-name.ensures.exact
    ∙ ap (λ p. Ok (p, c.fitting_name.new.self)) (sym (made_by (λ m. m.param c.in_ok-name.name) _ makes _ _ e
    c.token_param_of.ensures.is c.unwrap.ensures))
