use Rattle.std.proofs.Common.{◌∙◌, sym, ap, Ok}
use Rattle.std.proofs.lemmas.Result.{err_from_is_err_and}
use Rattle.proc_parse.proofs.Steps.{read_on, fails_on}
use Rattle.proc_parse.proofs.Parts.{set_at_is}
use Rattle.proc_parse.proofs.stmts.set_at.Goals as goal

pub returns-in_err-index : goal.returns-in_err-index
returns-in_err-index g c =
    let p = err_from_is_err_and c.from_residual.result c.from_residual.ensures.1 in
    rw (p.1, p.2) (fails_on _ _ _ (set_at_is g.L.Language.made c.args.room c.args.name
    c.args.bracket c.args.tokens.now) c.in_err-index.ensures.exact)

pub returns-in_err-sign : goal.returns-in_err-sign
returns-in_err-sign g c =
    let p = err_from_is_err_and c.from_residual-in_err-sign.result c.from_residual-in_err-sign.ensures.1 in
    rw (p.1, p.2) (fails_on _ _ _ (read_on _ (set_at_is g.L.Language.made c.args.room c.args.name
    c.args.bracket c.args.tokens.now) c.in_ok-index.ensures.exact) c.in_err-sign.ensures)

pub returns-in_err-value : goal.returns-in_err-value
returns-in_err-value g c =
    let p = err_from_is_err_and c.from_residual-in_err-value.result
    c.from_residual-in_err-value.ensures.1 in
    rw (p.1, p.2) (fails_on _ _ _ (read_on _ (read_on _ (set_at_is g.L.Language.made c.args.room
    c.args.name c.args.bracket c.args.tokens.now) c.in_ok-index.ensures.exact)
    c.in_ok-sign.ensures) c.in_err-value.ensures)

pub returns : goal.returns
returns g c =
    read_on _ (read_on _ (read_on _ (set_at_is g.L.Language.made c.args.room c.args.name
    c.args.bracket c.args.tokens.now) c.in_ok-index.ensures.exact) c.in_ok-sign.ensures) c.in_ok-value.ensures
    ∙ ap (λ s. Ok (s, c.ended_value.new.tokens)) (sym c.set_at_of.ensures)
