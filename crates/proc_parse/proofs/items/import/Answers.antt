use Rattle.std.proofs.lemmas.Result.{err_from_is_err_and}
use Rattle.proc_grammar.specs.Lexemes.{words_of}
use Rattle.proc_parse.proofs.Steps.{read_on, fails_on}
use Rattle.proc_parse.proofs.Parts.{import_is}
use Rattle.proc_parse.proofs.items.import.Goals as goal

pub returns-in_err-at-clause-exact : goal.returns-in_err-at-clause-exact
returns-in_err-at-clause-exact g c =
    let p = err_from_is_err_and c.from_residual.result c.from_residual.ensures.1 in
    rw (p.1, p.2) (fails_on _ _ _ (import_is (words_of g.L.Language.made.tokens) c.args.count
    c.args.tokens.now) c.in_err-at.ensures.exact)

pub returns-in_err-part-clause-exact : goal.returns-in_err-part-clause-exact
returns-in_err-part-clause-exact g c =
    let p = err_from_is_err_and c.from_residual-in_err-part.result c.from_residual-in_err-part.ensures.1 in
    rw (p.1, p.2) (fails_on _ _ _ (read_on _ (import_is (words_of g.L.Language.made.tokens) c.args.count
    c.args.tokens.now) c.in_ok-at.ensures.exact)
    c.in_err-part.ensures)

pub returns-in_err-sign-clause-exact : goal.returns-in_err-sign-clause-exact
returns-in_err-sign-clause-exact g c =
    let p = err_from_is_err_and c.from_residual-in_err-sign.result c.from_residual-in_err-sign.ensures.1 in
    rw (p.1, p.2) (fails_on _ _ _ (read_on _ (read_on _ (import_is
    (words_of g.L.Language.made.tokens) c.args.count
    c.args.tokens.now)
    c.in_ok-at.ensures.exact) c.in_ok-part.ensures) c.in_err-sign.ensures)

pub returns-in_err-name-clause-exact : goal.returns-in_err-name-clause-exact
returns-in_err-name-clause-exact g c =
    let p = err_from_is_err_and c.from_residual-in_err-name.result
    c.from_residual-in_err-name.ensures.1 in
    rw (p.1, p.2) (fails_on _ _ _ (read_on _ (read_on _ (read_on _ (import_is
    (words_of g.L.Language.made.tokens)
    c.args.count c.args.tokens.now)
    c.in_ok-at.ensures.exact) c.in_ok-part.ensures) c.in_ok-sign.ensures) c.in_err-name.ensures)

pub returns-clause-exact : goal.returns-clause-exact
returns-clause-exact g c =
    read_on _ (read_on _ (read_on _ (read_on _ (import_is (words_of g.L.Language.made.tokens) c.args.count
    c.args.tokens.now)
    c.in_ok-at.ensures.exact) c.in_ok-part.ensures) c.in_ok-sign.ensures) c.in_ok-name.ensures
