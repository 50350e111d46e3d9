use Rattle.std.proofs.lemmas.Result.{err_from_is_err_and}
use Rattle.proc_grammar.specs.Lexemes.{words_of}
use Rattle.proc_parse.proofs.Steps.{read_on, fails_on}
use Rattle.proc_parse.proofs.Parts.{header_is}
use Rattle.proc_parse.proofs.items.header.Goals as goal

pub returns-in_err-at : goal.returns-in_err-at
returns-in_err-at g c =
    let p = err_from_is_err_and c.from_residual.result c.from_residual.ensures.1 in
    rw (p.1, p.2) (fails_on _ _ _ (header_is (words_of g.L.Language.made.tokens) c.args.tokens.now)
    c.in_err-at.ensures)

pub returns-in_err-name : goal.returns-in_err-name
returns-in_err-name g c =
    let p = err_from_is_err_and c.from_residual-in_err-name.result c.from_residual-in_err-name.ensures.1 in
    rw (p.1, p.2) (fails_on _ _ _ (read_on _ (header_is (words_of g.L.Language.made.tokens) c.args.tokens.now)
    c.in_ok-at.ensures)
    c.in_err-name.ensures)

pub returns-in_err-numbers : goal.returns-in_err-numbers
returns-in_err-numbers g c =
    let p = err_from_is_err_and c.from_residual-in_err-numbers.result
    c.from_residual-in_err-numbers.ensures.1 in
    rw (p.1, p.2) (fails_on _ _ _ (read_on _ (read_on _ (header_is (words_of g.L.Language.made.tokens)
    c.args.tokens.now)
    c.in_ok-at.ensures) c.in_ok-name.ensures) c.in_err-numbers.ensures)

pub returns : goal.returns
returns g c =
    read_on _ (read_on _ (read_on _ (header_is (words_of g.L.Language.made.tokens) c.args.tokens.now)
    c.in_ok-at.ensures) c.in_ok-name.ensures) c.in_ok-numbers.ensures
