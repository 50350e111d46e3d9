use Rattle.std.proofs.Common.{◌∙◌, sym, ap, Ok}
use Rattle.std.proofs.lemmas.Result.{err_from_is_err_and}
use Rattle.proc_grammar.specs.Reading.{halt_behind}
use Rattle.proc_parse.proofs.Steps.{read_on, fails_on}
use Rattle.proc_parse.proofs.Parts.{ended_by}
use Rattle.proc_parse.proofs.stmts.halt_stmt.Goals as goal

pub returns-in_err-value : goal.returns-in_err-value
unfolding halt_behind
returns-in_err-value g c =
    let p = err_from_is_err_and c.from_residual.result c.from_residual.ensures.1 in
    rw (p.1, p.2) (fails_on _ _ _ (ended_by g.L.Language.made (g.L.Language.made.halt c.args.at) c.args.room
    c.args.tokens.now)
    c.in_err-value.ensures)

pub returns : goal.returns
unfolding halt_behind
returns g c =
    read_on _ (ended_by g.L.Language.made (g.L.Language.made.halt c.args.at) c.args.room c.args.tokens.now)
    c.in_ok-value.ensures
    ∙ ap (λ s. Ok (s, c.ended_value.new.tokens)) (sym c.halt_of.ensures)
