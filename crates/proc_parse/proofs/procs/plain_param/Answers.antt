use Rattle.std.proofs.Common.{◌∙◌, sym, ap, subst, true, Ok}
use Rattle.std.proofs.lemmas.Result.{err_from_is_err_and}
use Rattle.readers.specs.Readers.{done}
use Rattle.proc_grammar.specs.Lexemes.{sign, slash}
use Rattle.proc_grammar.specs.Reading.{full, arity_behind}
use Rattle.proc_parse.specs.Answers.{Gives}
use Rattle.proc_parse.proofs.Steps.{read_on, fails_on, case_taken, case_left}
use Rattle.proc_parse.proofs.Parts.{param_is}
use Rattle.proc_parse.proofs.procs.plain_param.Goals as goal

pub returns-in_err-name-clause-exact : goal.returns-in_err-name-clause-exact
returns-in_err-name-clause-exact g c =
    let p = err_from_is_err_and c.from_residual.result c.from_residual.ensures.1 in
    rw (p.1, p.2) (fails_on _ _ _ (param_is g.L.Language.made c.args.used c.args.tokens.now)
    c.in_err-name.ensures.exact)

pub returns-then-is_some-clause-exact : goal.returns-then-is_some-clause-exact
returns-then-is_some-clause-exact g c =
    let made = g.L.Language.made in
    let name = c.in_ok-name.name in
    subst (Gives c.callback.result c.callback.new.tokens) (sym (
    read_on _ (param_is g.L.Language.made c.args.used c.args.tokens.now) c.in_ok-name.ensures.exact
    ∙ case_taken (sign slash) (arity_behind made true full name c.args.used) (done (made.param name))
    c.fitting_name.new.self c.take_sign.new.self c.take_sign.result c.take_sign.ensures.value
    (sym c.is_some.ensures ∙ c.if-is_some.true) c.take_sign.ensures.left)) c.callback.ensures.exact

pub returns-clause-exact : goal.returns-clause-exact
returns-clause-exact g c =
    let made = g.L.Language.made in
    let name = c.in_ok-name.name in
    read_on _ (param_is g.L.Language.made c.args.used c.args.tokens.now) c.in_ok-name.ensures.exact
    ∙ case_left (sign slash) (arity_behind made true full name c.args.used) (done (made.param name))
    c.fitting_name.new.self c.take_sign.new.self c.take_sign.result c.take_sign.ensures.value
    (sym c.is_some.ensures ∙ c.if-is_some.false) c.take_sign.ensures.left
    ∙ ap (λ p. Ok (p, c.take_sign.new.self)) (sym c.param_of.ensures.is)
