use Rattle.std.proofs.Common.{◌∙◌, refl, sym, subst}
use Rattle.std.proofs.lemmas.Result.{err_from_is_err_and}
use Rattle.proc_grammar.specs.Reading.{name_stmt}
use Rattle.proc_parse.specs.Answers.{Gives}
use Rattle.proc_parse.proofs.Steps.{read_on, fails_on}
use Rattle.proc_parse.proofs.Parts.{is_set, is_set_at, is_call}
use Rattle.proc_parse.proofs.stmts.name_stmt.Goals as goal

pub returns-in_err-name : goal.returns-in_err-name
unfolding name_stmt
returns-in_err-name g c =
    let p = err_from_is_err_and c.from_residual.result c.from_residual.ensures.1 in
    rw (p.1, p.2) (fails_on _ _ _ refl c.in_err-name.ensures)

pub returns-then-is_some : goal.returns-then-is_some
returns-then-is_some g c = subst (Gives c.set.result c.set.new.tokens)
    (sym (is_set g.L.Language.made c.args.room c.args.tokens.now c.name.new.self
    c.in_ok-name.name c.in_ok-name.ensures c.take_sign.new.self c.take_sign.result c.take_sign.ensures.value
    c.take_sign.ensures.left (sym c.is_some.ensures ∙ c.if-is_some.true))) c.set.ensures

pub returns-in-Some : goal.returns-in-Some
returns-in-Some g c = subst (Gives c.set_at.result c.set_at.new.tokens)
    (sym (is_set_at g.L.Language.made c.args.room c.args.tokens.now c.name.new.self
    c.in_ok-name.name c.in_ok-name.ensures c.take_sign.new.self c.take_sign.result c.take_sign.ensures.value
    c.take_sign.ensures.left (sym c.is_some.ensures ∙ c.if-is_some.false) c.take_sign-2.new.self
    c.in-Some.bracket (sym c.in-Some.ensures.value) c.in-Some.ensures.left)) c.set_at.ensures

pub returns-in_err-bracket : goal.returns-in_err-bracket
returns-in_err-bracket g c =
    let p = err_from_is_err_and c.from_residual-in_err-bracket.result
    c.from_residual-in_err-bracket.ensures.1 in
    rw (p.1, p.2) (fails_on _ _ _ (is_call g.L.Language.made c.args.room c.args.tokens.now c.name.new.self
    c.in_ok-name.name c.in_ok-name.ensures c.take_sign.new.self c.take_sign.result c.take_sign.ensures.value
    c.take_sign.ensures.left (sym c.is_some.ensures ∙ c.if-is_some.false)
    c.take_sign-2.new.self (sym c.in_default.ensures.value) c.in_default.ensures.left)
    c.in_err-bracket.ensures)

pub returns : goal.returns
returns g c = subst (Gives c.call.result c.call.new.tokens)
    (sym (read_on _ (is_call g.L.Language.made c.args.room c.args.tokens.now c.name.new.self
    c.in_ok-name.name c.in_ok-name.ensures c.take_sign.new.self c.take_sign.result c.take_sign.ensures.value
    c.take_sign.ensures.left (sym c.is_some.ensures ∙ c.if-is_some.false)
    c.take_sign-2.new.self (sym c.in_default.ensures.value) c.in_default.ensures.left)
    c.in_ok-bracket.ensures))
    c.call.ensures
