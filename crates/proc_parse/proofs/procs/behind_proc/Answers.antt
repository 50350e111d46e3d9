use Rattle.std.proofs.Common.{◌∙◌, sym, ap, subst, Ok}
use Rattle.std.proofs.lemmas.Result.{err_from_is_err_and}
use Rattle.proc_grammar.specs.Fault.{Fails}
use Rattle.proc_parse.specs.Parts.{proc_inner}
use Rattle.proc_parse.proofs.Steps.{read_on, fails_on}
use Rattle.proc_parse.proofs.Parts.{proc_is}
use Rattle.proc_parse.proofs.procs.behind_proc.Goals as goal

pub returns-in_err-name : goal.returns-in_err-name
returns-in_err-name g c =
    let p = err_from_is_err_and c.from_residual.result c.from_residual.ensures.1 in
    rw (p.1, p.2) (fails_on _ _ _ (proc_is g.L.Language.made c.args.at c.args.shared c.args.tokens.now)
    c.in_err-name.ensures)

pub returns-in_err-params : goal.returns-in_err-params
returns-in_err-params g c =
    let p = err_from_is_err_and c.from_residual-in_err-params.result
    c.from_residual-in_err-params.ensures.1 in
    rw (p.1, p.2) (fails_on _ _ _ (read_on _ (proc_is g.L.Language.made c.args.at c.args.shared
    c.args.tokens.now) c.in_ok-name.ensures)
    c.in_err-params.ensures.exact)

pub returns-in_err-locals : goal.returns-in_err-locals
returns-in_err-locals g c =
    let p = err_from_is_err_and c.from_residual-in_err-locals.result
    c.from_residual-in_err-locals.ensures.1 in
    rw (p.1, p.2) (fails_on _ _ _ (read_on _ (read_on _ (proc_is g.L.Language.made c.args.at c.args.shared
    c.args.tokens.now)
    c.in_ok-name.ensures) c.in_ok-params.ensures.exact)
    (subst (λ n. Fails c.in_err-locals.field-0.0 (proc_inner g.L.Language.made n c.params.new.tokens))
    c.in_ok-params.ensures.count c.in_err-locals.ensures))

pub returns : goal.returns
returns g c =
    let inner = ap (λ n. proc_inner g.L.Language.made n c.params.new.tokens) (sym
    c.in_ok-params.ensures.count)
    ∙ c.in_ok-locals.ensures in
    read_on _ (read_on _ (read_on _ (proc_is g.L.Language.made c.args.at c.args.shared c.args.tokens.now)
    c.in_ok-name.ensures)
    c.in_ok-params.ensures.exact) inner
    ∙ ap (λ r. Ok (r, c.proc_inner.new.tokens)) (ap (λ l. g.L.Language.made.proc c.args.at
    c.in_ok-locals.field-0.end c.args.shared c.in_ok-name.name l c.in_ok-locals.field-0.locals
    c.in_ok-locals.field-0.body) (sym c.of-params.ensures) ∙ sym c.proc_of.ensures)
