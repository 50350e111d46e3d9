use Rattle.std.proofs.Common.{ℕ, Vec, Global, sym, ◌∙◌}
use Rattle.std.proofs.lemmas.Result.{err_from_is_err_and}
use Rattle.run_picture.proofs.Drawn.{too_long, spoiled, drawn_is}
use Rattle.run_picture.proofs.picture.draw.Goals as goal

pub returns-then-is_too_long : goal.returns-then-is_too_long
returns-then-is_too_long c = too_long c.args.text.now (sym c.is_too_long.ensures ∙ c.if-is_too_long.true)

pub returns-in_err-audit : goal.returns-in_err-audit
returns-in_err-audit c =
    let p = err_from_is_err_and c.from_residual.result c.from_residual.ensures.1 in
    rw (p.1, p.2)
    (spoiled (λ (v : Vec ℕ Global). v.items) c.args.text.now c.in_err-audit.field-0.0
    (sym c.is_too_long.ensures ∙ c.if-is_too_long.false)
    (c.in_err-audit.ensures).exact)

pub returns : goal.returns
returns c =
    drawn_is c.args.text.now c.in_ok-picture.field-0.items
    (sym c.is_too_long.ensures ∙ c.if-is_too_long.false) (c.in_ok-audit.ensures).exact c.in_ok-picture.ensures
