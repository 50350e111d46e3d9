use Rattle.std.proofs.Common.{◌∙◌, ap, inl, inr}
use Rattle.std.proofs.lemmas.Result.{err_from_is_err_and}
use Rattle.token_language.specs.View.{args_of}
use Rattle.token_language.specs.StmtView.{block_of}
use Rattle.token_language.specs.Tokens.{tokens_of}
use Rattle.token_check.specs.Walk.{walk_on, to_after, expr_walk, args_walk, guarded_walk, filled, emptied}
use Rattle.token_check.specs.Walk.{comes_back, let_go}
use Rattle.token_check.proofs.WalkLemmas.{kind_walk, guarded_ok, guarded_err}
use Rattle.token_check.proofs.check.+stmt.Goals as goal

pub statement-returns-in-Set : goal.statement-returns-in-Set
statement-returns-in-Set t c =
    let tokens = tokens_of c.args.p.now in
    c.goes_on.ensures
    ∙ ap (to_after tokens) c.expr.ensures
    ∙ kind_walk tokens c.args.full c.s.inside.at c.s.inside.end c.s.view_is c.in-Set.is

pub statement-returns-in-Call : goal.statement-returns-in-Call
statement-returns-in-Call t c =
    let tokens = tokens_of c.args.p.now in
    c.goes_on-in-Call.ensures
    ∙ ap (to_after tokens) (c.args-in-Call.ensures
    ∙ ap (λ l. args_walk tokens (args_of l) c.args.full) c.as_slice.ensures)
    ∙ kind_walk tokens c.args.full c.s.inside.at c.s.inside.end c.s.view_is c.in-Call.is

pub statement-returns-in_err-full-in-SetAt : goal.statement-returns-in_err-full-in-SetAt
statement-returns-in_err-full-in-SetAt t c =
    let tokens = tokens_of c.args.p.now in
    let p = err_from_is_err_and c.from_residual.result c.from_residual.ensures.1 in
    rw (p.1, p.2) (ap (λ w. walk_on w (λ u. to_after tokens (expr_walk tokens c.in-SetAt.e u)))
    c.in_err-full-in-SetAt.ensures
    ∙ kind_walk tokens c.args.full c.s.inside.at c.s.inside.end c.s.view_is c.in-SetAt.is)

pub statement-returns-in_ok-full-in-SetAt : goal.statement-returns-in_ok-full-in-SetAt
statement-returns-in_ok-full-in-SetAt t c =
    let tokens = tokens_of c.args.p.now in
    c.goes_on-in-SetAt.ensures
    ∙ ap (to_after tokens) c.expr-in-SetAt-2.ensures
    ∙ ap (λ w. walk_on w (λ u. to_after tokens (expr_walk tokens c.in-SetAt.e u)))
    c.in_ok-full-in-SetAt.ensures
    ∙ kind_walk tokens c.args.full c.s.inside.at c.s.inside.end c.s.view_is c.in-SetAt.is

pub statement-returns-in_err-tested-in-While : goal.statement-returns-in_err-tested-in-While
statement-returns-in_err-tested-in-While t c =
    let tokens = tokens_of c.args.p.now in
    let p = err_from_is_err_and c.from_residual-in_err-tested-in-While.result
    c.from_residual-in_err-tested-in-While.ensures.1 in
    rw (p.1, p.2) (guarded_err tokens c.in-While.c (block_of c.in-While.body) c.args.full
    (comes_back c.s.inside.end c.args.full) c.in_err-tested-in-While.field-0.0
    (c.in_err-tested-in-While.ensures
    ∙ ap (λ l. guarded_walk tokens c.in-While.c (block_of l) c.args.full) c.as_slice-in-While.ensures)
    ∙ kind_walk tokens c.args.full c.s.inside.at c.s.inside.end c.s.view_is c.in-While.is)

pub statement-returns-in_ok-tested-in-While : goal.statement-returns-in_ok-tested-in-While
statement-returns-in_ok-tested-in-While t c =
    let tokens = tokens_of c.args.p.now in
    c.comes_back.ensures
    ∙ guarded_ok tokens c.in-While.c (block_of c.in-While.body) c.args.full
    (comes_back c.s.inside.end c.args.full) c.in_ok-tested-in-While.tested c.in_ok-tested-in-While.after
    (c.in_ok-tested-in-While.ensures
    ∙ ap (λ l. guarded_walk tokens c.in-While.c (block_of l) c.args.full) c.as_slice-in-While.ensures)
    ∙ kind_walk tokens c.args.full c.s.inside.at c.s.inside.end c.s.view_is c.in-While.is

pub statement-returns-in_ok-full-in-Return : goal.statement-returns-in_ok-full-in-Return
statement-returns-in_ok-full-in-Return t c =
    let tokens = tokens_of c.args.p.now in
    let seen = c.let_go.ensures
    ∙ ap (λ w. walk_on w (let_go c.s.inside.end)) c.in_ok-full-in-Return.ensures in
    elim c.in-Return.is [
      | inl is ↦ seen ∙ kind_walk tokens c.args.full c.s.inside.at c.s.inside.end c.s.view_is is
      | inr is ↦ seen ∙ kind_walk tokens c.args.full c.s.inside.at c.s.inside.end c.s.view_is is
    ]

pub statement-returns-in_err-full-in-Return : goal.statement-returns-in_err-full-in-Return
statement-returns-in_err-full-in-Return t c =
    let tokens = tokens_of c.args.p.now in
    let p = err_from_is_err_and c.from_residual-in_err-full-in-Return.result
    c.from_residual-in_err-full-in-Return.ensures.1 in
    let seen = ap (λ w. walk_on w (let_go c.s.inside.end)) c.in_err-full-in-Return.ensures in
    elim c.in-Return.is [
      | inl is ↦ rw (p.1, p.2) (seen
          ∙ kind_walk tokens c.args.full c.s.inside.at c.s.inside.end c.s.view_is is)
      | inr is ↦ rw (p.1, p.2) (seen
          ∙ kind_walk tokens c.args.full c.s.inside.at c.s.inside.end c.s.view_is is)
    ]

pub statement-returns-in-Make : goal.statement-returns-in-Make
statement-returns-in-Make t c =
    let tokens = tokens_of c.args.p.now in
    c.goes_on-in-Make.ensures
    ∙ ap (to_after tokens) (c.filled.ensures
    ∙ ap (λ place. filled place c.in-Make.x.at c.args.full) c.token_at.ensures)
    ∙ kind_walk tokens c.args.full c.s.inside.at c.s.inside.end c.s.view_is c.in-Make.is

pub statement-returns-in-Spend : goal.statement-returns-in-Spend
statement-returns-in-Spend t c =
    let tokens = tokens_of c.args.p.now in
    c.goes_on-in-Spend.ensures
    ∙ ap (to_after tokens) (c.emptied.ensures
    ∙ ap (λ place. emptied place c.in-Spend.x.at c.args.full) c.token_at-in-Spend.ensures)
    ∙ kind_walk tokens c.args.full c.s.inside.at c.s.inside.end c.s.view_is c.in-Spend.is
