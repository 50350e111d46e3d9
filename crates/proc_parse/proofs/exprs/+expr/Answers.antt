use Rattle.std.proofs.Common.{◌≡◌, ◌∙◌, ◌<◌, refl, sym, ap, subst, arith, true, Ok, Err, length, ◌+◌, ◌-◌}
use Rattle.std.proofs.Common.{[], ◌∷◌, length-append}
use Rattle.std.specs.Prelude.{ℕ, codes, not}
use Rattle.proc_grammar.specs.Makes.{TokenActions}
use Rattle.std.proofs.lemmas.Result.{err_from_is_err_and}
use Rattle.proc_grammar.specs.Fault.{Fails}
use Rattle.proc_grammar.specs.Grammar.{behind_arg}
use Rattle.proc_grammar.specs.Lexemes.{sign, comma, word}
use Rattle.proc_grammar.specs.Reading.{full, inner_expr, expr_with, another_arg, next_arg}
use Rattle.proc_grammar.specs.Reading.{token_arg, plain_arg, arg_proc}
use Rattle.proc_grammar.specs.Reading.{arg_value, some_args}
use Rattle.proc_parse.specs.Answers.{GivesAs}
use Rattle.proc_parse.specs.Loops.{terms_behind}
use Rattle.proc_parse.proofs.Steps.{stored_few, sum_begin, terms_end, terms_step}
use Rattle.proc_parse.proofs.Steps.{terms_fault, value_bad, value_read}
use Rattle.proc_parse.proofs.Steps.{bracketed_bad, bracketed_open, bracketed_shut, unfit}
use Rattle.proc_parse.proofs.Steps.{name_index, name_call}
use Rattle.proc_parse.proofs.Steps.{name_index_bad, name_call_bad, name_var, unless_refused}
use Rattle.proc_parse.proofs.Steps.{of_token, of_none}
use Rattle.proc_parse.proofs.Steps.{case_there, case_none, args_some, some_begin}
use Rattle.proc_parse.proofs.Steps.{some_step, some_fault}
use Rattle.proc_parse.proofs.Steps.{listed_fault, listed_open, listed_shut, was_taken}
use Rattle.proc_parse.proofs.Steps.{fails_on}
use Rattle.proc_parse.proofs.Parts.{right_bad, compared}
use Rattle.proc_parse.proofs.exprs.+expr.Goals as goal

pub expr-returns-in_err-left-clause-exact : goal.expr-returns-in_err-left-clause-exact
unfolding expr_with
expr-returns-in_err-left-clause-exact g n c =
    let p = err_from_is_err_and c.from_residual.result c.from_residual.ensures.1 in
    rw (p.1, p.2) (fails_on _ _ _ refl c.in_err-left.ensures.exact)

pub expr-returns-in_err-right-clause-exact : goal.expr-returns-in_err-right-clause-exact
expr-returns-in_err-right-clause-exact g n c =
    let p = err_from_is_err_and c.from_residual-in_err-right.result c.from_residual-in_err-right.ensures.1 in
    rw (p.1, p.2) (right_bad g.L.Language.made c.args.room c.args.fits c.args.tokens.now c.sum.new.tokens
    c.take_comparing.new.self c.in_ok-left.left c.in_ok-left.ensures.exact
    c.in-Some.op (sym c.in-Some.ensures.value) c.in-Some.ensures.left c.in_err-right.field-0.0
    c.in_err-right.ensures.exact)

pub expr-returns-clause-exact : goal.expr-returns-clause-exact
expr-returns-clause-exact g n c =
    unless_refused c.operation.result _ c.sum-2.new.tokens _ c.operation.ensures.ok c.operation.ensures.fails
    (compared g.L.Language.made c.args.room c.args.fits c.args.tokens.now c.sum.new.tokens
    c.take_comparing.new.self c.in_ok-left.left c.in_ok-left.ensures.exact c.in-Some.op
    (sym c.in-Some.ensures.value) c.in-Some.ensures.left c.in_ok-right.right c.sum-2.new.tokens
    c.in_ok-right.ensures.exact)

pub sum-returns-in-None-clause-exact : goal.sum-returns-in-None-clause-exact
sum-returns-in-None-clause-exact g n c =
    let start : full ≡ full + 1 - 1 = omega arith in
    sum_begin g.L.Language.made c.args.room c.args.fits c.args.tokens.now c.term.new.tokens c.in_ok-sum.sum
    c.in_ok-sum.ensures.exact
    ∙ ap (λ m. terms_behind g.L.Language.made c.args.room m 1 c.in_ok-sum.sum c.term.new.tokens) start
    ∙ sym c.loop-sum.invariant.told
    ∙ terms_end g.L.Language.made c.args.room _ c.loop-sum.count c.loop-sum.sum c.loop-sum.tokens
    (sym c.in-None.ensures.value)
    ∙ ap (λ i. Ok (c.loop-sum.sum, i)) (sym c.in-None.ensures.left)

pub sum-returns-in_err-right-in-Some-clause-exact : goal.sum-returns-in_err-right-in-Some-clause-exact
sum-returns-in_err-right-in-Some-clause-exact g n c =
    let p = err_from_is_err_and c.from_residual-in_err-right-in-Some.result
    c.from_residual-in_err-right-in-Some.ensures.1 in
    let start : full ≡ full + 1 - 1 = omega arith in
    rw (p.1, p.2) (subst (Fails c.in_err-right-in-Some.field-0.0) (sym (sum_begin g.L.Language.made
    c.args.room
    c.args.fits c.args.tokens.now c.term.new.tokens c.in_ok-sum.sum c.in_ok-sum.ensures.exact))
    (terms_fault g.L.Language.made c.args.room c.loop-sum.count c.loop-sum.sum c.loop-sum.tokens
    c.take_adding.new.self c.in-Some.op c.in_err-right-in-Some.field-0.0
    (terms_behind g.L.Language.made c.args.room full 1 c.in_ok-sum.sum c.term.new.tokens)
    (c.loop-sum.invariant.told ∙ ap (λ m. terms_behind g.L.Language.made c.args.room m 1 c.in_ok-sum.sum
    c.term.new.tokens) (sym start))
    c.loop-sum.invariant.some c.loop-sum.invariant.few (sym c.in-Some.ensures.value) c.in-Some.ensures.left
    c.in_err-right-in-Some.ensures.exact))

pub sum-loop-sum-preserved : goal.sum-loop-sum-preserved
sum-loop-sum-preserved g n c = record {
  told = ap (λ e. terms_behind g.L.Language.made c.args.room (full + 1 - (c.loop-sum.count + 1))
      (c.loop-sum.count + 1) e c.term-in-Some.new.tokens) c.in_ok-sum-in-Some.ensures.ok
      ∙ terms_step g.L.Language.made c.args.room c.loop-sum.count c.loop-sum.sum c.loop-sum.tokens
      c.take_adding.new.self
      c.in-Some.op c.in_ok-right-in-Some.right c.term-in-Some.new.tokens _
      c.loop-sum.invariant.told c.loop-sum.invariant.some c.loop-sum.invariant.few
      (sym c.in-Some.ensures.value) c.in-Some.ensures.left c.in_ok-right-in-Some.ensures.exact;
  some = omega arith;
  few = grind (arith, c.in_ok-right-in-Some.ensures.within);
}

pub bracketed-returns-in_err-e-clause-exact : goal.bracketed-returns-in_err-e-clause-exact
bracketed-returns-in_err-e-clause-exact g n c =
    let p = err_from_is_err_and c.from_residual.result c.from_residual.ensures.1 in
    let fit : c.args.fits ≡ true = grind (arith, c.if-not-fits.false) in
    let lt : 0 < c.args.room = grind (arith, c.if-room-eq0.false) in
    rw (p.1, p.2) (bracketed_bad g.L.Language.made c.args.room c.args.fits c.args.end c.args.at
    c.args.tokens.now fit lt
    c.in_err-e.field-0.0 c.in_err-e.ensures.exact)

pub bracketed-returns-in_err-sign-clause-exact : goal.bracketed-returns-in_err-sign-clause-exact
bracketed-returns-in_err-sign-clause-exact g n c =
    let p = err_from_is_err_and c.from_residual-in_err-sign.result c.from_residual-in_err-sign.ensures.1 in
    let fit : c.args.fits ≡ true = grind (arith, c.if-not-fits.false) in
    let lt : 0 < c.args.room = grind (arith, c.if-room-eq0.false) in
    rw (p.1, p.2) (bracketed_open g.L.Language.made c.args.room c.args.fits c.args.end c.args.at
    c.args.tokens.now fit lt
    c.in_ok-e.e c.expr.new.tokens c.in_err-sign.field-0.0 c.in_ok-e.ensures.exact c.in_err-sign.ensures)

pub bracketed-returns-clause-exact : goal.bracketed-returns-clause-exact
bracketed-returns-clause-exact g n c =
    let fit : c.args.fits ≡ true = grind (arith, c.if-not-fits.false) in
    let lt : 0 < c.args.room = grind (arith, c.if-room-eq0.false) in
    bracketed_shut g.L.Language.made c.args.room c.args.fits c.args.end c.args.at c.args.tokens.now fit lt
    c.in_ok-e.e c.expr.new.tokens c.sign.new.self _ c.in_ok-e.ensures.exact c.in_ok-sign.ensures

pub name_term-returns-in_err-name-clause-exact : goal.name_term-returns-in_err-name-clause-exact
name_term-returns-in_err-name-clause-exact g n c =
    let p = err_from_is_err_and c.from_residual.result c.from_residual.ensures.1 in
    rw (p.1, p.2) (unfit g.L.Language.made c.args.room c.args.fits c.args.tokens.now c.in_err-name.field-0.0
    c.in_err-name.ensures.exact)

pub name_term-returns-in_err-index-clause-exact : goal.name_term-returns-in_err-index-clause-exact
name_term-returns-in_err-index-clause-exact g n c =
    let p = err_from_is_err_and c.from_residual-in_err-index.result c.from_residual-in_err-index.ensures.1 in
    rw (p.1, p.2) (name_index_bad g.L.Language.made c.args.room c.args.fits c.in_ok-name.name
    c.args.tokens.now
    c.fitting_name.new.self c.in_ok-name.ensures.exact c.take_sign.new.self c.in-Some.at (sym
    c.in-Some.ensures.value) c.in-Some.ensures.left
    c.in_err-index.field-0.0 c.in_err-index.ensures.exact)

pub name_term-returns-in-Some-clause-exact : goal.name_term-returns-in-Some-clause-exact
name_term-returns-in-Some-clause-exact g n c =
    unless_refused c.element.result (g.L.Language.made.element c.in_ok-name.name.at c.in_ok-name.name
    c.in_ok-index.index)
    c.bracketed.new.tokens _ c.element.ensures.ok c.element.ensures.fails
    (name_index g.L.Language.made c.args.room c.args.fits c.in_ok-name.name c.args.tokens.now
    c.fitting_name.new.self c.in_ok-name.ensures.exact
    c.take_sign.new.self c.in-Some.at (sym c.in-Some.ensures.value) c.in-Some.ensures.left
    c.bracketed.new.tokens c.in_ok-index.index c.in_ok-index.ensures.exact)

pub name_term-returns-in_err-args-clause-exact : goal.name_term-returns-in_err-args-clause-exact
name_term-returns-in_err-args-clause-exact g n c =
    let p = err_from_is_err_and c.from_residual-in_err-args.result c.from_residual-in_err-args.ensures.1 in
    rw (p.1, p.2) (name_call_bad g.L.Language.made c.args.room c.args.fits c.in_ok-name.name c.args.tokens.now
    c.fitting_name.new.self c.in_ok-name.ensures.exact c.take_sign.new.self (sym
    c.in_default.ensures.value) c.in_default.ensures.left c.take_sign-2.new.self
    c.in-Some-take_sign.at (sym c.in-Some-take_sign.ensures.value) c.in-Some-take_sign.ensures.left
    c.in_err-args.field-0.0 c.in_err-args.ensures)

pub name_term-returns-in-Some-take_sign-clause-exact : goal.name_term-returns-in-Some-take_sign-clause-exact
name_term-returns-in-Some-take_sign-clause-exact g n c =
    name_call g.L.Language.made c.args.room c.args.fits c.in_ok-name.name c.args.tokens.now
    c.fitting_name.new.self c.in_ok-name.ensures.exact
    c.take_sign.new.self (sym c.in_default.ensures.value) c.in_default.ensures.left c.take_sign-2.new.self
    c.in-Some-take_sign.at (sym c.in-Some-take_sign.ensures.value) c.in-Some-take_sign.ensures.left
    c.args-in-Some-take_sign.new.tokens c.in_ok-args.field-0.items c.of-args.result c.call_of.result
    c.in_ok-args.ensures c.of-args.ensures c.call_of.ensures

pub name_term-returns-clause-exact : goal.name_term-returns-clause-exact
name_term-returns-clause-exact g n c =
    name_var g.L.Language.made c.args.room c.args.fits c.in_ok-name.name c.args.tokens.now
    c.fitting_name.new.self c.in_ok-name.ensures.exact
    c.take_sign.new.self (sym c.in_default.ensures.value) c.in_default.ensures.left c.take_sign-2.new.self
    c.var_of.result (sym c.in_default-take_sign.ensures.value) c.in_default-take_sign.ensures.left
    c.var_of.ensures

pub args-loop-args-init : goal.args-loop-args-init
args-loop-args-init g n c =
    let inner = inner_expr g.L.Language.made true full c.args.room in
    let another = another_arg g.L.Language.made true full c.args.room inner in
    let item = next_arg g.L.Language.made true full c.args.room inner in
    record {
      told = some_begin (sign comma) (behind_arg g.L.Language.made) another item c.new-args.result.items 0 0
          c.take_sign.new.self c.new-args.ensures.items refl;
      few = omega arith;
    }

pub args-returns-in_err-next : goal.args-returns-in_err-next
unfolding some_args
args-returns-in_err-next g n c =
    let p = err_from_is_err_and c.from_residual.result c.from_residual.ensures.1 in
    let inner = inner_expr g.L.Language.made true full c.args.room in
    let another = another_arg g.L.Language.made true full c.args.room inner in
    let item = next_arg g.L.Language.made true full c.args.room inner in
    let lt : 0 < c.args.room = grind (arith, c.if-room-eq0.false) in
    let begun = args_some g.L.Language.made c.args.room c.args.at c.args.tokens.now c.take_sign.new.self
    c.take_sign.result lt c.take_sign.ensures.value (sym c.is_some.ensures ∙ c.if-is_some.false)
    c.take_sign.ensures.left in
    rw (p.1, p.2) (subst (Fails c.in_err-next.field-0.0) (sym begun) (listed_fault (sign comma) (behind_arg
    g.L.Language.made) another item 0
    c.take_sign.new.self c.in_err-next.field-0.0 (some_fault (sign comma) (behind_arg g.L.Language.made)
    another item
    c.loop-args.args.items c.loop-args.used c.loop-args.tokens c.in_err-next.field-0.0 _
    c.loop-args.invariant.told c.in_err-next.ensures.exact)))

pub args-loop-args-smaller : goal.args-loop-args-smaller
args-loop-args-smaller g n c =
    let len = ap length c.in_ok-push.ensures.items ∙ length-append c.loop-args.args.items
    (c.in_ok-next.next ∷ []) in
    let few = stored_few c.loop-args.args.ok c.loop-args.args.small in
    omega (arith, len, few)

pub args-loop-args-preserved : goal.args-loop-args-preserved
unfolding another_arg
args-loop-args-preserved g n c =
    let inner = inner_expr g.L.Language.made true full c.args.room in
    let another = another_arg g.L.Language.made true full c.args.room inner in
    let item = next_arg g.L.Language.made true full c.args.room inner in
    let few = stored_few c.loop-args.args.ok c.loop-args.args.small in
    let takes = c.registers_of-used.ensures in
    let there = was_taken (sign comma) c.arg.new.tokens c.take_sign-in-loop-args.new.self
    c.take_sign-in-loop-args.result c.take_sign-in-loop-args.ensures.value
    (c.is_none.ensures ∙ ap not c.if-is_none.false) c.take_sign-in-loop-args.ensures.left in
    record {
      told = some_step (sign comma) (behind_arg g.L.Language.made) another item c.loop-args.args.items
          c.loop-args.used c.loop-args.tokens c.in_ok-next.next c.arg.new.tokens
          c.take_sign-in-loop-args.new.self _ c.push.new.self.items
          (c.loop-args.used + c.registers_of-used.result) c.loop-args.invariant.told few
          c.in_ok-next.ensures.exact there.0 (λ u. there.1 (item u)) c.in_ok-push.ensures.items
          (omega (arith, takes));
      few = omega (arith, takes, c.in_ok-next.ensures.few);
    }

pub args-returns-in_err-sign : goal.args-returns-in_err-sign
unfolding some_args
args-returns-in_err-sign g n c =
    let p = err_from_is_err_and c.from_residual-in_err-sign.result c.from_residual-in_err-sign.ensures.1 in
    let inner = inner_expr g.L.Language.made true full c.args.room in
    let another = another_arg g.L.Language.made true full c.args.room inner in
    let item = next_arg g.L.Language.made true full c.args.room inner in
    let lt : 0 < c.args.room = grind (arith, c.if-room-eq0.false) in
    let begun = args_some g.L.Language.made c.args.room c.args.at c.args.tokens.now c.take_sign.new.self
    c.take_sign.result lt c.take_sign.ensures.value (sym c.is_some.ensures ∙ c.if-is_some.false)
    c.take_sign.ensures.left in
    rw (p.1, p.2) (subst (Fails c.in_err-sign.field-0.0) (sym begun) (listed_open (sign comma)
    (behind_arg g.L.Language.made) another item 0 c.take_sign.new.self
    c.loop-args.args.items c.loop-args.used c.loop-args.tokens c.in_ok-next.next c.arg.new.tokens
    c.take_sign-in-loop-args.new.self c.take_sign-in-loop-args.result c.push.new.self.items
    c.loop-args.invariant.told c.in_ok-next.ensures.exact c.take_sign-in-loop-args.ensures.value
    (c.is_none.ensures ∙ ap not c.if-is_none.true) c.take_sign-in-loop-args.ensures.left
    c.in_ok-push.ensures.items c.in_err-sign.field-0.0 c.in_err-sign.ensures))

pub args-returns-then-is_none : goal.args-returns-then-is_none
unfolding some_args
args-returns-then-is_none g n c =
    let inner = inner_expr g.L.Language.made true full c.args.room in
    let another = another_arg g.L.Language.made true full c.args.room inner in
    let item = next_arg g.L.Language.made true full c.args.room inner in
    let lt : 0 < c.args.room = grind (arith, c.if-room-eq0.false) in
    let begun = args_some g.L.Language.made c.args.room c.args.at c.args.tokens.now c.take_sign.new.self
    c.take_sign.result lt c.take_sign.ensures.value (sym c.is_some.ensures ∙ c.if-is_some.false)
    c.take_sign.ensures.left in
    begun ∙ listed_shut (sign comma) (behind_arg g.L.Language.made) another item 0 c.take_sign.new.self
    c.loop-args.args.items c.loop-args.used c.loop-args.tokens c.in_ok-next.next c.arg.new.tokens
    c.take_sign-in-loop-args.new.self c.take_sign-in-loop-args.result c.push.new.self.items
    c.loop-args.invariant.told c.in_ok-next.ensures.exact c.take_sign-in-loop-args.ensures.value
    (c.is_none.ensures ∙ ap not c.if-is_none.true) c.take_sign-in-loop-args.ensures.left
    c.in_ok-push.ensures.items c.sign.new.self _ c.in_ok-sign.ensures

pub arg-returns-in-Some-clause-exact : goal.arg-returns-in-Some-clause-exact
unfolding next_arg
arg-returns-in-Some-clause-exact g n c =
    let inner = inner_expr g.L.Language.made true full c.args.room in
    let plain = plain_arg g.L.Language.made true full c.args.room inner c.args.used in
    let token = λ (k : TokenActions _ _ _ _) (at : ℕ). token_arg g.L.Language.made true full k in
    of_token (codes "token") token plain c.args.tokens.now (λ x. x) c.token_arg.result c.token_arg.new.tokens
    g.L.Language.made.tokens _ c.take_token_word.new.self (sym c.in-Some.ensures.value) c.in-Some.ensures.left
    c.token_arg.ensures.exact

pub arg-returns-in-Some-take_word-clause-exact : goal.arg-returns-in-Some-take_word-clause-exact
unfolding next_arg plain_arg arg_proc
arg-returns-in-Some-take_word-clause-exact g n c =
    let inner = inner_expr g.L.Language.made true full c.args.room in
    let values = arg_value g.L.Language.made true full c.args.room inner c.args.used in
    let procs = arg_proc g.L.Language.made true full c.args.room inner c.args.used in
    let plain = plain_arg g.L.Language.made true full c.args.room inner c.args.used in
    let token = λ (k : TokenActions _ _ _ _) (at : ℕ). token_arg g.L.Language.made true full k in
    of_none (codes "token") token plain c.args.tokens.now (λ x. x) c.proc_arg.result c.proc_arg.new.tokens
    g.L.Language.made.tokens c.take_token_word.new.self (sym c.in_default.ensures.value)
    c.in_default.ensures.left
    (subst (GivesAs (λ x. x) c.proc_arg.result c.proc_arg.new.tokens)
    (sym (case_there (word (codes "proc")) procs values c.take_token_word.new.self c.take_word.new.self
    c.in-Some-take_word.at (sym c.in-Some-take_word.ensures.value) c.in-Some-take_word.ensures.left))
    c.proc_arg.ensures.exact)

pub arg-returns-in_err-e-clause-exact : goal.arg-returns-in_err-e-clause-exact
unfolding next_arg plain_arg
arg-returns-in_err-e-clause-exact g n c =
    let p = err_from_is_err_and c.from_residual.result c.from_residual.ensures.1 in
    let inner = inner_expr g.L.Language.made true full c.args.room in
    let values = arg_value g.L.Language.made true full c.args.room inner c.args.used in
    let procs = arg_proc g.L.Language.made true full c.args.room inner c.args.used in
    let plain = plain_arg g.L.Language.made true full c.args.room inner c.args.used in
    let token = λ (k : TokenActions _ _ _ _) (at : ℕ). token_arg g.L.Language.made true full k in
    rw (p.1, p.2) (of_none (codes "token") token plain c.args.tokens.now (λ x. x) (Err c.in_err-e.field-0.0)
    c.expr.new.tokens
    g.L.Language.made.tokens c.take_token_word.new.self (sym c.in_default.ensures.value)
    c.in_default.ensures.left
    (subst (Fails c.in_err-e.field-0.0) (sym (case_none (word (codes "proc")) procs values
    c.take_token_word.new.self c.take_word.new.self
    (sym c.in_default-take_word.ensures.value) c.in_default-take_word.ensures.left))
    (value_bad g.L.Language.made c.args.room c.args.used c.take_word.new.self c.requires.room
    c.in_err-e.field-0.0 c.in_err-e.ensures.exact)))

pub arg-returns-clause-exact : goal.arg-returns-clause-exact
unfolding next_arg plain_arg
arg-returns-clause-exact g n c =
    let inner = inner_expr g.L.Language.made true full c.args.room in
    let values = arg_value g.L.Language.made true full c.args.room inner c.args.used in
    let procs = arg_proc g.L.Language.made true full c.args.room inner c.args.used in
    let plain = plain_arg g.L.Language.made true full c.args.room inner c.args.used in
    let token = λ (k : TokenActions _ _ _ _) (at : ℕ). token_arg g.L.Language.made true full k in
    of_none (codes "token") token plain c.args.tokens.now (λ x. x) (Ok c.value_of.result) c.expr.new.tokens
    g.L.Language.made.tokens c.take_token_word.new.self (sym c.in_default.ensures.value)
    c.in_default.ensures.left
    ((case_none (word (codes "proc")) procs values c.take_token_word.new.self c.take_word.new.self
    (sym c.in_default-take_word.ensures.value) c.in_default-take_word.ensures.left)
    ∙ value_read g.L.Language.made c.args.room c.args.used c.take_word.new.self c.requires.room c.in_ok-e.e
    c.expr.new.tokens c.in_ok-e.ensures.exact ∙ ap (λ a. Ok (a, c.expr.new.tokens))
    (sym c.value_of.ensures.is))
