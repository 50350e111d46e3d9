use Rattle.std.proofs.Common.{◌∙◌, ◌+◌, refl, sym, ap, subst, arith}
use Rattle.std.proofs.Common.{true, length, [], ◌∷◌, length-append}
use Rattle.std.specs.Prelude.{not, sum_by}
use Rattle.std.proofs.lemmas.List.Sums.{sum_by_push}
use Rattle.std.proofs.lemmas.Result.{err_from_is_err_and}
use Rattle.proc_language.specs.declared.TheConstants.{MOST_REGISTERS}
use Rattle.proc_grammar.specs.Grammar.{behind_param, none_taken, Taken}
use Rattle.proc_grammar.specs.Lexemes.{sign, comma}
use Rattle.proc_grammar.specs.Reading.{full, another_param, next_param, some_params}
use Rattle.proc_parse.specs.Answers.{AreFew}
use Rattle.proc_parse.proofs.Steps.{stored_few, some_begin, some_step, some_fault, was_taken}
use Rattle.proc_parse.proofs.Steps.{listed_fault, listed_open, listed_shut}
use Rattle.proc_parse.proofs.procs.some_params.Goals as goal

pub loop-params-init : goal.loop-params-init
loop-params-init g c = record {
  told = some_begin (sign comma) (behind_param g.L.Language.made) (another_param g.L.Language.made true full)
      (next_param g.L.Language.made true full) c.new-params.result.items none_taken none_taken
      c.args.tokens.now c.new-params.ensures.items refl;
  count = ap (sum_by g.L.Language.made.param_tokens) (sym c.new-params.ensures.items);
  few = (omega arith, omega arith);
}

pub returns-in_err-next-clause-exact : goal.returns-in_err-next-clause-exact
unfolding some_params
returns-in_err-next-clause-exact g c =
    let p = err_from_is_err_and c.from_residual.result c.from_residual.ensures.1 in
    let another = another_param g.L.Language.made true full in
    let item = next_param g.L.Language.made true full in
    rw (p.1, p.2) (listed_fault (sign comma) (behind_param g.L.Language.made) another item none_taken
    c.args.tokens.now c.in_err-next.field-0.0 (some_fault (sign comma) (behind_param g.L.Language.made)
    another
    item c.loop-params.params.items c.loop-params.used c.loop-params.tokens c.in_err-next.field-0.0 _
    c.loop-params.invariant.told c.in_err-next.ensures.exact))

pub loop-params-smaller : goal.loop-params-smaller
loop-params-smaller g c =
    let len = ap length c.in_ok-push.ensures.items ∙ length-append c.loop-params.params.items
    (c.in_ok-next.next ∷ []) in
    let few = stored_few c.loop-params.params.ok c.loop-params.params.small in
    omega (arith, len, few)

pub loop-params-preserved : goal.loop-params-preserved
unfolding another_param
loop-params-preserved g c =
    let item = next_param g.L.Language.made true full in
    let next = c.in_ok-next.next in
    let takes = c.behind_param-used.ensures in
    let few = stored_few c.loop-params.params.ok c.loop-params.params.small in
    let there = was_taken (sign comma) c.param.new.tokens c.take_sign.new.self c.take_sign.result
    c.take_sign.ensures.value (c.is_none.ensures ∙ ap not c.if-is_none.false) c.take_sign.ensures.left in
    record {
      told = some_step (sign comma) (behind_param g.L.Language.made)
          (another_param g.L.Language.made true full) item c.loop-params.params.items c.loop-params.used
          c.loop-params.tokens next c.param.new.tokens c.take_sign.new.self _ c.push.new.self.items _
          c.loop-params.invariant.told few c.in_ok-next.ensures.exact there.0 (λ u. there.1 (item u))
          c.in_ok-push.ensures.items takes;
      count = ap (λ (u : Taken). u.tokens) takes
          ∙ ap (λ n. n + g.L.Language.made.param_tokens next) c.loop-params.invariant.count
          ∙ sym (sum_by_push g.L.Language.made.param_tokens c.loop-params.params.items next)
          ∙ ap (sum_by g.L.Language.made.param_tokens) (sym c.in_ok-push.ensures.items);
      few = subst (AreFew MOST_REGISTERS) (sym takes) c.in_ok-next.ensures.few;
    }

pub returns-in_err-sign-clause-exact : goal.returns-in_err-sign-clause-exact
unfolding some_params
returns-in_err-sign-clause-exact g c =
    let p = err_from_is_err_and c.from_residual-in_err-sign.result c.from_residual-in_err-sign.ensures.1 in
    rw (p.1, p.2) (listed_open (sign comma) (behind_param g.L.Language.made)
    (another_param g.L.Language.made true full) (next_param g.L.Language.made true full) none_taken
    c.args.tokens.now c.loop-params.params.items c.loop-params.used c.loop-params.tokens c.in_ok-next.next
    c.param.new.tokens c.take_sign.new.self c.take_sign.result c.push.new.self.items
    c.loop-params.invariant.told c.in_ok-next.ensures.exact c.take_sign.ensures.value
    (c.is_none.ensures ∙ ap not c.if-is_none.true) c.take_sign.ensures.left c.in_ok-push.ensures.items
    c.in_err-sign.field-0.0 c.in_err-sign.ensures)

pub returns-then-is_none-clause-exact : goal.returns-then-is_none-clause-exact
unfolding some_params
returns-then-is_none-clause-exact g c = listed_shut (sign comma) (behind_param g.L.Language.made)
    (another_param g.L.Language.made true full) (next_param g.L.Language.made true full) none_taken
    c.args.tokens.now c.loop-params.params.items c.loop-params.used c.loop-params.tokens c.in_ok-next.next
    c.param.new.tokens c.take_sign.new.self c.take_sign.result c.push.new.self.items
    c.loop-params.invariant.told c.in_ok-next.ensures.exact c.take_sign.ensures.value
    (c.is_none.ensures ∙ ap not c.if-is_none.true) c.take_sign.ensures.left c.in_ok-push.ensures.items
    c.sign.new.self _ c.in_ok-sign.ensures

pub returns-then-is_none-clause-count : goal.returns-then-is_none-clause-count
returns-then-is_none-clause-count g c =
    let next = c.in_ok-next.next in
    ap (λ (u : Taken). u.tokens) c.behind_param-used.ensures
    ∙ ap (λ n. n + g.L.Language.made.param_tokens next) c.loop-params.invariant.count
    ∙ sym (sum_by_push g.L.Language.made.param_tokens c.loop-params.params.items next)
    ∙ ap (sum_by g.L.Language.made.param_tokens) (sym c.in_ok-push.ensures.items)

pub returns-then-is_none-clause-few : goal.returns-then-is_none-clause-few
returns-then-is_none-clause-few g c =
    let few = subst (AreFew MOST_REGISTERS) (sym c.behind_param-used.ensures) c.in_ok-next.ensures.few in
    few.1
