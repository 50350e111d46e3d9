use Rattle.std.proofs.Common.{◌+◌, ◌≤◌, sym, ◌∙◌, ap, subst, arith, length, ◌∷◌, drop}
use Rattle.std.proofs.lemmas.List.{drop_all}
use Rattle.proc_language.proofs.Offers.{drop_item}
use Rattle.token_language.specs.Tree.{size_of_args}
use Rattle.token_language.specs.View.{args_of as token_args_of}
use Rattle.token_language.specs.Erased.{erased_args}
use Rattle.token_language.proofs.Sizes.{rest_le}
use Rattle.token_language.specs.Fronts.{args_before, at_most_one}
use Rattle.token_language.proofs.FrontLemmas.{args_end, args-append}
use Rattle.token_language.proofs.exprs.+expr.Goals as goal

pub args-loop-arg-preserved : goal.args-loop-arg-preserved
args-loop-arg-preserved t c =
    let i = c.loop-arg.arg-index in
    let list = c.args.list.now in
    let arg = c.arg-item.result in
    let kept = c.loop-arg.kept.items in
    let next = drop_item list i arg c.loop-arg-test.true c.arg-item.is in
    let rest = erased_args (token_args_of (drop (i + 1) list)) in
    record {
      told =
          ap (λ args. args_before args rest) c.in_ok-add.ensures
          ∙ args-append kept (at_most_one c.in_ok-argument.field-0) rest
          ∙ ap (args_before kept) (c.in_ok-argument.ensures (drop (i + 1) list))
          ∙ ap (λ l. args_before kept (erased_args (token_args_of l))) (sym next)
          ∙ c.loop-arg.invariant.told;
      smaller =
          let whole = size_of_args (token_args_of list) in
          let h : size_of_args (token_args_of (arg ∷ drop (i + 1) list)) ≤ whole =
          subst (λ l. size_of_args (token_args_of l) ≤ whole) next c.loop-arg.invariant.smaller in
          omega (arith, h, rest_le arg (drop (i + 1) list));
    }

pub args-returns : goal.args-returns
args-returns t c =
    let i = c.loop-arg.arg-index in
    let list = c.args.list.now in
    let kept = c.loop-arg.kept.items in
    let over : length list ≤ i = omega arith in
    sym (args_end kept)
    ∙ ap (λ l. args_before kept (erased_args (token_args_of l))) (sym (drop_all i list over))
    ∙ c.loop-arg.invariant.told
