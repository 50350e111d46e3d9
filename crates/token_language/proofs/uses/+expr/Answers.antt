use Rattle.std.proofs.Common.{◌+◌, ◌≤◌, sym, ◌∙◌, ap, subst, arith, ◌∷◌, drop}
use Rattle.proc_language.proofs.Offers.{drop_item}
use Rattle.proc_names.specs.Faults.{first, earlier}
use Rattle.proc_names.proofs.Offers.{earlier_assoc}
use Rattle.token_language.specs.Tree.{size_of_args}
use Rattle.token_language.specs.View.{args_of}
use Rattle.token_language.proofs.Sizes.{rest_le}
use Rattle.token_language.specs.TokenFaults.{args_faults}
use Rattle.token_language.proofs.uses.+expr.Goals as goal

pub args_fault-loop-arg-preserved : goal.args_fault-loop-arg-preserved
args_fault-loop-arg-preserved t c =
    let i = c.loop-arg.arg-index in
    let m = c.args.m.now in
    let p = c.args.p.now in
    let args = c.args.args.now in
    let arg = c.arg-item.result in
    let rest = drop (i + 1) args in
    let found = c.loop-arg.found in
    let next = drop_item args i arg c.loop-arg-test.true c.arg-item.is in
    record {
      told =
          ap (λ f. earlier f (first (args_faults m p (args_of rest)))) c.earlier-found.ensures
          ∙ earlier_assoc found c.arg_fault.result (first (args_faults m p (args_of rest)))
          ∙ ap (earlier found) (c.arg_fault.ensures rest)
          ∙ ap (λ l. earlier found (first (args_faults m p (args_of l)))) (sym next)
          ∙ c.loop-arg.invariant.told;
      smaller =
          let whole = size_of_args (args_of args) in
          let h : size_of_args (args_of (arg ∷ rest)) ≤ whole =
          subst (λ l. size_of_args (args_of l) ≤ whole) next c.loop-arg.invariant.smaller in
          omega (arith, h, rest_le arg rest);
    }
