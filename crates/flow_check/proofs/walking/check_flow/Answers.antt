use Rattle.std.proofs.Common.{◌≡◌, rules, Err, sym, subst}
use Rattle.call_sequence.specs.Verdict.{IsFirstOfFlow}
use Rattle.call_sequence.proofs.Offers.{flow_is, lists_broken, lists_kept, walk_decides}
use Rattle.flow_check.proofs.walking.check_flow.Goals as goal

pub returns-in_err-check_lists-clause-first : goal.returns-in_err-check_lists-clause-first
returns-in_err-check_lists-clause-first c =
    let e : c.from_residual.result ≡ Err c.in_err-check_lists.field-0.0 = search rules in
    subst (IsFirstOfFlow c.args.c.now) (sym e)
    (lists_broken c.args.c.now c.check_lists.result c.in_err-check_lists.field-0.0 c.check_lists.ensures
    c.in_err-check_lists.was)

pub returns-in_err-check_lists-clause-is : goal.returns-in_err-check_lists-clause-is
returns-in_err-check_lists-clause-is c =
    flow_is c.args.c.now c.from_residual.result (returns-in_err-check_lists-clause-first c)

pub returns-clause-first : goal.returns-clause-first
returns-clause-first c =
    walk_decides c.args.c.now c.check_walk.result
    (lists_kept c.args.c.now c.check_lists.result c.in_ok-check_lists.field-0 c.check_lists.ensures
    c.in_ok-check_lists.was) (rw c.fields.ensures.same at c.check_walk.ensures)

pub returns-clause-is : goal.returns-clause-is
returns-clause-is c = flow_is c.args.c.now c.check_walk.result (returns-clause-first c)
