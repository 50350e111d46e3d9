use Rattle.std.proofs.Common.{◌≤◌, ◌+◌, refl, subst, arith, ◌∷◌, ◌++◌, drop, sym, ap, ◌∙◌}
use Rattle.proc_language.specs.Tree.{block_size}
use Rattle.proc_language.specs.View.{args_of}
use Rattle.proc_language.specs.StmtView.{block_of, stmt_at}
use Rattle.proc_names.specs.Faults.{first}
use Rattle.proc_names.specs.Names.{variable_named}
use Rattle.proc_names.specs.NameFaults.{plain_faults, array_faults, call_faults, expr_faults, args_faults}
use Rattle.proc_names.specs.NameFaults.{stmt_faults, block_faults}
use Rattle.proc_language.proofs.Offers.{drop_item}
use Rattle.proc_names.proofs.FirstLemmas.{found_both, found_as}
use Rattle.proc_names.proofs.ItemFaults.{item_found}
use Rattle.proc_names.proofs.uses.+stmt.Goals as goal

pub stmt_fault-returns-in-Set : goal.stmt_fault-returns-in-Set
stmt_fault-returns-in-Set t c =
    let m = c.args.m.now in let p = c.args.p.now in let x = c.in-Set.x in
    found_as (found_both (plain_faults x (variable_named m p x)) (expr_faults m p c.in-Set.e)
    c.earlier.ensures
    (c.plain_fault.ensures ∙ ap (λ v. first (plain_faults x v)) c.variable_named.ensures)
    c.expr_fault.ensures)
    (ap (stmt_faults m p) (sym (sym c.s.view_is ∙ ap (stmt_at c.s.inside.at) c.in-Set.is)))

pub stmt_fault-returns-in-SetAt : goal.stmt_fault-returns-in-SetAt
stmt_fault-returns-in-SetAt t c =
    let m = c.args.m.now in let p = c.args.p.now in let x = c.in-SetAt.x in
    let index = expr_faults m p c.in-SetAt.index in let value = expr_faults m p c.in-SetAt.e in
    found_as (found_both (array_faults x (variable_named m p x)) (index ++ value) c.earlier-in-SetAt-2.ensures
    (c.array_fault.ensures ∙ ap (λ v. first (array_faults x v)) c.variable_named-in-SetAt.ensures)
    (found_both index value c.earlier-in-SetAt.ensures c.expr_fault-in-SetAt.ensures
    c.expr_fault-in-SetAt-2.ensures))
    (ap (stmt_faults m p) (sym (sym c.s.view_is ∙ ap (stmt_at c.s.inside.at) c.in-SetAt.is)))

pub stmt_fault-returns-in-Call : goal.stmt_fault-returns-in-Call
stmt_fault-returns-in-Call t c =
    let m = c.args.m.now in let p = c.args.p.now in let call = c.in-Call.call in
    found_as (found_both (call_faults m p call.name (args_of call.args)) (args_faults m p (args_of call.args))
    c.earlier-in-Call.ensures c.call_fault.ensures
    (c.args_fault.ensures ∙ ap (λ xs. first (args_faults m p (args_of xs))) c.as_slice.ensures))
    (ap (stmt_faults m p) (sym (sym c.s.view_is ∙ ap (stmt_at c.s.inside.at) c.in-Call.is)))

pub block_fault-loop-s-preserved : goal.block_fault-loop-s-preserved
block_fault-loop-s-preserved t c =
    let i = c.loop-s.s-index in
    let m = c.args.m.now in
    let p = c.args.p.now in
    let s = c.s-item.result in
    let stmts = c.args.stmts.now in
    record {
      told = item_found (λ ss. block_faults m p (block_of ss)) (stmt_faults m p s) stmts i s
          c.loop-s.found c.loop-s-test.true c.s-item.is refl c.earlier-found.ensures c.stmt_fault.ensures
          c.loop-s.invariant.told;
      smaller =
          let whole = block_size (block_of stmts) in
          let next = drop_item stmts i s c.loop-s-test.true c.s-item.is in
          let h : block_size (block_of (s ∷ drop (i + 1) stmts)) ≤ whole =
          subst (λ ss. block_size (block_of ss) ≤ whole) next c.loop-s.invariant.smaller in
          omega (arith, h);
    }
