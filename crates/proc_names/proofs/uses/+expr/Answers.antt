use Rattle.std.proofs.Common.{sym, ap, ◌∙◌}
use Rattle.proc_language.specs.View.{args_of, expr_at}
use Rattle.proc_names.specs.Faults.{first}
use Rattle.proc_names.specs.Names.{variable_named}
use Rattle.proc_names.specs.NameFaults.{array_faults, call_faults, expr_faults, args_faults}
use Rattle.proc_names.proofs.FirstLemmas.{found_both, found_as}
use Rattle.proc_names.proofs.uses.+expr.Goals as goal

pub expr_fault-returns-in-Element : goal.expr_fault-returns-in-Element
expr_fault-returns-in-Element t c =
    let m = c.args.m.now in let p = c.args.p.now in let x = c.in-Element.x in
    found_as (found_both (array_faults x (variable_named m p x)) (expr_faults m p c.in-Element.index.value)
    c.earlier.ensures
    (c.array_fault.ensures ∙ ap (λ v. first (array_faults x v)) c.variable_named-in-Element.ensures)
    (c.expr_fault.ensures ∙ ap (λ e. first (expr_faults m p e)) c.deref.ensures))
    (ap (expr_faults m p) (sym (sym c.e.view_is ∙ ap (expr_at c.e.inside.at) c.in-Element.is)))

pub expr_fault-returns-in-Call : goal.expr_fault-returns-in-Call
expr_fault-returns-in-Call t c =
    let m = c.args.m.now in let p = c.args.p.now in let call = c.in-Call.call in
    found_as (found_both (call_faults m p call.name (args_of call.args)) (args_faults m p (args_of call.args))
    c.earlier-in-Call.ensures c.call_fault.ensures
    (c.args_fault.ensures ∙ ap (λ xs. first (args_faults m p (args_of xs))) c.as_slice.ensures))
    (ap (expr_faults m p) (sym (sym c.e.view_is ∙ ap (expr_at c.e.inside.at) c.in-Call.is)))

pub expr_fault-returns-in-Op : goal.expr_fault-returns-in-Op
expr_fault-returns-in-Op t c =
    let m = c.args.m.now in let p = c.args.p.now in
    found_as (found_both (expr_faults m p c.in-Op.left.value) (expr_faults m p c.in-Op.right.value)
    c.earlier-in-Op.ensures
    (c.expr_fault-in-Op.ensures ∙ ap (λ e. first (expr_faults m p e)) c.deref-in-Op.ensures)
    (c.expr_fault-in-Op-2.ensures ∙ ap (λ e. first (expr_faults m p e)) c.deref-in-Op-2.ensures))
    (ap (expr_faults m p) (sym (sym c.e.view_is ∙ ap (expr_at c.e.inside.at) c.in-Op.is)))
