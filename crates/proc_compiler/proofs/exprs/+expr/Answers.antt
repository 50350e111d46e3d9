use Rattle.std.proofs.Common.{List, sym, subst, arith}
use Rattle.std.proofs.lemmas.List.{nil_from_length}
use Rattle.std.proofs.lemmas.Result.{on_ok_weaker}
use Rattle.proc_program.specs.declared.program.ArgExp.{ArgExp}
use Rattle.proc_program.specs.View.{args_of}
use Rattle.proc_program.specs.Calls.{args_calls}
use Rattle.proc_templates.specs.Templates.{args_code}
use Rattle.proc_templates.specs.Sums.{values_words}
use Rattle.proc_compiler.specs.Drafts.{Emits}
use Rattle.proc_compiler.proofs.Emitted.{nothing, then, counted}
use Rattle.proc_compiler.proofs.exprs.+expr.Goals as goal

pub values-returns-in-None : goal.values-returns-in-None
values-returns-in-None t c =
    let d = c.args.draft.now in
    let f = c.args.f in
    subst (λ (args : List ArgExp). Emits (args_code f c.args.slot c.args.from (args_of args))
    (values_words (args_of args)) (args_calls (args_of args)) d d)
    (sym (nil_from_length c.args.args.now c.in-None.ensures.cases)) (nothing d)

pub element-returns : goal.element-returns
element-returns t c =
    on_ok_weaker c.put.result
    (λ h. counted (omega arith) (omega arith)
    (then c.in_ok-expr.ensures (then c.in_ok-at_element.ensures h)))
    c.put.ensures
