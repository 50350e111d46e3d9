use Rattle.std.proofs.Common.{rules, ◌≡◌, [], ◌∷◌, ◌++◌, sym, ap, ap₂, ◌∙◌, reverse, w64, to_z, of_z}
use Rattle.std.proofs.Common.{arith, option_map}
use Rattle.std.proofs.lemmas.Result.{IfOk-weaker}
use Rattle.proc_program.specs.View.{args_of}
use Rattle.proc_program.specs.StepView.{block_of}
use Rattle.proc_semantics.specs.declared.value.Value.TheVariants.{Num}
use Rattle.proc_meaning.specs.declared.work.Now.TheVariants as now
use Rattle.proc_meaning.specs.declared.work.Work.TheVariants.{Operate, SetElement}
use Rattle.proc_semantics.specs.Values.{set_word, global_word}
use Rattle.proc_semantics.specs.Meaning.{expr, assigned, element, element_at, result_of, with_number}
use Rattle.proc_semantics.specs.Whole.{whole}
use Rattle.proc_meaning.specs.Rest.{with_value, call_with, chosen, tested, after, back}
use Rattle.proc_meaning.proofs.Works.{kept, less_more, of_element}
use Rattle.proc_meaning.proofs.steps.give_to.Goals as goal

pub returns-in-Index-clause-same : goal.returns-in-Index-clause-same
returns-in-Index-clause-same c world =
    let items = c.args.work.now.items in let ws = reverse items in let r = c.args.run.now in
    let f = r.frame in let env = r.env.items in let st = c.args.store.now.items in let v = c.args.v in
    let z : to_z w64 (of_z w64 v) ≡ v = search rules in
    ap (λ w. with_value world (w ∷ ws) f env v st) c.in-Index.is
    ∙ of_element world (element_at c.in-Index.row v) (with_value world ws f env) f.home st
    ∙ ap (λ o. with_number o (with_value world ws f env) st)
    (ap₂ (λ v st. option_map (global_word st f.home) (element_at c.in-Index.row v)) (sym z)
    (sym c.deref.ensures.value) ∙ sym c.element.ensures)
    ∙ c.valued.ensures.same world items r st

pub returns-in-Right-clause-same : goal.returns-in-Right-clause-same
returns-in-Right-clause-same c =
    let items = c.args.work.now.items in let ws = reverse items in let r = c.args.run.now in
    let f = r.frame in let env = r.env.items in let st = c.args.store.now.items in let v = c.args.v in
    let z : to_z w64 (of_z w64 v) ≡ v = search rules in
    IfOk-weaker c.at_once.result _ _ (λ a h world.
    ap (λ w. with_value world (w ∷ ws) f env v st) c.in-Right.is
    ∙ ap (λ x. expr world (whole world) f env c.in-Right.e.now
    (with_value world (Operate c.in-Right.op x ∷ ws) f env) st) (sym z)
    ∙ h world r st) c.at_once.ensures.same

pub returns-in-Operate-clause-same : goal.returns-in-Operate-clause-same
returns-in-Operate-clause-same c world =
    let items = c.args.work.now.items in let ws = reverse items in let r = c.args.run.now in
    let f = r.frame in let env = r.env.items in let st = c.args.store.now.items in let v = c.args.v in
    let z : to_z w64 (of_z w64 v) ≡ v = search rules in
    let zx : to_z w64 (of_z w64 c.in-Operate.x) ≡ c.in-Operate.x = search rules in
    ap (λ w. with_value world (w ∷ ws) f env v st) c.in-Operate.is
    ∙ ap (λ o. with_number o (with_value world ws f env) st)
    (ap₂ (result_of c.in-Operate.op) (sym zx) (sym z) ∙ sym c.result_of.ensures)
    ∙ c.valued-in-Operate.ensures.same world items r st

pub returns-in-Arg-clause-same : goal.returns-in-Arg-clause-same
returns-in-Arg-clause-same c =
    let items = c.args.work.now.items in let ws = reverse items in let r = c.args.run.now in
    let f = r.frame in let env = r.env.items in let st = c.args.store.now.items in let v = c.args.v in
    let z : to_z w64 (of_z w64 v) ≡ v = search rules in
    let to = c.in-Arg.to.now in let vs = c.in-Arg.values.items in
    IfOk-weaker c.with_argument.result _ _ (λ a h world.
    ap (λ w. with_value world (w ∷ ws) f env v st) c.in-Arg.is
    ∙ ap (λ x. call_with world f env to (vs ++ Num x ∷ []) (args_of c.in-Arg.rest.now)
    (with_value world ws f env) st) (sym z)
    ∙ h world items r st) c.with_argument.ensures.same

pub returns-in-Arg-clause-less : goal.returns-in-Arg-clause-less
returns-in-Arg-clause-less c =
    let items = c.args.work.now.items in
    IfOk-weaker c.with_argument.result _ _ (λ a h. less_more a items _ _ (omega arith) (h items))
    c.with_argument.ensures.less

pub returns-in-SetIndex-clause-same : goal.returns-in-SetIndex-clause-same
returns-in-SetIndex-clause-same c =
    let items = c.args.work.now.items in let ws = reverse items in let r = c.args.run.now in
    let f = r.frame in let env = r.env.items in let st = c.args.store.now.items in let v = c.args.v in
    let z : to_z w64 (of_z w64 v) ≡ v = search rules in
    IfOk-weaker c.at_once-in-SetIndex.result _ _ (λ a h world.
    ap (λ w. with_value world (w ∷ ws) f env v st) c.in-SetIndex.is
    ∙ ap (λ x. expr world (whole world) f env c.in-SetIndex.e.now
    (with_value world (SetElement c.in-SetIndex.row x ∷ ws) f env) st) (sym z)
    ∙ h world r st) c.at_once-in-SetIndex.ensures.same

pub returns-in-SetElement-clause-same : goal.returns-in-SetElement-clause-same
returns-in-SetElement-clause-same c world =
    let items = c.args.work.now.items in let ws = reverse items in let r = c.args.run.now in
    let f = r.frame in let env = r.env.items in let st = c.args.store.now.items in let v = c.args.v in
    let z : to_z w64 (of_z w64 v) ≡ v = search rules in
    let zi : to_z w64 (of_z w64 c.in-SetElement.index) ≡ c.in-SetElement.index = search rules in
    ap (λ w. with_value world (w ∷ ws) f env v st) c.in-SetElement.is
    ∙ ap₂ (λ i v. element c.in-SetElement.row i (λ o. after world ws f env (set_word st f.home o v)))
    (sym zi) (sym z)
    ∙ c.set_element.ensures.same world items

pub returns-in-Right-clause-less : goal.returns-in-Right-clause-less
returns-in-Right-clause-less c =
    IfOk-weaker c.at_once.result _ _ (λ a h. less_more a _ _ _ (omega arith) h) c.at_once.ensures.less

pub returns-in-SetIndex-clause-less : goal.returns-in-SetIndex-clause-less
returns-in-SetIndex-clause-less c =
    IfOk-weaker c.at_once-in-SetIndex.result _ _ (λ a h. less_more a _ _ _ (omega arith) h)
    c.at_once-in-SetIndex.ensures.less

pub returns-in-Choose-clause-less : goal.returns-in-Choose-clause-less
returns-in-Choose-clause-less c =
    IfOk-weaker c.choose.result _ _ (λ a h. less_more a _ _ _ (omega arith) h) c.choose.ensures.less

pub returns-in-Test-clause-less : goal.returns-in-Test-clause-less
returns-in-Test-clause-less c =
    IfOk-weaker c.test.result _ _ (λ a h. less_more a _ _ _ (omega arith) h) c.test.ensures.less

pub returns-in-SetTo-clause-same : goal.returns-in-SetTo-clause-same
returns-in-SetTo-clause-same c world =
    let items = c.args.work.now.items in let ws = reverse items in let r = c.args.run.now in
    let f = r.frame in let env = r.env.items in let st = c.args.store.now.items in let v = c.args.v in
    let z : to_z w64 (of_z w64 v) ≡ v = search rules in
    ap (λ w. with_value world (w ∷ ws) f env v st) c.in-SetTo.is
    ∙ ap (λ x. assigned f.home c.in-SetTo.place x (after world ws f) env st) (sym z)
    ∙ c.assign.ensures.same (after world ws f)
    ∙ ap (λ g. after world ws g c.assign.new.run.env.items c.assign.new.store.items)
    (sym c.assign.ensures.keeps)
    ∙ sym (kept world now.Next items c.assign.new.run c.assign.new.store.items)

pub returns-in-Forget-clause-same : goal.returns-in-Forget-clause-same
returns-in-Forget-clause-same c world =
    let items = c.args.work.now.items in let ws = reverse items in let r = c.args.run.now in
    let f = r.frame in let env = r.env.items in let st = c.args.store.now.items in let v = c.args.v in
    ap (λ w. with_value world (w ∷ ws) f env v st) c.in-Forget.is
    ∙ sym (kept world now.Next items r st)

pub returns-in-Return-clause-same : goal.returns-in-Return-clause-same
returns-in-Return-clause-same c world =
    let items = c.args.work.now.items in let ws = reverse items in let r = c.args.run.now in
    let f = r.frame in let env = r.env.items in let st = c.args.store.now.items in let v = c.args.v in
    let z : to_z w64 (of_z w64 v) ≡ v = search rules in
    ap (λ w. with_value world (w ∷ ws) f env v st) c.in-Return.is
    ∙ ap (λ x. back world ws f x st) (sym z)
    ∙ sym (kept world (now.Back _) items r st)

pub returns-in-Choose-clause-same : goal.returns-in-Choose-clause-same
returns-in-Choose-clause-same c =
    let items = c.args.work.now.items in let ws = reverse items in let r = c.args.run.now in
    let st = c.args.store.now.items in let v = c.args.v in let x = c.in-Choose in
    let z : to_z w64 (of_z w64 v) ≡ v = search rules in
    IfOk-weaker c.choose.result _ _ (λ a h world.
    ap (λ w. with_value world (w ∷ ws) r.frame r.env.items v st) x.is
    ∙ ap (λ v. chosen world v (block_of x.a.now) (block_of x.b.now) r.frame
    (back world ws r.frame) (after world ws r.frame) r.env.items st) (sym z)
    ∙ h world r st) c.choose.ensures.same

pub returns-in-Test-clause-same : goal.returns-in-Test-clause-same
returns-in-Test-clause-same c =
    let items = c.args.work.now.items in let ws = reverse items in let r = c.args.run.now in
    let st = c.args.store.now.items in let v = c.args.v in let x = c.in-Test in
    let z : to_z w64 (of_z w64 v) ≡ v = search rules in
    IfOk-weaker c.test.result _ _ (λ a h world.
    ap (λ w. with_value world (w ∷ ws) r.frame r.env.items v st) x.is
    ∙ ap (λ v. tested world v x.c.now (block_of x.b.now) r.frame
    (back world ws r.frame) (after world ws r.frame) r.env.items st) (sym z)
    ∙ h world r st) c.test.ensures.same
