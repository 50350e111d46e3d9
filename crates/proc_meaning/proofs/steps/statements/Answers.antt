use Rattle.std.proofs.Common.{sym, ap, ◌∙◌, reverse, arith}
use Rattle.std.proofs.lemmas.List.{nil_from_length}
use Rattle.std.proofs.lemmas.Result.{IfOk-weaker}
use Rattle.proc_program.specs.StepView.{block_of}
use Rattle.proc_meaning.specs.declared.work.Now.TheVariants as now
use Rattle.proc_meaning.specs.declared.work.Work.TheVariants.{Rest}
use Rattle.proc_semantics.specs.Meaning.{stmt, block}
use Rattle.proc_semantics.specs.Whole.{whole}
use Rattle.proc_meaning.specs.Rest.{after, back}
use Rattle.proc_meaning.proofs.Works.{kept, reversed, longer, less_more}
use Rattle.proc_meaning.proofs.steps.statements.Goals as goal

pub returns-in_default-clause-same : goal.returns-in_default-clause-same
returns-in_default-clause-same c world r st =
    let items = c.args.work.now.items in let ws = reverse items in
    ap (λ b. block world (whole world) r.frame (block_of b) (back world ws r.frame) (after world ws r.frame)
    r.env.items st) (nil_from_length c.args.steps.now c.in_default.ensures.cases)
    ∙ sym (kept world now.Next items r st)

pub returns-clause-same : goal.returns-clause-same
returns-clause-same c =
    let items = c.args.work.now.items in let ws = reverse items in let one = c.put.new.work.items in
    let s = c.in-Some.s.now in
    IfOk-weaker c.after_tick.result _ _ (λ a h world r st.
    ap (λ b. block world (whole world) r.frame (block_of b) (back world ws r.frame) (after world ws r.frame)
    r.env.items st) c.in-Some.ensures.cases.0
    ∙ ap (λ l. stmt world (whole world) r.frame s (back world l r.frame) (after world l r.frame) r.env.items
    st) (sym (reversed items one (Rest c.in-Some.rest) c.in_ok-put.ensures))
    ∙ c.begun-w.ensures world r (reverse one) st
    ∙ h world r st) c.after_tick.ensures.same

pub returns-clause-less : goal.returns-clause-less
returns-clause-less c =
    let more = longer c.args.work.now.items c.put.new.work.items (Rest c.in-Some.rest) c.in_ok-put.ensures in
    IfOk-weaker c.after_tick.result _ _ (λ a h. less_more a _ _ _ (omega (arith, more)) h)
    c.after_tick.ensures.less
