use Rattle.std.proofs.Common.{rules, ◌≡◌, sym, ap, ◌∙◌, w64, to_z, of_z, arith}
use Rattle.std.proofs.lemmas.Result.{IfOk-weaker}
use Rattle.proc_program.specs.StepView.{block_of}
use Rattle.proc_meaning.specs.declared.work.Now.TheVariants as now
use Rattle.proc_meaning.specs.declared.work.Work.TheVariants.{Turn}
use Rattle.proc_semantics.specs.Told.{Comp}
use Rattle.proc_semantics.specs.Values.{Store}
use Rattle.proc_semantics.specs.Meaning.{block}
use Rattle.proc_semantics.specs.Whole.{whole}
use Rattle.proc_meaning.specs.Rest.{after, back}
use Rattle.proc_meaning.proofs.Works.{kept, reversed, longer, less_more, zero_if, other_if}
use Rattle.proc_meaning.proofs.steps.test.Goals as goal

pub returns-then-v-eq0-clause-same : goal.returns-then-v-eq0-clause-same
returns-then-v-eq0-clause-same c world r st =
    let items = c.args.work.now.items in let v = c.args.v in
    let z : to_z w64 (of_z w64 v) ≡ v = search rules in
    ap (λ (m : Store → Comp). m st) (zero_if v _ _ (sym z ∙ ap (to_z w64) c.if-v-eq0.true))
    ∙ sym (kept world now.Next items r st)

pub returns-clause-same : goal.returns-clause-same
returns-clause-same c =
    let b = c.args.b in let one = c.put.new.work.items in
    let is = reversed c.args.work.now.items one (Turn c.args.c b) c.in_ok-put.ensures in
    IfOk-weaker c.statements.result _ _ (λ a h world r st.
    ap (λ (m : Store → Comp). m st) (other_if c.args.v _ _ (λ e. c.if-v-eq0.false (ap (of_z w64) e)))
    ∙ ap (λ l. block world (whole world) r.frame (block_of b.now) (back world l r.frame)
    (after world l r.frame) r.env.items st) (sym is)
    ∙ h world r st) c.statements.ensures.same

pub returns-clause-less : goal.returns-clause-less
returns-clause-less c =
    let more = longer c.args.work.now.items c.put.new.work.items (Turn c.args.c c.args.b)
    c.in_ok-put.ensures in
    IfOk-weaker c.statements.result _ _ (λ a h. less_more a _ _ _ (omega (arith, more)) h)
    c.statements.ensures.less
