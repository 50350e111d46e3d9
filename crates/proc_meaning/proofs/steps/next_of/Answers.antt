use Rattle.std.proofs.Common.{◌∷◌, ap, ◌∙◌, reverse}
use Rattle.std.proofs.lemmas.Result.{IfOk-weaker}
use Rattle.proc_program.specs.StepView.{block_of}
use Rattle.proc_meaning.specs.Rest.{after, back}
use Rattle.proc_semantics.proofs.Offers.{recursive}
use Rattle.proc_meaning.proofs.steps.next_of.Goals as goal

pub returns-in-Rest-clause-same : goal.returns-in-Rest-clause-same
returns-in-Rest-clause-same c =
    let ws = reverse c.args.work.now.items in let r = c.args.run.now in
    IfOk-weaker c.statements.result _ _ (λ a h world st.
    ap (λ w. after world (w ∷ ws) r.frame r.env.items st) c.in-Rest.is
    ∙ h world r st) c.statements.ensures.same

pub returns-in-Turn-clause-same : goal.returns-in-Turn-clause-same
returns-in-Turn-clause-same c =
    let ws = reverse c.args.work.now.items in let r = c.args.run.now in
    let f = r.frame in let env = r.env.items in
    let e = c.in-Turn.c in let b = c.in-Turn.b in
    IfOk-weaker c.after_tick.result _ _ (λ a h world st.
    ap (λ w. after world (w ∷ ws) f env st) c.in-Turn.is
    ∙ (recursive world).turns f e.now (block_of b.now) (back world ws f) (after world ws f) env st
    ∙ h world r st) c.after_tick.ensures.same
