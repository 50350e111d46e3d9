use Rattle.std.proofs.Common.{ap, ◌∙◌}
use Rattle.std.proofs.lemmas.Result.{IfOk-weaker}
use Rattle.proc_meaning.specs.Rest.{after}
use Rattle.proc_meaning.proofs.Works.{reversed}
use Rattle.proc_meaning.proofs.steps.next.Goals as goal

pub returns-in-Some-clause-same : goal.returns-in-Some-clause-same
returns-in-Some-clause-same c =
    let r = c.args.run.now in
    IfOk-weaker c.next_of.result _ _ (λ a h world st.
    ap (λ l. after world l r.frame r.env.items st)
    (reversed c.pop.new.self.items c.args.work.now.items c.in-Some.w c.in-Some.ensures.items)
    ∙ h world st) c.next_of.ensures.same
