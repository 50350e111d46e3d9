use Rattle.std.proofs.Common.{rules, ◌≡◌, sym, ap, ◌∙◌, w64, to_z, of_z}
use Rattle.std.proofs.lemmas.Result.{IfOk-weaker}
use Rattle.proc_semantics.specs.Told.{Comp}
use Rattle.proc_semantics.specs.Values.{Store}
use Rattle.proc_meaning.proofs.Works.{zero_if, other_if}
use Rattle.proc_meaning.proofs.steps.choose.Goals as goal

pub returns-then-v-eq0-clause-same : goal.returns-then-v-eq0-clause-same
returns-then-v-eq0-clause-same c =
    let v = c.args.v in
    let z : to_z w64 (of_z w64 v) ≡ v = search rules in
    IfOk-weaker c.statements.result _ _ (λ a h world r st.
    ap (λ (m : Store → Comp). m st) (zero_if v _ _ (sym z ∙ ap (to_z w64) c.if-v-eq0.true))
    ∙ h world r st) c.statements.ensures.same

pub returns-else-v-eq0-clause-same : goal.returns-else-v-eq0-clause-same
returns-else-v-eq0-clause-same c =
    IfOk-weaker c.statements-else-v-eq0.result _ _ (λ a h world r st.
    ap (λ (m : Store → Comp). m st) (other_if c.args.v _ _ (λ e. c.if-v-eq0.false (ap (of_z w64) e)))
    ∙ h world r st) c.statements-else-v-eq0.ensures.same
