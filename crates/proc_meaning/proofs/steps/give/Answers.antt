use Rattle.std.proofs.Common.{rules, ◌≡◌, ◌∷◌, sym, ap, ◌∙◌, reverse, w64, to_z, of_z}
use Rattle.std.proofs.lemmas.Result.{IfOk-weaker}
use Rattle.proc_meaning.specs.Rest.{with_value}
use Rattle.proc_meaning.proofs.Works.{reversed}
use Rattle.proc_meaning.proofs.steps.give.Goals as goal

pub returns-in-Some-clause-same : goal.returns-in-Some-clause-same
returns-in-Some-clause-same c =
    let r = c.args.run.now in let st = c.args.store.now.items in let v = c.args.v in
    let items = c.pop.new.self.items in let w = c.in-Some.w in
    let z : to_z w64 (of_z w64 v) ≡ v = search rules in
    IfOk-weaker c.give_to.result _ _ (λ a h world.
    ap (λ l. with_value world l r.frame r.env.items v st)
    (reversed items c.args.work.now.items w c.in-Some.ensures.items)
    ∙ ap (λ x. with_value world (w ∷ reverse items) r.frame r.env.items x st) (sym z)
    ∙ h world) c.give_to.ensures.same
