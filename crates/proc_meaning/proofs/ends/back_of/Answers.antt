use Rattle.std.proofs.Common.{rules, ◌≡◌, ◌∷◌, sym, ap, ◌∙◌, reverse, w64, to_z, of_z}
use Rattle.proc_meaning.specs.declared.work.Now.TheVariants as now
use Rattle.proc_meaning.specs.Rest.{back}
use Rattle.proc_meaning.proofs.Works.{kept}
use Rattle.proc_meaning.proofs.ends.back_of.Goals as goal

pub returns-in-Rest-clause-same : goal.returns-in-Rest-clause-same
returns-in-Rest-clause-same c world items st =
    let r = c.args.run.now in let v = c.args.v in
    let z : to_z w64 (of_z w64 v) ≡ v = search rules in
    ap (λ w. back world (w ∷ reverse items) r.frame v st) c.in-Rest.is
    ∙ ap (λ x. back world (reverse items) r.frame x st) (sym z)
    ∙ sym (kept world (now.Back _) items r st)

pub returns-in-Turn-clause-same : goal.returns-in-Turn-clause-same
returns-in-Turn-clause-same c world items st =
    let r = c.args.run.now in let v = c.args.v in
    let z : to_z w64 (of_z w64 v) ≡ v = search rules in
    ap (λ w. back world (w ∷ reverse items) r.frame v st) c.in-Turn.is
    ∙ ap (λ x. back world (reverse items) r.frame x st) (sym z)
    ∙ sym (kept world (now.Back _) items r st)
