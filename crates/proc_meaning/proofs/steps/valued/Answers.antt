use Rattle.std.proofs.Common.{rules, ◌≡◌, sym, ap, ◌∙◌, reverse, w64, to_z, of_z}
use Rattle.proc_meaning.specs.declared.work.Now.TheVariants as now
use Rattle.proc_semantics.specs.Meaning.{with_number}
use Rattle.proc_meaning.specs.Rest.{with_value}
use Rattle.proc_meaning.proofs.Works.{kept}
use Rattle.proc_meaning.proofs.steps.valued.Goals as goal

pub returns-in-Some-clause-same : goal.returns-in-Some-clause-same
returns-in-Some-clause-same c world items r st =
    let k = with_value world (reverse items) r.frame r.env.items in let v = c.in-Some.v in
    let z : to_z w64 (of_z w64 v) ≡ v = search rules in
    ap (λ o. with_number o k st) c.in-Some.is ∙ ap (λ x. k x st) (sym z)
    ∙ sym (kept world (now.Value _) items r st)

pub returns-in-None-clause-same : goal.returns-in-None-clause-same
returns-in-None-clause-same c world items r st =
    ap (λ o. with_number o (with_value world (reverse items) r.frame r.env.items) st) c.in-None.is
