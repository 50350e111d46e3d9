use Rattle.std.proofs.Common.{sym, ap, ap₂, ◌∙◌, reverse}
use Rattle.proc_meaning.specs.declared.work.Now.TheVariants as now
use Rattle.proc_semantics.specs.Values.{found}
use Rattle.proc_semantics.specs.Meaning.{on_item, entered}
use Rattle.proc_semantics.specs.Whole.{whole}
use Rattle.proc_meaning.specs.Rest.{waiting}
use Rattle.proc_meaning.proofs.Works.{kept}
use Rattle.proc_meaning.proofs.feed.take.Goals as goal

pub returns-in_ok-registers-in-Enter-clause-same : goal.returns-in_ok-registers-in-Enter-clause-same
returns-in_ok-registers-in-Enter-clause-same c st =
    let world = c.args.world.now in let items = c.args.work.now.items in
    let w = waiting world (reverse items) in
    let x = c.in-Enter in let t = c.in-Some.target in
    ap (on_item world (whole world) w st) x.is
    ∙ ap₂ (λ o rs. entered world (whole world) w o x.left rs x.back st)
    (sym (c.found.ensures ∙ ap₂ (found world) c.as_slice.ensures c.as_slice-in-Enter.ensures)
    ∙ c.in-Some.is)
    (sym c.in_ok-registers-in-Enter.ensures)
    ∙ sym (kept world (now.Begin _ _ _ _) items c.args.run.now st)
