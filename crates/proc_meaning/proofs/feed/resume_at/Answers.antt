use Rattle.std.specs.Prelude.{if◌then◌else◌}
use Rattle.std.proofs.Common.{rules, ◌≡◌, ◌∷◌, Some, sym, ap, ◌∙◌, reverse, w64, to_z, of_z}
use Rattle.proc_meaning.specs.declared.work.Now.TheVariants as now
use Rattle.proc_semantics.specs.Told.{fails}
use Rattle.proc_semantics.specs.Meaning.{resumed, call_wait}
use Rattle.proc_meaning.specs.Rest.{with_value, waiting}
use Rattle.proc_meaning.proofs.Works.{kept}
use Rattle.proc_meaning.proofs.feed.resume_at.Goals as goal

pub returns-then-is_for-clause-same : goal.returns-then-is_for-clause-same
returns-then-is_for-clause-same c items st =
    let world = c.args.world.now in let ws = reverse items in let a = c.args.asked.now in
    let to = c.in-Waits.caller in let v = c.in-Some.value in
    let z : to_z w64 (of_z w64 v) ≡ v = search rules in
    ap (λ w. resumed (waiting world (w ∷ ws)) a.part.now a.site a.base a.left c.args.value st) c.in-Waits.is
    ∙ ap
    (λ x. resumed (Some (call_wait world to.frame.home c.in-Waits.given c.in-Waits.site
    (with_value world ws to.frame to.env.items))) a.part.now a.site a.base a.left x st) c.in-Some.is
    ∙ ap (λ t. if t then with_value world ws to.frame to.env.items v st else fails)
    (sym c.is_for.ensures ∙ c.if-is_for.true)
    ∙ ap (λ x. with_value world ws to.frame to.env.items x st) (sym z)
    ∙ sym (kept world (now.Value _) items to st)
