use Rattle.std.proofs.Common.{rules, ◌≡◌, [], ◌∷◌, sym, ap, ap₂, ◌∙◌, reverse, w64, to_z, of_z}
use Rattle.source_events.specs.declared.OutEvent.TheVariants.{LeaveOut}
use Rattle.proc_semantics.specs.declared.value.Value.TheVariants.{Num}
use Rattle.proc_meaning.specs.declared.work.Now.TheVariants as now
use Rattle.proc_semantics.specs.Told.{emit}
use Rattle.proc_semantics.specs.Values.{found, register_of}
use Rattle.proc_semantics.specs.Meaning.{Then, left_by, hopped, part_name_of}
use Rattle.proc_semantics.specs.Whole.{whole}
use Rattle.proc_meaning.specs.Rest.{waiting}
use Rattle.proc_semantics.proofs.Offers.{recursive}
use Rattle.proc_meaning.proofs.Works.{kept}
use Rattle.proc_meaning.proofs.feed.leave.Goals as goal

pub returns-in_ok-part_name-in-Out-clause-same : goal.returns-in_ok-part_name-in-Out-clause-same
returns-in_ok-part_name-in-Out-clause-same c st =
    let world = c.args.world.now in let items = c.args.work.now.items in
    let w = waiting world (reverse items) in let v = c.args.value in
    let z : to_z w64 (of_z w64 v) ≡ v = search rules in
    ap (λ b. left_by world (whole world) (part_name_of world c.args.home) w c.args.left b v st) c.in-Out.is
    ∙ ap₂ (λ n v. emit (LeaveOut n v) ((whole world).wait w st)) (sym c.in_ok-part_name-in-Out.ensures)
    (sym z)
    ∙ ap (emit (LeaveOut c.in_ok-part_name-in-Out.field-0 (to_z w64 (of_z w64 v))))
    (sym (kept world now.Wait items c.args.run.now st))

pub returns-in_ok-registers-in-Hop-clause-same : goal.returns-in_ok-registers-in-Hop-clause-same
returns-in_ok-registers-in-Hop-clause-same c st =
    let world = c.args.world.now in let items = c.args.work.now.items in
    let w = waiting world (reverse items) in let v = c.args.value in
    let part = part_name_of world c.args.home in let left = c.args.left in let t = c.in-Some.target in
    let z : to_z w64 (of_z w64 v) ≡ v = search rules in
    let is = sym (c.found.ensures ∙ ap₂ (found world) c.as_slice.ensures c.as_slice-in-Hop.ensures)
    ∙ c.in-Some.is in
    ap (λ b. left_by world (whole world) part w left b v st) c.in-Hop.is
    ∙ ap (λ o. hopped world (whole world) w left o v st) is
    ∙ (recursive world).hops w left t v st
    ∙ sym ((recursive world).procs t left (register_of (Num v) ∷ []) ((whole world).hop w left t) st)
    ∙ ap₂ (λ rs (k : Then). (whole world).proc t left rs k st)
    (sym (c.in_ok-registers-in-Hop.ensures ∙ ap (λ v. register_of (Num v) ∷ []) z))
    (sym (ap (λ b. left_by world (whole world) part w left b) c.in-Hop.is
    ∙ ap (λ o v st. hopped world (whole world) w left o v st) is))
    ∙ sym (kept world (now.Begin _ _ _ _) items c.args.run.now st)
