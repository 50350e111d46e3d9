use Rattle.std.proofs.Common.{[], ◌∷◌, ◌++◌, Some, sym, ap, ap₂, ◌∙◌, reverse}
use Rattle.source_events.specs.declared.OutEvent.TheVariants.{CallOut}
use Rattle.proc_semantics.specs.declared.value.Pair.TheVariants.{Outside, Runs}
use Rattle.proc_meaning.specs.declared.work.Now.TheVariants as now
use Rattle.proc_meaning.specs.declared.work.Work.TheVariants.{Waits}
use Rattle.proc_semantics.specs.Told.{emit}
use Rattle.proc_semantics.specs.Meaning.{call, call_by, call_wait, with_place}
use Rattle.proc_semantics.specs.Whole.{whole}
use Rattle.proc_meaning.specs.Rest.{with_value}
use Rattle.proc_meaning.proofs.Works.{pushed, kept}
use Rattle.proc_meaning.proofs.calls.call.Goals as goal

pub returns-in_ok-name-in-Outside-clause-same : goal.returns-in_ok-name-in-Outside-clause-same
returns-in_ok-name-in-Outside-clause-same c st =
    let world = c.args.world.now in let items = c.args.work.now.items in let r = c.args.run.now in
    let f = r.frame in
    let site = c.args.to.now.site in let given = c.in-Some.given in let vs = c.args.values.now in
    let k = with_value world (reverse items) f r.env.items in
    ap (λ p. call world (whole world) f site p vs k st) (sym c.pair_of.ensures ∙ c.in-Outside.is)
    ∙ ap (λ g. with_place g (λ given. call_by world (whole world) f.home given site Outside vs k st))
    (sym c.given_of.ensures ∙ c.in-Some.is)
    ∙ ap₂ (λ n a. emit (CallOut n site a)
    ((whole world).wait (Some (call_wait world f.home given site k)) st))
    (sym c.in_ok-name-in-Outside.ensures) (sym c.out_args.ensures)
    ∙ ap (emit (CallOut c.in_ok-name-in-Outside.name site c.out_args.result))
    (sym (pushed world now.Wait items c.put.new.work.items (Waits r site given) c.leave.new.self st
    (c.in_ok-put-in-Outside.ensures
    ∙ ap (λ r. items ++ Waits r site given ∷ []) c.leave.ensures)))

pub returns-in_ok-registers-in-Runs-clause-same : goal.returns-in_ok-registers-in-Runs-clause-same
returns-in_ok-registers-in-Runs-clause-same c st =
    let world = c.args.world.now in let items = c.args.work.now.items in let r = c.args.run.now in
    let f = r.frame in
    let site = c.args.to.now.site in let given = c.in-Some.given in let vs = c.args.values.now in
    let k = with_value world (reverse items) f r.env.items in let t = c.in-Runs.target in
    ap (λ p. call world (whole world) f site p vs k st) (sym c.pair_of.ensures ∙ c.in-Runs.is)
    ∙ ap (λ g. with_place g (λ given. call_by world (whole world) f.home given site (Runs t) vs k st))
    (sym c.given_of.ensures ∙ c.in-Some.is)
    ∙ ap₂ (λ rs r. (whole world).proc t (Some given) rs (with_value world (reverse items) r.frame r.env.items)
    st) (sym c.in_ok-registers-in-Runs.ensures)
    (sym c.leave-in-Runs.ensures)
    ∙ sym (kept world (now.Begin _ _ _ _) items c.leave-in-Runs.new.self st)
