use Rattle.std.proofs.Common.{rules, ◌≡◌, ◌+◌, sym, ap, ◌∙◌, reverse, w64, to_z, of_z}
use Rattle.proc_meaning.specs.declared.work.Now.TheVariants as now
use Rattle.proc_semantics.specs.Told.{ticks}
use Rattle.proc_semantics.specs.Meaning.{finish, left_by, part_name_of}
use Rattle.proc_semantics.specs.Whole.{whole}
use Rattle.proc_meaning.specs.Rest.{with_value, ended, waiting}
use Rattle.proc_meaning.proofs.Works.{kept, as_many}
use Rattle.proc_meaning.proofs.ends.end_run.Goals as goal

pub returns-in-Start-clause-same : goal.returns-in-Start-clause-same
returns-in-Start-clause-same c world items st =
    let r = c.args.run.now in let n = c.from-ticks.result in
    ap (λ w. finish world r.frame.need (ended world w (reverse items)) c.args.value st) c.in-Start.is
    ∙ as_many r.frame.need n _ c.from-ticks.ensures
    ∙ ap (ticks (n + 1)) (sym (kept world now.Fail items r st))

pub returns-in-Caller-clause-same : goal.returns-in-Caller-clause-same
returns-in-Caller-clause-same c world items st =
    let r = c.args.run.now in let n = c.from-ticks.result in let v = c.args.value in
    let to = c.in-Caller.caller in
    let z : to_z w64 (of_z w64 v) ≡ v = search rules in
    ap (λ w. finish world r.frame.need (ended world w (reverse items)) v st) c.in-Caller.is
    ∙ as_many r.frame.need n _ c.from-ticks.ensures
    ∙ ap (λ x. ticks (n + 1) (with_value world (reverse items) to.frame to.env.items x st)) (sym z)
    ∙ ap (ticks (n + 1)) (sym (kept world (now.Value _) items to st))

pub returns-in-Entered-clause-same : goal.returns-in-Entered-clause-same
returns-in-Entered-clause-same c world items st =
    let r = c.args.run.now in let n = c.from-ticks.result in let v = c.args.value in
    let z : to_z w64 (of_z w64 v) ≡ v = search rules in
    ap (λ w. finish world r.frame.need (ended world w (reverse items)) v st) c.in-Entered.is
    ∙ as_many r.frame.need n _ c.from-ticks.ensures
    ∙ ap (λ x. ticks (n + 1) (left_by world (whole world) (part_name_of world c.in-Entered.home)
    (waiting world (reverse items)) c.in-Entered.left c.in-Entered.back.now x st)) (sym z)
    ∙ ap (ticks (n + 1)) (sym (kept world (now.Left _ _ _ _) items r st))
