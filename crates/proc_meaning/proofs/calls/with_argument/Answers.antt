use Rattle.std.proofs.Common.{rules, ◌≡◌, [], ◌∷◌, ◌++◌, sym, ap, ◌∙◌, reverse, w64, to_z, of_z}
use Rattle.proc_program.specs.View.{args_of}
use Rattle.proc_semantics.specs.declared.value.Value.TheVariants.{Num}
use Rattle.proc_meaning.specs.declared.work.Now.TheVariants as now
use Rattle.proc_meaning.specs.Rest.{with_value, call_with}
use Rattle.proc_meaning.proofs.Works.{kept}
use Rattle.proc_meaning.proofs.calls.with_argument.Goals as goal

pub returns-clause-same : goal.returns-clause-same
returns-clause-same c world items r st =
    let k = with_value world (reverse items) r.frame r.env.items in let v = c.args.v in
    let vs = c.args.values.items in let rest = c.args.rest in
    let z : to_z w64 (of_z w64 v) ≡ v = search rules in
    ap (λ l. call_with world r.frame r.env.items c.args.to.now l (args_of rest.now) k st)
    (sym (c.in_ok-push.ensures.items ∙ ap (λ v. vs ++ Num v ∷ []) z))
    ∙ sym (kept world (now.Args c.args.to c.push.new.self rest) items r st)
