use Rattle.std.proofs.Common.{sym, ap, ◌∙◌, reverse}
use Rattle.proc_program.specs.View.{args_of}
use Rattle.proc_meaning.specs.declared.work.Now.TheVariants as now
use Rattle.proc_semantics.specs.Told.{tick}
use Rattle.proc_meaning.specs.Rest.{with_value, call_with}
use Rattle.proc_meaning.proofs.Works.{kept}
use Rattle.proc_meaning.proofs.calls.with_pair.Goals as goal

pub returns-clause-same : goal.returns-clause-same
returns-clause-same c world items r st =
    let k = with_value world (reverse items) r.frame r.env.items in let rest = c.args.rest in
    ap (λ l. tick (call_with world r.frame r.env.items c.args.to.now l (args_of rest.now) k st))
    (sym c.in_ok-extend_from_slice.ensures.items)
    ∙ ap tick (sym (kept world (now.Args c.args.to c.extend_from_slice.new.self rest) items r st))
