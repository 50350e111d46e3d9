use Rattle.std.proofs.Common.{sym, ap}
use Rattle.proc_meaning.specs.declared.work.Now.TheVariants.{Eval}
use Rattle.proc_semantics.specs.Told.{tick}
use Rattle.proc_meaning.proofs.Works.{pushed}
use Rattle.proc_meaning.proofs.pushes.after_tick.Goals as goal

pub returns-clause-same : goal.returns-clause-same
returns-clause-same c world r st =
    ap tick (sym (pushed world (Eval c.args.e) c.args.work.now.items c.put.new.work.items c.args.w r st
    c.in_ok-put.ensures))
