use Rattle.std.proofs.Common.{sym}
use Rattle.proc_meaning.specs.declared.work.Now.TheVariants.{Eval}
use Rattle.proc_meaning.proofs.Works.{pushed}
use Rattle.proc_meaning.proofs.pushes.at_once.Goals as goal

pub returns-clause-same : goal.returns-clause-same
returns-clause-same c world r st =
    sym (pushed world (Eval c.args.e) c.args.work.now.items c.put.new.work.items c.args.w r st
    c.in_ok-put.ensures)
