use Rattle.file_plans.proofs.Follow.{read_came}
use Rattle.file_plans.proofs.reading.read.Goals as goal

pub returns-in-Ok-clause-came : goal.returns-in-Ok-clause-came
returns-in-Ok-clause-came g c = read_came (g.F.Files.seen c.args.files.now) _ c.args.name.now _ _ c.args.index
    (rw c.as_str.ensures.same at c.in-Ok.ensures.ok) c.of.ensures
