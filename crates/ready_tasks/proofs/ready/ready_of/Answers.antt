use Rattle.ready_tasks.proofs.ready.ready_of.Goals as goal

pub returns-in-Generate : goal.returns-in-Generate
returns-in-Generate g c = rw c.in-Generate.is (c.ready_generate.ensures _)
