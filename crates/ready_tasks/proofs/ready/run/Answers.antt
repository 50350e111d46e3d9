use Rattle.std.proofs.Common.{refl}
use Rattle.command_words.specs.declared.command.LinkDeed.TheVariants.{Run}
use Rattle.ready_tasks.specs.declared.ready.ReadyTask.TheVariants as ready
use Rattle.ready_tasks.specs.Commands.{link_task}
use Rattle.link_tool.specs.Linked.{linked_plan}
use Rattle.ready_tasks.proofs.Tasks.{task_done, task_stops}
use Rattle.ready_tasks.proofs.ready.run.Goals as goal

pub returns-in_err-start : goal.returns-in_err-start
returns-in_err-start g c =
    task_stops (linked_plan c.args.what.now) (link_task (Run c.args.steps)) _ _ c.in_err-start.field-0.0
    c.from_residual.result c.from_residual.ensures.1 c.in_err-start.ensures

pub returns : goal.returns
returns g c =
    let f = c.in_ok-start.ensures in
    task_done (linked_plan c.args.what.now) (link_task (Run c.args.steps)) _ _ f.0
    (ready.Run c.in_ok-start.start c.args.steps) f.1 (f.0, refl, f.2)
