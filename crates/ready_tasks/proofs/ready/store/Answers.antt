use Rattle.std.proofs.Common.{refl}
use Rattle.command_words.specs.declared.command.LinkDeed.TheVariants.{Store}
use Rattle.ready_tasks.specs.declared.ready.ReadyTask.TheVariants as ready
use Rattle.ready_tasks.specs.Commands.{OfImage, link_task}
use Rattle.link_tool.specs.Linked.{linked_plan}
use Rattle.ready_tasks.proofs.Tasks.{task_done, task_stops}
use Rattle.ready_tasks.proofs.ready.store.Goals as goal

pub returns-in_err-bytes : goal.returns-in_err-bytes
returns-in_err-bytes g c =
    task_stops (linked_plan c.args.what.now) (link_task (Store c.args.out)) _ _ c.in_err-bytes.field-0.0
    c.from_residual.result c.from_residual.ensures.1 c.in_err-bytes.ensures

pub returns : goal.returns
returns g c =
    let f = c.in_ok-bytes.ensures in
    task_done (linked_plan c.args.what.now) (link_task (Store c.args.out)) _ _ f.0
    (ready.Put c.args.out c.in_ok-bytes.bytes) f.1
    (OfImage f.0, refl, f.2.0, f.2.1)
