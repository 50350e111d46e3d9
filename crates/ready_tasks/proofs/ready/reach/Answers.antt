use Rattle.std.proofs.lemmas.Result.{err_from_is_err_and}
use Rattle.command_words.specs.declared.command.LinkDeed.TheVariants.{Reach}
use Rattle.ready_tasks.specs.declared.ready.ReadyTask.TheVariants as ready
use Rattle.ready_tasks.specs.Commands.{link_task}
use Rattle.link_tool.specs.Linked.{linked_plan}
use Rattle.file_plans.proofs.Offers.{comes_quiet}
use Rattle.ready_tasks.proofs.Offers.{linked_as}
use Rattle.ready_tasks.proofs.Tasks.{task_done, task_stops}
use Rattle.ready_tasks.proofs.ready.reach.Goals as goal

pub reach_text-told-requires : goal.reach_text-told-requires
reach_text-told-requires g c =
    let f = c.in_ok-start.ensures in linked_as f.0.parts f.0.stack c.in_ok-start.start f.2

pub returns-in_err-start : goal.returns-in_err-start
returns-in_err-start g c =
    task_stops (linked_plan c.args.what.now) (link_task Reach) _ _ c.in_err-start.field-0.0
    c.from_residual.result c.from_residual.ensures.1 c.in_err-start.ensures

pub returns-in_err-text : goal.returns-in_err-text
returns-in_err-text g c =
    let f = c.in_ok-start.ensures in
    let p = err_from_is_err_and c.from_residual-in_err-text.result c.from_residual-in_err-text.ensures.1 in
    rw (p.1, p.2) (comes_quiet (linked_plan c.args.what.now) _ _ f.0 f.1)

pub returns : goal.returns
returns g c =
    let f = c.in_ok-start.ensures in
    task_done (linked_plan c.args.what.now) (link_task Reach) _ _ f.0 (ready.Write c.in_ok-text.text) f.1
    (c.in_ok-start.start, f.2, c.in_ok-text.ensures)
