use Rattle.link_tool.specs.Parts.{component_at}
use Rattle.ready_tasks.specs.Commands.{component_task}
use Rattle.ready_tasks.proofs.Tasks.{task_follows, task_stops}
use Rattle.ready_tasks.proofs.ready.ready_component.Goals as goal

pub returns-in_err-component : goal.returns-in_err-component
returns-in_err-component g c =
    task_stops (component_at 0 c.args.word.now) (component_task c.args.deed) _ _ c.in_err-component.field-0.0
    c.from_residual.result c.from_residual.ensures.1 c.in_err-component.ensures

pub returns : goal.returns
returns g c =
    task_follows (component_at 0 c.args.word.now) (component_task c.args.deed) _ _ c.in_ok-component.component
    c.ready_deed.result c.in_ok-component.ensures c.ready_deed.ensures.does c.ready_deed.ensures.stops
