use Rattle.std.proofs.Common.{refl}
use Rattle.ready_tasks.specs.declared.ready.ReadyTask.TheVariants.{Say}
use Rattle.link_tool.specs.Parts.{part_at}
use Rattle.ready_tasks.specs.Commands.{Write, ok_text}
use Rattle.ready_tasks.proofs.Tasks.{task_done, task_stops}
use Rattle.ready_tasks.proofs.ready.ready_part.Goals as goal

pub returns-in_err-part : goal.returns-in_err-part
returns-in_err-part g c =
    task_stops (part_at 0 c.args.word.now) (λ _. Write ok_text) _ _ c.in_err-part.field-0.0
    c.from_residual.result c.from_residual.ensures.1 c.in_err-part.ensures

pub returns : goal.returns
returns g c = task_done (part_at 0 c.args.word.now) (λ _. Write ok_text) _ _ _ Say c.in_ok-part.ensures refl
