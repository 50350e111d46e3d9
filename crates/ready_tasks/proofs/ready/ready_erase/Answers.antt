use Rattle.std.proofs.Common.{refl}
use Rattle.meaning_tool.specs.Subjects.{module_at}
use Rattle.ready_tasks.specs.declared.ready.ReadyTask.TheVariants as ready
use Rattle.ready_tasks.specs.Commands.{Put, OfModule}
use Rattle.ready_tasks.proofs.Tasks.{task_done, task_stops}
use Rattle.ready_tasks.proofs.ready.ready_erase.Goals as goal

pub returns-in_err-text : goal.returns-in_err-text
returns-in_err-text g c =
    task_stops (module_at 0 c.args.word.now) (λ m. Put c.args.out (OfModule m)) _ _ c.in_err-text.field-0.0
    c.from_residual.result c.from_residual.ensures.1 c.in_err-text.ensures

pub returns : goal.returns
returns g c =
    let f = c.in_ok-text.ensures in
    task_done (module_at 0 c.args.word.now) (λ m. Put c.args.out (OfModule m)) _ _ f.0
    (ready.Put c.args.out c.in_ok-text.text) f.1 (OfModule f.0, refl, f.2.1, f.2.0)
