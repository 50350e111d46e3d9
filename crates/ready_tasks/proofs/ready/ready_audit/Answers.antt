use Rattle.std.proofs.Common.{refl}
use Rattle.ready_tasks.specs.declared.ready.ReadyTask.TheVariants.{Say}
use Rattle.ready_tasks.specs.Audits.{audit_at}
use Rattle.ready_tasks.specs.Commands.{Write, ok_text}
use Rattle.ready_tasks.proofs.Tasks.{task_done, task_stops}
use Rattle.ready_tasks.proofs.ready.ready_audit.Goals as goal

pub returns-in_err-audit_file : goal.returns-in_err-audit_file
returns-in_err-audit_file g c =
    task_stops (audit_at c.args.name.now) (λ u. Write ok_text) _ _ c.in_err-audit_file.field-0.0
    c.from_residual.result c.from_residual.ensures.1 c.in_err-audit_file.ensures

pub returns : goal.returns
returns g c =
    task_done (audit_at c.args.name.now) (λ u. Write ok_text) _ _ _ Say c.in_ok-audit_file.ensures refl
