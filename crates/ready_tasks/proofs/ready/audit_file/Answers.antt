use Rattle.file_plans.specs.declared.refusal.Refusal.TheVariants.{Audit}
use Rattle.file_plans.specs.Plans.{file, unless}
use Rattle.file_plans.proofs.Offers.{follows_meets}
use Rattle.run_audit.specs.Audit.{audited}
use Rattle.ready_tasks.specs.Audits.{audit_at}
use Rattle.ready_tasks.proofs.ready.audit_file.Goals as goal

pub returns : goal.returns
unfolding audit_at
returns g c =
    follows_meets (file c.args.name.now 0) (λ text. unless Audit (audited text)) _ _ c.in_ok-text.text
    c.audit_text.result c.in_ok-text.ensures.came (rw c.as_slice.ensures at c.audit_text.ensures)
