-- Audits: the text of a file, and the first line that spoils it.
use Rattle.std.specs.Prelude.{ℕ, List}
use Rattle.run_audit.specs.Audit.{audited}
use Rattle.file_plans.specs.declared.refusal.Refusal.TheVariants as refusal
use Rattle.file_plans.specs.Plans.{Plan, ◌>>=◌, file, unless}

unfoldable pub audit_at : List ℕ → Plan (Unit {0})
audit_at name = do
  text ← file name 0
  unless refusal.Audit (audited text)
