-- What an audit answers is right.
use Rattle.std.specs.Prelude.{◌≡◌, ◌↔◌, List, ℕ, Ok, Err}
use Rattle.run_audit.specs.declared.fault.AuditFault.{AuditFault}
use Rattle.run_audit.specs.Audit.{audited}
use Rattle.run_audit.specs.Traces.{IsTrace, HasFault}

abbrev pub TracesAreFound : Type 0
TracesAreFound = (text : List ℕ) → IsTrace text ↔ (audited text ≡ Ok tt)

abbrev pub FaultsAreFound : Type 0
FaultsAreFound = (text : List ℕ) (e : AuditFault) → HasFault text e ↔ (audited text ≡ Err e)
