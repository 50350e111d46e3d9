-- The faults of an audit.
use Rattle.std.specs.Prelude.{◌≡◌, ℕ, ◌++◌, List, codes, decimal, Option, Some, None}
use Rattle.run_audit.specs.declared.fault.AuditFault.{AuditFault}
use Rattle.run_audit.specs.declared.fault.AuditFault.TheVariants.{Form, Width, Overlap, Unopened, Mismatch}
use Rattle.run_audit.specs.declared.fault.AuditFault.TheVariants.{NoMemory}

-- the faults by number
abbrev pub fault_number : AuditFault → ℕ
fault_number (Form line) = 1
fault_number (Width line) = 2
fault_number (Overlap line) = 3
fault_number (Unopened line) = 4
fault_number (Mismatch line) = 5
fault_number NoMemory = 6

-- the line that a fault tells, and 0 where it tells none
abbrev pub fault_line : AuditFault → ℕ
fault_line (Form line) = line
fault_line (Width line) = line
fault_line (Overlap line) = line
fault_line (Unopened line) = line
fault_line (Mismatch line) = line
fault_line NoMemory = 0

abbrev pub fault_text : AuditFault → List ℕ
fault_text (Form line) = codes "line " ++ decimal line ++ codes " isn't what a run writes there"
fault_text (Width line) = codes "line " ++ decimal line ++ codes " has a wrong number of words"
fault_text (Overlap line) = codes "the call of line " ++ decimal line ++ codes " doesn't lie below the newest"
fault_text (Unopened line) = codes "the return of line " ++ decimal line ++ codes " has no call"
fault_text (Mismatch line) = codes "the return of line " ++ decimal line ++ codes " differs from its call"
fault_text NoMemory = codes "out of memory"

-- what the text of a fault says before the number of its line, and after it, where it tells one
abbrev pub AreWordsAround : AuditFault → Option (List ℕ × List ℕ) → Type 0
AreWordsAround fault (Some w) = fault_text fault ≡ w.0 ++ decimal (fault_line fault) ++ w.1
AreWordsAround fault None = fault ≡ NoMemory
