-- The numbers of statuses.
use Rattle.std.specs.Prelude.{ℕ}
use Rattle.refusal_lines.specs.declared.status.Status.{Status}
use Rattle.refusal_lines.specs.declared.status.Status.TheVariants.{Done, MachineFailed, StepsUsed, Usage}
use Rattle.refusal_lines.specs.declared.status.Status.TheVariants.{ReadFault, WriteFault, NoMemory, TooLong}
use Rattle.refusal_lines.specs.declared.status.Status.TheVariants.{AsmRefused, SourceRefused, FileRefused}
use Rattle.refusal_lines.specs.declared.status.Status.TheVariants.{RuleBroken, AuditRefused}

abbrev pub status_number : Status → ℕ
status_number Done = 0
status_number MachineFailed = 1
status_number StepsUsed = 2
status_number Usage = 10
status_number ReadFault = 11
status_number WriteFault = 12
status_number NoMemory = 13
status_number TooLong = 14
status_number AsmRefused = 15
status_number SourceRefused = 16
status_number FileRefused = 17
status_number RuleBroken = 18
status_number AuditRefused = 20
