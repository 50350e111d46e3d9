-- What the crates above cite.
use Rattle.std.proofs.Common.{ℕ, List}
use Rattle.linked_starts.specs.Parts.{PartSeen}
use Rattle.linked_starts.specs.Standing.{placed}
use Rattle.linked_starts.specs.Started.{StartSeen}
use Rattle.linked_starts.specs.LinkedStarts.{IsStartOf}
use Rattle.authority_report.specs.Entered.{IsLinked}

-- of a start, what linking leaves it as
pub linked_as : (parts : List PartSeen) (size : ℕ) (s : StartSeen) → IsStartOf parts size s → IsLinked s
linked_as parts size s h = record {
  parts = placed parts size;
  size = size;
  accepted = h.accepted;
  rules = h.rules;
  starts = h.starts;
}
