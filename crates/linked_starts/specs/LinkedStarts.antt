-- A linked start: the start of accepted parts that keep the rules L together.
use Rattle.std.specs.Prelude.{◌≡◌, ℕ, List, [], ◌∷◌, Some, slice_get}
use Rattle.linked_starts.specs.Parts.{PartSeen, IsPart}
use Rattle.linked_starts.specs.Standing.{placed}
use Rattle.linked_starts.specs.Pairs.{NoneIsBroken}
use Rattle.linked_starts.specs.Links.{l10, rules_l}
use Rattle.linked_starts.specs.Started.{StartSeen, Starts}

-- each part keeps its own rules
abbrev pub AreParts : List PartSeen → Type 0
AreParts parts = (k : ℕ) (p : PartSeen) → slice_get parts k ≡ Some p → IsPart p

-- Each part keeps the rules C, and K where it is trusted; together they keep the rules L with this size of
-- stack; and this is their start. Of no part more is asked.
pub record IsLinkedStart (parts : List PartSeen) (size : ℕ) (s : StartSeen) : Type 0 where
  pub accepted : AreParts parts
  pub room : NoneIsBroken (l10 parts ∷ [])
  pub rules : NoneIsBroken (rules_l parts size)
  pub starts : Starts parts size s

-- parts link to this start with a stack of a size: it is that of the parts where they are placed
abbrev pub IsStartOf : List PartSeen → ℕ → StartSeen → Type 0
IsStartOf parts size s = IsLinkedStart (placed parts size) size s
