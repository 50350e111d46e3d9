-- The words of a start are words of the machine, each with a spelling.
use Rattle.std.specs.Prelude.{◌≡◌, ℕ, List, slice_get, Some}
use Rattle.lcm_machine.specs.Fitting.{MapsFit}
use Rattle.lcm_machine.specs.Run.{Run}
use Rattle.linked_starts.specs.Parts.{PartSeen, IsPart}
use Rattle.linked_starts.specs.Pairs.{NoneIsBroken}
use Rattle.linked_starts.specs.Links.{rules_l}
use Rattle.linked_starts.specs.Start.{IsStart}

-- of every start of parts that were accepted and keep the rules L with some size of stack
abbrev pub StartsFit : Type 0
StartsFit =
    (parts : List PartSeen) (size : ℕ) (s : Run)
    → ((k : ℕ) (p : PartSeen) → slice_get parts k ≡ Some p → IsPart p)
    → NoneIsBroken (rules_l parts size) → IsStart parts size s → MapsFit s.maps
