-- What is known of a case.
use Rattle.std.specs.Prelude.{◌≤◌}
use Rattle.cap_words.specs.declared.TheConstants.{LAST_PLACE}
use Rattle.overlay_machine.specs.declared.cases.Case.{Case}
use Rattle.overlay_machine.specs.declared.cases.Case.TheVariants.{Entry}

-- an entry is within the address space
abbrev pub IsWithin : Case → Type 0
IsWithin (Entry a) = a ≤ LAST_PLACE
IsWithin _ = Unit {0}
