-- The faults of a file.
use Rattle.std.specs.Prelude.{ℕ, Bool, true, false}
use Rattle.cap_words.specs.declared.bytes.cursor.FieldFault.{FieldFault}
use Rattle.cap_words.specs.declared.bytes.cursor.FieldFault.TheVariants as field
use Rattle.component_file.specs.declared.fault.FileFault.{FileFault}
use Rattle.component_file.specs.declared.fault.FileFault.TheVariants.{Magic, Version, Short, BadField}
use Rattle.component_file.specs.declared.fault.FileFault.TheVariants.{Order, Trailing, NoMemory}

-- the fault of a field, as the file's
abbrev pub in_file : FieldFault → FileFault
in_file (field.Short at) = Short at
in_file (field.BadField at) = BadField at

-- the faults by number
abbrev pub fault_number : FileFault → ℕ
fault_number Magic = 1
fault_number Version = 2
fault_number (Short at) = 3
fault_number (BadField at) = 4
fault_number (Order at) = 5
fault_number (Trailing at) = 6
fault_number NoMemory = 7

-- the place that a fault tells, and 0 where it tells none
abbrev pub fault_place : FileFault → ℕ
fault_place (Short at) = at
fault_place (BadField at) = at
fault_place (Order at) = at
fault_place (Trailing at) = at
fault_place _ = 0

-- memory was refused
abbrev pub is_refusal : FileFault → Bool
is_refusal NoMemory = true
is_refusal _ = false
