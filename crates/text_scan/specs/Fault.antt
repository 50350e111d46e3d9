-- The faults of a text.
use Rattle.std.specs.Prelude.{ℕ, Bool, true, false}
use Rattle.text_scan.specs.declared.fault.ScanFault.{ScanFault}
use Rattle.text_scan.specs.declared.fault.ScanFault.TheVariants.{BadByte, NumberTooLarge}
use Rattle.text_scan.specs.declared.fault.ScanFault.TheVariants.{LineTooLong, NoMemory}

-- the faults by number
abbrev pub fault_number : ScanFault → ℕ
fault_number (BadByte at) = 1
fault_number (NumberTooLarge at) = 2
fault_number (LineTooLong line) = 3
fault_number NoMemory = 4

-- the place that a fault tells, of a line that is too long the line's number, and 0 where it tells none
abbrev pub fault_place : ScanFault → ℕ
fault_place (BadByte at) = at
fault_place (NumberTooLarge at) = at
fault_place (LineTooLong line) = line
fault_place NoMemory = 0

-- memory was refused
abbrev pub is_refusal : ScanFault → Bool
is_refusal NoMemory = true
is_refusal _ = false
