-- The faults of assembler text.
use Rattle.std.specs.Prelude.{ℕ, Bool, true, false}
use Rattle.text_scan.specs.declared.fault.ScanFault.{ScanFault}
use Rattle.text_scan.specs.declared.fault.ScanFault.TheVariants.{BadByte, NumberTooLarge}
use Rattle.text_scan.specs.declared.fault.ScanFault.TheVariants.{LineTooLong, NoMemory as NoMemoryThere}
use Rattle.text_scan.specs.Fault.{fault_place as scan_place}
use Rattle.asm_fields.specs.declared.fault.AsmFault.{AsmFault}
use Rattle.asm_fields.specs.declared.fault.AsmFault.TheVariants.{Scan, Unknown, Operand, LabelTwice}
use Rattle.asm_fields.specs.declared.fault.AsmFault.TheVariants.{LabelMissing, Range, Section, NoMemory}

-- the fault of a text that has no tokens; that memory was refused is no fault of the text
abbrev pub of_scan : ScanFault → AsmFault
of_scan (BadByte at) = Scan (BadByte at)
of_scan (NumberTooLarge at) = Scan (NumberTooLarge at)
of_scan (LineTooLong line) = Scan (LineTooLong line)
of_scan NoMemoryThere = NoMemory

-- the faults by number
abbrev pub fault_number : AsmFault → ℕ
fault_number (Scan fault) = 1
fault_number (Unknown at) = 2
fault_number (Operand at) = 3
fault_number (LabelTwice at) = 4
fault_number (LabelMissing at) = 5
fault_number (Range at) = 6
fault_number (Section at) = 7
fault_number NoMemory = 8

-- the place that a fault tells, and 0 where it tells none
abbrev pub fault_place : AsmFault → ℕ
fault_place (Scan fault) = scan_place fault
fault_place (Unknown at) = at
fault_place (Operand at) = at
fault_place (LabelTwice at) = at
fault_place (LabelMissing at) = at
fault_place (Range at) = at
fault_place (Section at) = at
fault_place NoMemory = 0

-- memory was refused
abbrev pub is_refusal : AsmFault → Bool
is_refusal NoMemory = true
is_refusal _ = false
