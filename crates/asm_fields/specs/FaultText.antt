-- How the faults of assembler text print.
use Rattle.std.specs.Prelude.{◌≡◌, ℕ, ◌++◌, List, codes, Option, Some, None}
use Rattle.cap_words.specs.FaultText.{at_byte}
use Rattle.text_scan.specs.FaultText.{scan_fault_text}
use Rattle.asm_fields.specs.declared.fault.AsmFault.{AsmFault}
use Rattle.asm_fields.specs.declared.fault.AsmFault.TheVariants.{Scan, Unknown, Operand, LabelTwice}
use Rattle.asm_fields.specs.declared.fault.AsmFault.TheVariants.{LabelMissing, Range, Section, NoMemory}
use Rattle.asm_fields.specs.Fault.{fault_place}

abbrev pub asm_fault_text : AsmFault → List ℕ
asm_fault_text (Scan fault) = scan_fault_text fault
asm_fault_text (Unknown at) = at_byte at (codes ": no directive or instruction")
asm_fault_text (Operand at) = at_byte at (codes ": a missing, extra or wrong operand")
asm_fault_text (LabelTwice at) = at_byte at (codes ": this label stands twice")
asm_fault_text (LabelMissing at) = at_byte at (codes ": there is no such label")
asm_fault_text (Range at) = at_byte at (codes ": the number is out of its bounds")
asm_fault_text (Section at) = at_byte at (codes ": an item out of its place, or missing")
asm_fault_text NoMemory = codes "out of memory"

-- what is wrong at the byte of a fault, where its text tells the byte
abbrev pub IsWhy : AsmFault → Option (List ℕ) → Type 0
IsWhy fault (Some why) = asm_fault_text fault ≡ at_byte (fault_place fault) (codes ": " ++ why)
IsWhy (Scan fault) None = Unit {0}
IsWhy NoMemory None = Unit {0}
IsWhy _ None = ⊥
