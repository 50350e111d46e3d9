-- How the faults of a text print.
use Rattle.std.specs.Prelude.{ℕ, ◌++◌, List, codes, decimal}
use Rattle.text_scan.specs.declared.fault.ScanFault.{ScanFault}
use Rattle.text_scan.specs.declared.fault.ScanFault.TheVariants.{BadByte, NumberTooLarge}
use Rattle.text_scan.specs.declared.fault.ScanFault.TheVariants.{LineTooLong, NoMemory}

abbrev pub scan_fault_text : ScanFault → List ℕ
scan_fault_text (BadByte at) = codes "no token begins at byte " ++ decimal at
scan_fault_text (NumberTooLarge at) = codes "the number at byte " ++ decimal at ++ codes " is above 2^63"
scan_fault_text (LineTooLong line) = codes "line " ++ decimal line ++ codes " has more than 512 bytes"
scan_fault_text NoMemory = codes "out of memory"
