-- How the faults of a source print.
use Rattle.std.specs.Prelude.{ℕ, List, codes, ◌++◌}
use Rattle.cap_words.specs.FaultText.{at_byte}
use Rattle.text_scan.specs.FaultText.{scan_fault_text}
use Rattle.proc_grammar.specs.declared.fault.ParseFault.{ParseFault}
use Rattle.proc_grammar.specs.declared.fault.ParseFault.TheVariants.{Scan, Expected, Range, TooMany, NoMemory}

-- what is wrong at a fault's place; nothing where it is told otherwise
abbrev pub reason : ParseFault → List ℕ
reason (Scan fault) = codes ""
reason (Expected at) = codes "no module goes on so"
reason (Range at) = codes "the number or name is out of its bounds"
reason (TooMany at) = codes "one too many"
reason NoMemory = codes ""

abbrev pub parse_fault_text : ParseFault → List ℕ
parse_fault_text (Scan fault) = scan_fault_text fault
parse_fault_text (Expected at) = at_byte at (codes ": " ++ reason (Expected at))
parse_fault_text (Range at) = at_byte at (codes ": " ++ reason (Range at))
parse_fault_text (TooMany at) = at_byte at (codes ": " ++ reason (TooMany at))
parse_fault_text NoMemory = codes "out of memory"
