-- How the faults of a file print.
use Rattle.std.specs.Prelude.{◌≡◌, ℕ, ◌++◌, List, codes, decimal, Option, Some, None}
use Rattle.component_file.specs.declared.fault.FileFault.{FileFault}
use Rattle.component_file.specs.declared.fault.FileFault.TheVariants.{Magic, Version, Short, BadField}
use Rattle.component_file.specs.declared.fault.FileFault.TheVariants.{Order, Trailing, NoMemory}
use Rattle.component_file.specs.Fault.{fault_place}

abbrev pub file_fault_text : FileFault → List ℕ
file_fault_text Magic = codes "the file does not begin with STKC"
file_fault_text Version = codes "the version is neither 1 nor 2"
file_fault_text (Short at) = codes "the file ends within the field at byte " ++ decimal at
file_fault_text (BadField at) = codes "the field at byte " ++ decimal at ++ codes " is not valid"
file_fault_text (Order at) = codes "the item at byte " ++ decimal at ++ codes " is out of order"
file_fault_text (Trailing at) = codes "the component ends before byte " ++ decimal at
file_fault_text NoMemory = codes "out of memory"

-- what the text of a fault says before its place, and after it if it tells one
abbrev pub IsWordsOf : FileFault → List ℕ → Option (List ℕ) → Type 0
IsWordsOf fault before (Some after) = file_fault_text fault ≡ before ++ decimal (fault_place fault) ++ after
IsWordsOf fault text None = file_fault_text fault ≡ text
