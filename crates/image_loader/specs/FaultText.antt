-- How the faults of an image print.
use Rattle.std.specs.Prelude.{ℕ, ◌++◌, List, codes, decimal}
use Rattle.component_file.specs.FaultText.{file_fault_text}
use Rattle.linked_starts.specs.FaultText.{rule_at_text}
use Rattle.image_loader.specs.declared.fault.ImageFault.{ImageFault}
use Rattle.image_loader.specs.declared.fault.ImageFault.TheVariants.{Magic, Version, Short, BadField}
use Rattle.image_loader.specs.declared.fault.ImageFault.TheVariants.{Trailing, File, Rule, NoMemory}

abbrev pub image_fault_text : ImageFault → List ℕ
image_fault_text Magic = codes "the image does not begin with STKI"
image_fault_text Version = codes "the version is not 1"
image_fault_text (Short at) = codes "the image ends within the field at byte " ++ decimal at
image_fault_text (BadField at) = codes "the field at byte " ++ decimal at ++ codes " is not valid"
image_fault_text (Trailing at) = codes "the image ends before byte " ++ decimal at
image_fault_text (File part fault) = codes "part " ++ decimal part ++ codes ": " ++ file_fault_text fault
image_fault_text (Rule at) = rule_at_text at
image_fault_text NoMemory = codes "out of memory"
