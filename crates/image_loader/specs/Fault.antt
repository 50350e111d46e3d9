-- The faults of an image.
use Rattle.std.specs.Prelude.{ℕ, Bool, true, false}
use Rattle.cap_words.specs.declared.bytes.cursor.FieldFault.{FieldFault}
use Rattle.cap_words.specs.declared.bytes.cursor.FieldFault.TheVariants as field_faults
use Rattle.component_file.specs.declared.fault.FileFault.{FileFault}
use Rattle.component_file.specs.declared.fault.FileFault.TheVariants as file_faults
use Rattle.component_check.specs.declared.rule.Broken.{Broken}
use Rattle.linked_starts.specs.declared.fault.LinkFault.{LinkFault}
use Rattle.linked_starts.specs.declared.fault.LinkFault.TheVariants as link_faults
use Rattle.image_loader.specs.declared.fault.ImageFault.{ImageFault}
use Rattle.image_loader.specs.declared.fault.ImageFault.TheVariants.{Magic, Version, Short, BadField}
use Rattle.image_loader.specs.declared.fault.ImageFault.TheVariants.{Trailing, File, Rule, NoMemory}

-- the faults by number
abbrev pub fault_number : ImageFault → ℕ
fault_number Magic = 1
fault_number Version = 2
fault_number (Short at) = 3
fault_number (BadField at) = 4
fault_number (Trailing at) = 5
fault_number (File part fault) = 6
fault_number (Rule at) = 7
fault_number NoMemory = 8

-- the place in the image that a fault tells, and 0 where it tells none there
abbrev pub fault_place : ImageFault → ℕ
fault_place (Short at) = at
fault_place (BadField at) = at
fault_place (Trailing at) = at
fault_place _ = 0

-- ---- the faults of the layers below, as the image's

-- of a field of the image's own
abbrev pub in_image : FieldFault → ImageFault
in_image (field_faults.Short at) = Short at
in_image (field_faults.BadField at) = BadField at

-- of a part's component
abbrev pub in_part : ℕ → FileFault → ImageFault
in_part part file_faults.NoMemory = NoMemory
in_part part fault = File part fault

-- of a rule that a part breaks by itself
abbrev pub broken_in : ℕ → Broken → ImageFault
broken_in part b = Rule (record { rule = b.rule; part = part; place = b.place })

-- of linking
abbrev pub not_linked : LinkFault → ImageFault
not_linked (link_faults.Rule at) = Rule at
not_linked link_faults.NoMemory = NoMemory

-- memory was refused
abbrev pub is_refusal : ImageFault → Bool
is_refusal NoMemory = true
is_refusal _ = false
