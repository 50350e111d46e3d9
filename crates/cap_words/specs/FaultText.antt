-- How faults print: those of a field, and what others have in common.
use Rattle.std.specs.Prelude.{ℕ, ◌++◌, List, codes, decimal}
use Rattle.cap_words.specs.declared.bytes.cursor.FieldFault.{FieldFault}
use Rattle.cap_words.specs.declared.bytes.cursor.FieldFault.TheVariants.{Short, BadField}

-- what is wrong at a byte
abbrev pub at_byte : ℕ → List ℕ → List ℕ
at_byte at what = codes "byte " ++ decimal at ++ what

abbrev pub field_fault_text : FieldFault → List ℕ
field_fault_text (Short at) = codes "the bytes end within the field at byte " ++ decimal at
field_fault_text (BadField at) = codes "the field at byte " ++ decimal at ++ codes " is not valid"
