-- The labels of a text.
use Rattle.std.specs.Prelude.{ℕ, ◌<◌, Bool, true, false, List, [], ◌∷◌, Option, Some, None, if◌then◌else◌}
use Rattle.std.specs.Str.{bytes_eq}
use Rattle.cap_words.specs.declared.TheConstants.{LONGEST_STRETCH}
use Rattle.assembler.specs.declared.labels.Section.{Section}
use Rattle.assembler.specs.declared.labels.Section.TheVariants.{Code, Data}
use Rattle.assembler.specs.declared.labels.Label.{Label}

-- the first label of a name
abbrev pub label_of : List ℕ → List (List ℕ × Label) → Option Label
label_of name [] = None
label_of name (l ∷ labels) = if bytes_eq name l.0 then Some l.1 else label_of name labels

abbrev pub same_section : Section → Section → Bool
same_section Code Code = true
same_section Data Data = true
same_section Code Data = false
same_section Data Code = false

abbrev pub is_in : Section → Label → Bool
is_in section label = same_section section label.section

abbrev pub offset_in : Section → Option Label → Option ℕ
offset_in section (Some label) = if is_in section label then Some label.offset else None
offset_in section None = None

-- the offset of the label of a name, where it stands in the section
abbrev pub offset_of : Section → List ℕ → List (List ℕ × Label) → Option ℕ
offset_of section name labels = offset_in section (label_of name labels)

-- a section has at most 65,536 words
abbrev pub AreWithin : List (List ℕ × Label) → Type 0
AreWithin [] = Unit {0}
AreWithin (l ∷ labels) = (l.1.offset < LONGEST_STRETCH) × AreWithin labels
