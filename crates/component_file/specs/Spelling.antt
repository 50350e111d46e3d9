-- The bytes of a component, field after field. Numbers are little endian.
use Rattle.std.specs.Prelude.{◌≡◌, ℕ, ◌<◌, ◌++◌, Bool, true, false, List, [], ◌∷◌, length, codes, Option}
use Rattle.std.specs.Prelude.{Some, None}
use Rattle.std.specs.List.{flat_map, concat}
use Rattle.cap_words.specs.WordBytes.{number_bytes, word_bytes_of}
use Rattle.component_file.specs.declared.TheConstants.{FIXED_VERSION, MOVABLE_VERSION}
use Rattle.component_file.specs.Limits.{IsComponent}
use Rattle.component_file.specs.declared.component.Kind.{Kind}
use Rattle.component_file.specs.declared.component.Kind.TheVariants.{Any, Int, DataCap, Stk, Pc, Top}
use Rattle.component_file.specs.declared.component.Import.{Import}
use Rattle.component_file.specs.declared.component.Export.{Export}
use Rattle.component_file.specs.declared.component.KindRow.{KindRow}
use Rattle.component_file.specs.declared.component.ComponentFields.{ComponentFields}

abbrev pub u16_bytes : ℕ → List ℕ
u16_bytes n = number_bytes 2 n

abbrev pub u32_bytes : ℕ → List ℕ
u32_bytes n = number_bytes 4 n

-- a byte of length, and the bytes
abbrev pub name_bytes : List ℕ → List ℕ
name_bytes text = length text ∷ text

-- a count, and a base
unfoldable pub stretch_bytes : ℕ → ℕ → List ℕ
stretch_bytes base count = u32_bytes count ++ u32_bytes base

-- a count, a number of len bytes, and that many items
unfoldable pub list_bytes : {A : Type 0} → ℕ → (A → List ℕ) → List A → List ℕ
list_bytes len item items = number_bytes len (length items) ++ flat_map item items

unfoldable pub import_bytes : Import → List ℕ
import_bytes i = name_bytes i.part ++ (name_bytes i.name ++ u32_bytes i.slot)

abbrev pub flag_byte : Bool → ℕ
flag_byte false = 0
flag_byte true = 1

unfoldable pub export_bytes : Export → List ℕ
export_bytes e = name_bytes e.name ++ (u32_bytes e.offset ++ (flag_byte e.shared ∷ []))

abbrev pub optional_bytes : Option ℕ → List ℕ
optional_bytes None = 0 ∷ []
optional_bytes (Some n) = 1 ∷ u32_bytes n

-- the byte that tells a kind
unfoldable pub kind_tag : Kind → ℕ
kind_tag Any = 0
kind_tag Int = 1
kind_tag DataCap = 2
kind_tag Stk = 3
kind_tag (Pc offset) = 4
kind_tag Top = 5

abbrev pub kind_bytes : Kind → List ℕ
kind_bytes (Pc offset) = kind_tag (Pc offset) ∷ u32_bytes offset
kind_bytes k = kind_tag k ∷ []

unfoldable pub row_bytes : KindRow → List ℕ
row_bytes r = u32_bytes r.offset ++ flat_map kind_bytes r.kinds

abbrev pub version_of : Bool → ℕ
version_of false = FIXED_VERSION
version_of true = MOVABLE_VERSION

abbrev pub magic : List ℕ
magic = codes "STKC"

unfoldable pub spelling : ComponentFields → List ℕ
spelling c = concat (
    magic ∷ u16_bytes (version_of c.movable)
    ∷ name_bytes c.name ∷ u32_bytes c.stack_base ∷ u32_bytes c.closure
    ∷ stretch_bytes c.seals.base c.seals.count ∷ stretch_bytes c.linear.base c.linear.count
    ∷ u32_bytes c.code_base ∷ list_bytes 4 word_bytes_of c.code
    ∷ u32_bytes c.data_base ∷ list_bytes 4 word_bytes_of c.data_words
    ∷ list_bytes 2 import_bytes c.imports
    ∷ list_bytes 2 export_bytes c.exports
    ∷ list_bytes 2 u32_bytes c.sites
    ∷ optional_bytes c.fail_at ∷ optional_bytes c.literal_at
    ∷ list_bytes 4 row_bytes c.rows
    ∷ [])

-- the bytes are the spelling of the component
abbrev pub SpellsComponent : List ℕ → ComponentFields → Type 0
SpellsComponent bytes c = IsComponent c × (bytes ≡ spelling c)

-- ---- what can be written

abbrev pub Always : {A : Type 0} → A → Type 0
Always x = Unit {0}

-- a length that a byte can hold
abbrev pub NamesAreShort : Import → Type 0
NamesAreShort i = (length i.part < 256) × (length i.name < 256)

abbrev pub NameIsShort : Export → Type 0
NameIsShort e = length e.name < 256
