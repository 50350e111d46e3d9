-- The text of a component: its items in their order, each in a line.
use Rattle.std.specs.Prelude.{ℕ, Bool, true, false, ◌==◌, if◌then◌else◌, ◌++◌, List, [], ◌∷◌, codes, decimal}
use Rattle.std.specs.Prelude.{ℤ, Option, Some, None}
use Rattle.std.specs.List.{flat_map, concat}
use Rattle.std.specs.Fmt.{signed_decimal}
use Rattle.cap_words.specs.declared.Word.{Word}
use Rattle.cap_words.specs.declared.Word.TheVariants.{Int, Mem, Seal, Sealed}
use Rattle.cap_words.specs.Text.{perm_name, lin_name, field_text, newline}
use Rattle.lcm_isa.specs.declared.Instr.{Instr}
use Rattle.lcm_isa.specs.Numbers.{decode_of}
use Rattle.lcm_isa.specs.Texts.{instr_text}
use Rattle.component_file.specs.declared.component.Kind.{Kind}
use Rattle.component_file.specs.declared.component.Kind.TheVariants.{Pc}
use Rattle.component_file.specs.declared.component.Import.{Import}
use Rattle.component_file.specs.declared.component.Export.{Export}
use Rattle.component_file.specs.declared.component.KindRow.{KindRow}
use Rattle.component_file.specs.declared.component.ComponentFields.{ComponentFields}
use Rattle.asm_fields.specs.declared.directives.ItemKind.{ItemKind}
use Rattle.asm_fields.specs.declared.directives.ItemKind.TheVariants as item
use Rattle.asm_fields.specs.declared.directives.WordKind.TheVariants as kind
use Rattle.asm_fields.specs.declared.directives.Directive.{Directive}
use Rattle.asm_fields.specs.declared.directives.Directive.TheVariants as directive
use Rattle.asm_fields.specs.Fields.{dot}
use Rattle.asm_fields.specs.Directives.{directive_name}
use Rattle.asm_fields.specs.Names.{kind_name, ownership}

-- ---- lines

-- a directive, its operands, and a newline
abbrev pub directive_line : Directive → List (List ℕ) → List ℕ
directive_line d operands = dot ∷ directive_name d ++ (flat_map field_text operands ++ newline)

abbrev pub item_line : ItemKind → List (List ℕ) → List ℕ
item_line i operands = directive_line (directive.Of i) operands

-- ---- words

-- a word of the data; no component has a sealed one
abbrev pub word_line : Word → List ℕ
word_line (Int n) = directive_line (directive.Word kind.Int) (signed_decimal n ∷ [])
word_line (Mem c) = directive_line (directive.Word kind.Cap)
    (perm_name c.perm ∷ lin_name c.lin ∷ decimal c.base ∷ decimal c.end ∷ signed_decimal c.addr ∷ [])
word_line (Seal s) = directive_line (directive.Word kind.Seal)
    (decimal s.base ∷ decimal s.end ∷ signed_decimal s.cur ∷ [])
word_line (Sealed seal content) = []

-- an integer of the code: the instruction that it is, if it is one
abbrev pub integer_line : ℤ → Option Instr → List ℕ
integer_line n (Some i) = instr_text i ++ newline
integer_line n None = word_line (Int n)

-- a word of the code
abbrev pub code_line : Word → List ℕ
code_line (Int n) = integer_line n (decode_of n)
code_line w = word_line w

-- ---- items

-- an item without operands; nothing where it isn't so
abbrev pub flag_line : ItemKind → Bool → List ℕ
flag_line i false = []
flag_line i true = item_line i []

-- nothing where nothing is counted
abbrev pub stretch_line : ItemKind → ℕ → ℕ → List ℕ
stretch_line i base count = if count == 0 then [] else item_line i (decimal base ∷ decimal count ∷ [])

-- nothing where the offset is missing
abbrev pub optional_line : ItemKind → Option ℕ → List ℕ
optional_line i None = []
optional_line i (Some offset) = item_line i (decimal offset ∷ [])

abbrev pub import_line : Import → List ℕ
import_line i = item_line item.Import (i.part ∷ i.name ∷ decimal i.slot ∷ [])

abbrev pub export_line : Export → List ℕ
export_line e = item_line item.Export (e.name ∷ decimal e.offset ∷ ownership e.shared ∷ [])

abbrev pub site_line : ℕ → List ℕ
site_line offset = item_line item.Site (decimal offset ∷ [])

-- what a register holds
abbrev pub kind_fields : Kind → List (List ℕ)
kind_fields (Pc offset) = kind_name (Pc offset) ∷ decimal offset ∷ []
kind_fields k = kind_name k ∷ []

abbrev pub row_line : KindRow → List ℕ
row_line r = item_line item.Row (decimal r.offset ∷ flat_map kind_fields r.kinds)

-- ---- the text

unfoldable pub disassembled : ComponentFields → List ℕ
disassembled c = concat (
    item_line item.Name (c.name ∷ [])
    ∷ item_line item.Stack (decimal c.stack_base ∷ [])
    ∷ item_line item.Closure (decimal c.closure ∷ [])
    ∷ flag_line item.Movable c.movable
    ∷ stretch_line item.Seals c.seals.base c.seals.count
    ∷ stretch_line item.Linear c.linear.base c.linear.count
    ∷ item_line item.Code (decimal c.code_base ∷ [])
    ∷ flat_map code_line c.code
    ∷ item_line item.Data (decimal c.data_base ∷ [])
    ∷ flat_map word_line c.data_words
    ∷ flat_map import_line c.imports
    ∷ flat_map export_line c.exports
    ∷ flat_map site_line c.sites
    ∷ optional_line item.Fail c.fail_at
    ∷ optional_line item.Literal c.literal_at
    ∷ flat_map row_line c.rows
    ∷ [])
