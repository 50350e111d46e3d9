-- The parts in which a component is written as a text, each in the lines that are written one after another.
use Rattle.std.specs.Prelude.{ℕ, List, [], ◌∷◌, decimal}
use Rattle.std.specs.List.{flat_map}
use Rattle.asm_fields.specs.declared.directives.ItemKind.TheVariants as item
use Rattle.component_file.specs.declared.component.ComponentFields.{ComponentFields}
use Rattle.disassembler.specs.Disassembled.{item_line, flag_line, stretch_line, code_line, word_line}
use Rattle.disassembler.specs.Disassembled.{import_line, export_line, site_line, optional_line, row_line}

unfoldable pub head_lines : ComponentFields → List (List ℕ)
head_lines c =
    item_line item.Name (c.name ∷ [])
    ∷ item_line item.Stack (decimal c.stack_base ∷ [])
    ∷ item_line item.Closure (decimal c.closure ∷ [])
    ∷ flag_line item.Movable c.movable
    ∷ stretch_line item.Seals c.seals.base c.seals.count
    ∷ stretch_line item.Linear c.linear.base c.linear.count
    ∷ []

unfoldable pub memory_lines : ComponentFields → List (List ℕ)
memory_lines c =
    item_line item.Code (decimal c.code_base ∷ [])
    ∷ flat_map code_line c.code
    ∷ item_line item.Data (decimal c.data_base ∷ [])
    ∷ flat_map word_line c.data_words
    ∷ []

unfoldable pub table_lines : ComponentFields → List (List ℕ)
table_lines c =
    flat_map import_line c.imports
    ∷ flat_map export_line c.exports
    ∷ flat_map site_line c.sites
    ∷ optional_line item.Fail c.fail_at
    ∷ optional_line item.Literal c.literal_at
    ∷ flat_map row_line c.rows
    ∷ []
