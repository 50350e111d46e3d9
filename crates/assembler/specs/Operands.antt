-- The operands of items, where the lines before have made a draft.
use Rattle.std.specs.Prelude.{true, ℕ, zero, suc, List, [], ◌∷◌, ◌++◌, Some, None, unwrap_or}
use Rattle.cap_words.specs.Stretch.{Stretch}
use Rattle.component_file.specs.declared.component.Area.{Area}
use Rattle.component_file.specs.declared.component.Kind.{Kind}
use Rattle.component_file.specs.declared.component.Kind.TheVariants as kind
use Rattle.assembler.specs.declared.labels.Section.{Section}
use Rattle.assembler.specs.declared.labels.Section.TheVariants.{Code, Data}
use Rattle.assembler.specs.Labels.{offset_of}
use Rattle.asm_fields.specs.declared.fault.AsmFault.{AsmFault}
use Rattle.asm_fields.specs.declared.directives.ItemKind.{ItemKind}
use Rattle.asm_fields.specs.declared.directives.ItemKind.TheVariants as item
use Rattle.readers.specs.Readers.{Reader, ◌>>=◌, done}
use Rattle.asm_fields.specs.Fields.{Input, proper_name_at}
use Rattle.asm_fields.specs.Operands.{address_at, stretch_at, Offset, Number, Label, offset_at, shared_at}
use Rattle.asm_fields.specs.Operands.{KindField, Plain, Pc, kind_at}
use Rattle.assembler.specs.Tables.{with_import, with_export, with_site, with_row}
use Rattle.assembler.specs.Draft.{Draft, with_header, with_tables}

-- ---- offsets

-- the number of an offset. All labels stand before the tables, so a label there is known, or missing: then it
-- is 0 for now. Either way the reference is kept
abbrev pub offset_found : Section → Offset → Draft → ℕ × Draft
offset_found section (Number n) d = (n, d)
offset_found section (Label at name) d = (
  unwrap_or (offset_of section name d.labels) 0,
  record d {
    references = d.references ++ record { word = None; at = at; section = section; name = name } ∷ [];
  },
)

unfoldable pub offset_operand : Section → Draft → Reader Input AsmFault (ℕ × Draft)
offset_operand section d = offset_at >>= λ o. done (offset_found section o d)

-- ---- rows

abbrev pub kind_found : KindField → Draft → Kind × Draft
kind_found (Plain k) d = (k, d)
kind_found (Pc o) d = (kind.Pc (offset_found Code o d).0, (offset_found Code o d).1)

unfoldable pub kind_in : Draft → Reader Input AsmFault (Kind × Draft)
kind_in d = kind_at >>= λ k. done (kind_found k d)

-- so many kinds
unfoldable pub kinds_in : ℕ → Draft → Reader Input AsmFault (List Kind × Draft)
kinds_in zero d = done ([], d)
kinds_in (suc n) d = do
  first ← kind_in d
  others ← kinds_in n first.1
  done (first.0 ∷ others.0, others.1)

-- ---- items, each by the place at which it stands

abbrev pub seals_of : Area → Stretch
seals_of a = record { base = a.base; count = a.count }

-- PART NAME SLOT
unfoldable pub import_in : ℕ → Draft → Reader Input AsmFault Draft
import_in at d = do
  part ← proper_name_at
  name ← proper_name_at
  slot ← offset_operand Data d
  let new = with_import at (record { part = part; name = name; slot = slot.0 }) slot.1.tables in
      done (with_tables new slot.1)

-- NAME OFF shared, or NAME OFF own
unfoldable pub export_in : ℕ → Draft → Reader Input AsmFault Draft
export_in at d = do
  name ← proper_name_at
  off ← offset_operand Code d
  shared ← shared_at
  let new = with_export at (record { name = name; offset = off.0; shared = shared }) off.1.tables in
      done (with_tables new off.1)

-- OFF
unfoldable pub site_in : ℕ → Draft → Reader Input AsmFault Draft
site_in at d = do
  off ← offset_operand Code d
  done (with_tables (with_site at off.0 off.1.tables) off.1)

-- OFF
unfoldable pub fail_in : Draft → Reader Input AsmFault Draft
fail_in d = do
  off ← offset_operand Code d
  done (with_tables (record off.1.tables { fail_at = Some off.0 }) off.1)

-- OFF
unfoldable pub literal_in : Draft → Reader Input AsmFault Draft
literal_in d = do
  off ← offset_operand Code d
  done (with_tables (record off.1.tables { literal_at = Some off.0 }) off.1)

-- OFF, and the kinds of the registers 1 to 15
unfoldable pub row_in : ℕ → Draft → Reader Input AsmFault Draft
row_in at d = do
  off ← offset_operand Code d
  kinds ← kinds_in 15 off.1
  done (with_tables (with_row at (record { offset = off.0; kinds = kinds.0 }) kinds.1.tables) kinds.1)

-- what an item says
abbrev pub operands_in : ℕ → ItemKind → Draft → Reader Input AsmFault Draft
operands_in at item.Name d = proper_name_at >>= λ name.
    done (with_header (record d.header { name = name }) d)
operands_in at item.Stack d = address_at >>= λ n. done (with_header (record d.header { stack_base = n }) d)
operands_in at item.Closure d = address_at >>= λ n. done (with_header (record d.header { closure = n }) d)
operands_in at item.Movable d = done (with_header (record d.header { movable = true }) d)
operands_in at item.Seals d =
    stretch_at >>= λ a. done (with_header (record d.header { seals = seals_of a }) d)
operands_in at item.Linear d = stretch_at >>= λ a. done (with_header (record d.header { linear = a }) d)
operands_in at item.Code d = address_at >>= λ n. done (with_header (record d.header { code_base = n }) d)
operands_in at item.Data d = address_at >>= λ n. done (with_header (record d.header { data_base = n }) d)
operands_in at item.Import d = import_in at d
operands_in at item.Export d = export_in at d
operands_in at item.Site d = site_in at d
operands_in at item.Fail d = fail_in d
operands_in at item.Literal d = literal_in d
operands_in at item.Row d = row_in at d
