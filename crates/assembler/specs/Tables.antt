-- The items after the data: imports, exports, sites, rows, and two offsets.
use Rattle.std.specs.Prelude.{ℕ, ◌-◌, nat_lt, Bool, true, false, List, [], ◌∷◌, ◌++◌, length, slice_get}
use Rattle.std.specs.Prelude.{Option, Some, None, option_map}
use Rattle.component_file.specs.declared.TheConstants.{MOST_IMPORTS, MOST_EXPORTS, MOST_SITES, MOST_ROWS}
use Rattle.component_file.specs.declared.component.Import.{Import}
use Rattle.component_file.specs.declared.component.Export.{Export}
use Rattle.component_file.specs.declared.component.KindRow.{KindRow}
use Rattle.component_file.specs.Limits.{ascends, name_lt}
use Rattle.asm_fields.specs.declared.directives.ItemKind.{ItemKind}
use Rattle.asm_fields.specs.declared.directives.ItemKind.TheVariants as item
use Rattle.assembler.specs.declared.tables.Tables.{Tables as TablesInCode}

-- the items of each table in their order, and the place of the first one in the text that doesn't stand
-- after the one before it in its table
pub record Tables : Type 0 where
  pub imports : List Import
  pub exports : List Export
  pub sites : List ℕ
  pub fail_at : Option ℕ
  pub literal_at : Option ℕ
  pub rows : List KindRow
  pub out_of_order : Option ℕ

abbrev pub tables_seen : TablesInCode → Tables
tables_seen t = record {
  imports = t.imports.items;
  exports = t.exports.items;
  sites = t.sites.items;
  fail_at = t.fail_at;
  literal_at = t.literal_at;
  rows = t.rows.items;
  out_of_order = t.out_of_order;
}

abbrev pub no_tables : Tables
no_tables = record {
  imports = [];
  exports = [];
  sites = [];
  fail_at = None;
  literal_at = None;
  rows = [];
  out_of_order = None;
}

-- whether one more item of its kind may come
abbrev pub has_room : ItemKind → Tables → Bool
has_room item.Import t = nat_lt (length t.imports) MOST_IMPORTS
has_room item.Export t = nat_lt (length t.exports) MOST_EXPORTS
has_room item.Site t = nat_lt (length t.sites) MOST_SITES
has_room item.Row t = nat_lt (length t.rows) MOST_ROWS
has_room _ t = true

abbrev pub last_of : {A : Type 0} → List A → Option A
last_of xs = slice_get xs (length xs - 1)

-- the place of the first item out of order, where one more came at a place
abbrev pub first_out_of_order : Option ℕ → Bool → ℕ → Option ℕ
first_out_of_order (Some before) in_order at = Some before
first_out_of_order None true at = None
first_out_of_order None false at = Some at

-- ---- one more item, which stands at a place

-- slots ascend
abbrev pub with_import : ℕ → Import → Tables → Tables
with_import at i t = record t {
  imports = t.imports ++ i ∷ [];
  out_of_order = first_out_of_order t.out_of_order
      (ascends nat_lt (option_map (λ b. b.slot) (last_of t.imports)) i.slot) at;
}

-- names ascend
abbrev pub with_export : ℕ → Export → Tables → Tables
with_export at e t = record t {
  exports = t.exports ++ e ∷ [];
  out_of_order = first_out_of_order t.out_of_order
      (ascends name_lt (option_map (λ b. b.name) (last_of t.exports)) e.name) at;
}

-- sites ascend
abbrev pub with_site : ℕ → ℕ → Tables → Tables
with_site at site t = record t {
  sites = t.sites ++ site ∷ [];
  out_of_order = first_out_of_order t.out_of_order (ascends nat_lt (last_of t.sites) site) at;
}

-- offsets ascend
abbrev pub with_row : ℕ → KindRow → Tables → Tables
with_row at r t = record t {
  rows = t.rows ++ r ∷ [];
  out_of_order = first_out_of_order t.out_of_order
      (ascends nat_lt (option_map (λ b. b.offset) (last_of t.rows)) r.offset) at;
}
