-- The parts in which a component is read, and written.
use Rattle.std.specs.Prelude.{ℕ, List, [], ◌∷◌}
use Rattle.cap_words.specs.WordBytes.{word_bytes_of}
use Rattle.readers.specs.Readers.{Reader, ◌>>=◌, done}
use Rattle.cap_words.specs.Reading.{Input}
use Rattle.component_file.specs.declared.TheConstants.{MOST_IMPORTS, MOST_EXPORTS, MOST_SITES, MOST_ROWS}
use Rattle.component_file.specs.declared.fault.FileFault.{FileFault}
use Rattle.component_file.specs.declared.component.ComponentFields.{ComponentFields}
use Rattle.component_file.specs.declared.reading.Head.{Head}
use Rattle.component_file.specs.declared.reading.Memory.{Memory}
use Rattle.component_file.specs.declared.reading.Calls.{Calls}
use Rattle.component_file.specs.declared.reading.Declared.{Declared}
use Rattle.component_file.specs.Reading.{field, next_header, next_name, next_address, next_stretch}
use Rattle.component_file.specs.Reading.{next_words, next_list, next_import, next_export, next_site}
use Rattle.component_file.specs.Reading.{next_optional, next_row}
use Rattle.component_file.specs.Spelling.{magic, version_of, u16_bytes, u32_bytes, name_bytes, stretch_bytes}
use Rattle.component_file.specs.Spelling.{list_bytes, optional_bytes, import_bytes, export_bytes, row_bytes}

unfoldable pub next_head : Reader Input FileFault Head
next_head = do
  movable ← next_header
  name ← field next_name
  stack_base ← field next_address
  closure ← field next_address
  seals ← field next_stretch
  linear ← field next_stretch
  done (record {
    movable = movable;
    name = name;
    stack_base = stack_base;
    closure = closure;
    seals = seals;
    linear = record { base = linear.base; count = linear.count };
  })

unfoldable pub next_memory : Reader Input FileFault Memory
next_memory = do
  code_base ← field next_address
  code ← next_words
  data_base ← field next_address
  data_words ← next_words
  done (record { code_base = code_base; code = code; data_base = data_base; data_words = data_words })

unfoldable pub next_calls : Reader Input FileFault Calls
next_calls = do
  imports ← next_list 2 0 MOST_IMPORTS next_import
  exports ← next_list 2 0 MOST_EXPORTS next_export
  sites ← next_list 2 0 MOST_SITES next_site
  done (record { imports = imports; exports = exports; sites = sites })

unfoldable pub next_declared : Reader Input FileFault Declared
next_declared = do
  fail_at ← field next_optional
  literal_at ← field next_optional
  rows ← next_list 4 0 MOST_ROWS next_row
  done (record { fail_at = fail_at; literal_at = literal_at; rows = rows })

abbrev pub joined : Head → Memory → Calls → Declared → ComponentFields
joined head memory calls declared = record {
  name = head.name;
  stack_base = head.stack_base;
  closure = head.closure;
  seals = head.seals;
  linear = head.linear;
  code_base = memory.code_base;
  code = memory.code;
  data_base = memory.data_base;
  data_words = memory.data_words;
  imports = calls.imports;
  exports = calls.exports;
  sites = calls.sites;
  fail_at = declared.fail_at;
  literal_at = declared.literal_at;
  rows = declared.rows;
  movable = head.movable;
}

-- a component is its parts, one after another
unfoldable pub next_parts : Reader Input FileFault ComponentFields
next_parts = do
  head ← next_head
  memory ← next_memory
  calls ← next_calls
  declared ← next_declared
  done (joined head memory calls declared)

-- ---- the bytes of each part, in the pieces that are written one after another

unfoldable pub head_pieces : ComponentFields → List (List ℕ)
head_pieces c =
    magic ∷ u16_bytes (version_of c.movable)
    ∷ name_bytes c.name ∷ u32_bytes c.stack_base ∷ u32_bytes c.closure
    ∷ stretch_bytes c.seals.base c.seals.count ∷ stretch_bytes c.linear.base c.linear.count
    ∷ []

unfoldable pub memory_pieces : ComponentFields → List (List ℕ)
memory_pieces c =
    u32_bytes c.code_base ∷ list_bytes 4 word_bytes_of c.code
    ∷ u32_bytes c.data_base ∷ list_bytes 4 word_bytes_of c.data_words
    ∷ []

unfoldable pub calls_pieces : ComponentFields → List (List ℕ)
calls_pieces c =
    list_bytes 2 import_bytes c.imports ∷ list_bytes 2 export_bytes c.exports
    ∷ list_bytes 2 u32_bytes c.sites
    ∷ []

unfoldable pub declared_pieces : ComponentFields → List (List ℕ)
declared_pieces c =
    optional_bytes c.fail_at ∷ optional_bytes c.literal_at ∷ list_bytes 4 row_bytes c.rows
    ∷ []
