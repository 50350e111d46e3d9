-- Reading a component field after field, with the first fault that is met.
use Rattle.std.specs.Prelude.{ℕ, ◌==◌, nat_lt, Bool, true, false, List, [], ◌∷◌, slice_get}
use Rattle.std.specs.Prelude.{Option, Some, None, option_map, Result, Ok, Err, if◌then◌else◌}
use Rattle.std.specs.Str.{bytes_eq}
use Rattle.cap_words.specs.declared.TheConstants.{LONGEST_STRETCH}
use Rattle.cap_words.specs.declared.Word.{Word}
use Rattle.cap_words.specs.declared.bytes.cursor.FieldFault.{FieldFault}
use Rattle.cap_words.specs.declared.bytes.cursor.FieldFault.TheVariants as field_faults
use Rattle.cap_words.specs.Stretch.{Stretch}
use Rattle.readers.specs.Readers.{Reader, ◌>>=◌, done, unless_none, holds, telling, items_from}
use Rattle.readers.specs.Places.{here, read_whole}
use Rattle.cap_words.specs.Reading.{Input, meant, within, next_bytes, next_byte, next_number}
use Rattle.cap_words.specs.WordReading.{next_in_space, next_unsealed}
use Rattle.component_file.specs.declared.TheConstants.{LAST_OFFSET, MOST_WORDS, FIXED_VERSION}
use Rattle.component_file.specs.declared.TheConstants.{MOVABLE_VERSION}
use Rattle.component_file.specs.declared.TheConstants.{MOST_IMPORTS, MOST_EXPORTS, MOST_SITES, MOST_ROWS}
use Rattle.component_file.specs.declared.fault.FileFault.{FileFault}
use Rattle.component_file.specs.declared.fault.FileFault.TheVariants.{Magic, Version, Order, Trailing}
use Rattle.component_file.specs.declared.component.Kind.{Kind}
use Rattle.component_file.specs.declared.component.Kind.TheVariants.{Any, Int, DataCap, Stk, Pc, Top}
use Rattle.component_file.specs.declared.component.Import.{Import}
use Rattle.component_file.specs.declared.component.Export.{Export}
use Rattle.component_file.specs.declared.component.KindRow.{KindRow}
use Rattle.component_file.specs.declared.component.ComponentFields.{ComponentFields}
use Rattle.component_file.specs.Fault.{in_file}
use Rattle.cap_words.specs.Names.{is_name}
use Rattle.component_file.specs.Limits.{ascends, name_lt, last_base}
use Rattle.component_file.specs.Spelling.{magic}

-- ---- fields

-- a field of the file
abbrev pub field : {A : Type 0} → Reader Input FieldFault A → Reader Input FileFault A
field r = telling in_file r

-- a field in parts, of which each can only be short, is short at its first byte
abbrev pub short_at : {A : Type 0} → ℕ → Result A FieldFault → Result A FieldFault
short_at at (Ok x) = Ok x
short_at at (Err e) = Err (field_faults.Short at)

unfoldable pub next_text : Reader Input FieldFault (List ℕ)
next_text i = short_at i.at ((next_byte >>= next_bytes) i)

abbrev pub name_meant : List ℕ → Option (List ℕ)
name_meant text = if is_name text then Some text else None

abbrev pub next_name : Reader Input FieldFault (List ℕ)
next_name = meant name_meant next_text

-- an address, or a seal
abbrev pub next_address : Reader Input FieldFault ℕ
next_address = next_in_space 0

-- an offset in code or data
abbrev pub next_offset : Reader Input FieldFault ℕ
next_offset = meant (within 0 LAST_OFFSET) (next_number 4)

-- a count, and the base, which is 0 where nothing is counted
unfoldable pub next_stretch : Reader Input FieldFault Stretch
next_stretch = do
  count ← meant (within 0 LONGEST_STRETCH) (next_number 4)
  base ← meant (within 0 (last_base count)) (next_number 4)
  done (record { base = base; count = count })

abbrev pub flag_meant : ℕ → Option Bool
flag_meant n = slice_get (false ∷ true ∷ []) n

abbrev pub next_flag : Reader Input FieldFault Bool
next_flag = meant flag_meant next_byte

unfoldable pub next_optional : Reader Input FieldFault (Option ℕ)
next_optional = do
  given ← next_flag
  if given then (next_offset >>= λ n. done (Some n)) else done None

-- every kind but Pc is its tag
abbrev pub plain_kind : ℕ → Option Kind
plain_kind tag =
    if tag == 0 then Some Any else if tag == 1 then Some Int else if tag == 2 then Some DataCap
    else if tag == 3 then Some Stk else if tag == 5 then Some Top else None

unfoldable pub next_kind : Reader Input FieldFault Kind
next_kind = do
  at ← here
  tag ← next_byte
  if tag == 4 then (next_offset >>= λ offset. done (Pc offset)) else unless_none (field_faults.BadField at)
      (plain_kind tag)

-- ---- lists

-- so many items one after another, each told the one before it
abbrev pub next_items : {A : Type 0}
    → (Option A → Reader Input FileFault A) → ℕ → Option A → Reader Input FileFault (List A)
next_items item n before = items_from (λ _ x. Some x) item n before

-- a count from low to high, a number of len bytes, and that many items
unfoldable pub next_list : {A : Type 0}
    → ℕ → ℕ → ℕ → (Option A → Reader Input FileFault A) → Reader Input FileFault (List A)
next_list len low high item = do
  count ← field (meant (within low high) (next_number len))
  next_items item count None

-- a word of the code or the data
unfoldable pub next_part_word : Option Word → Reader Input FileFault Word
next_part_word before = field next_unsealed

-- slots ascend
unfoldable pub next_import : Option Import → Reader Input FileFault Import
next_import before = do
  at ← here
  part ← field next_name
  name ← field next_name
  slot ← field next_offset
  _ ← holds (ascends nat_lt (option_map (λ b. b.slot) before) slot) (Order at)
  done (record { part = part; name = name; slot = slot })

-- names ascend
unfoldable pub next_export : Option Export → Reader Input FileFault Export
next_export before = do
  at ← here
  name ← field next_name
  _ ← holds (ascends name_lt (option_map (λ b. b.name) before) name) (Order at)
  offset ← field next_offset
  shared ← field next_flag
  done (record { name = name; offset = offset; shared = shared })

-- sites ascend
unfoldable pub next_site : Option ℕ → Reader Input FileFault ℕ
next_site before = do
  at ← here
  site ← field next_offset
  _ ← holds (ascends nat_lt before site) (Order at)
  done site

-- offsets ascend
unfoldable pub next_row : Option KindRow → Reader Input FileFault KindRow
next_row before = do
  at ← here
  offset ← field next_offset
  _ ← holds (ascends nat_lt (option_map (λ b. b.offset) before) offset) (Order at)
  kinds ← next_items (λ _. field next_kind) 15 None
  done (record { offset = offset; kinds = kinds })

-- ---- the component

-- whether a component of this version is movable
abbrev pub version_meant : ℕ → Option Bool
version_meant n = if n == FIXED_VERSION then Some false else if n == MOVABLE_VERSION then Some true else None

-- the magic and the version, which tells whether it is movable
unfoldable pub next_header : Reader Input FileFault Bool
next_header = do
  four ← field (next_bytes 4)
  _ ← holds (bytes_eq four magic) Magic
  version ← field (next_number 2)
  unless_none Version (version_meant version)

unfoldable pub next_words : Reader Input FileFault (List Word)
next_words = next_list 4 1 MOST_WORDS next_part_word

unfoldable pub next_component : Reader Input FileFault ComponentFields
next_component = do
  movable ← next_header
  name ← field next_name
  stack_base ← field next_address
  closure ← field next_address
  seals ← field next_stretch
  linear ← field next_stretch
  code_base ← field next_address
  code ← next_words
  data_base ← field next_address
  data_words ← next_words
  imports ← next_list 2 0 MOST_IMPORTS next_import
  exports ← next_list 2 0 MOST_EXPORTS next_export
  sites ← next_list 2 0 MOST_SITES next_site
  fail_at ← field next_optional
  literal_at ← field next_optional
  rows ← next_list 4 0 MOST_ROWS next_row
  done (record {
    name = name;
    stack_base = stack_base;
    closure = closure;
    seals = seals;
    linear = record { base = linear.base; count = linear.count };
    code_base = code_base;
    code = code;
    data_base = data_base;
    data_words = data_words;
    imports = imports;
    exports = exports;
    sites = sites;
    fail_at = fail_at;
    literal_at = literal_at;
    rows = rows;
    movable = movable;
  })

-- the component that the bytes spell, or their first fault; nothing may follow it
unfoldable pub decoded : List ℕ → Result ComponentFields FileFault
decoded bytes = read_whole Trailing next_component bytes
