-- The component that a text spells, or its first fault.
use Rattle.std.specs.Prelude.{ℕ, List, Option, Some, None, Result, Ok, Err}
use Rattle.readers.specs.Readers.{told_by}
use Rattle.readers.specs.Results.{◌>>=◌}
use Rattle.text_scan.specs.Tokens.{scanned}
use Rattle.cap_words.specs.declared.Word.{Word}
use Rattle.component_file.specs.declared.component.ComponentFields.{ComponentFields}
use Rattle.assembler.specs.References.{resolved}
use Rattle.asm_fields.specs.declared.fault.AsmFault.{AsmFault}
use Rattle.asm_fields.specs.declared.fault.AsmFault.TheVariants.{LabelMissing, Section}
use Rattle.asm_fields.specs.Fault.{of_scan}
use Rattle.assembler.specs.Draft.{Draft}
use Rattle.assembler.specs.Whole.{draft_of_text}

-- A text is read in four passes. The first pass that finds a fault tells its first one.

-- each reference has its label: the code, in which each word has what it waits for
abbrev pub none_missing : Draft → Result (List Word) AsmFault
none_missing d = told_by (λ m. LabelMissing m.at) (resolved d.labels d.references d.code)

-- no item of a table is out of order
abbrev pub in_order : Option ℕ → Result (Unit {0}) AsmFault
in_order (Some at) = Err (Section at)
in_order None = Ok tt

-- what a draft says, with this code
abbrev pub component_of : Draft → List Word → ComponentFields
component_of d code = record {
  name = d.header.name;
  stack_base = d.header.stack_base;
  closure = d.header.closure;
  seals = d.header.seals;
  linear = d.header.linear;
  code_base = d.header.code_base;
  code = code;
  data_base = d.header.data_base;
  data_words = d.data_words;
  imports = d.tables.imports;
  exports = d.tables.exports;
  sites = d.tables.sites;
  fail_at = d.tables.fail_at;
  literal_at = d.tables.literal_at;
  rows = d.tables.rows;
  movable = d.header.movable;
}

unfoldable pub finished : Draft → Result ComponentFields AsmFault
finished d = do
  code ← none_missing d
  _ ← in_order d.tables.out_of_order
  Ok (component_of d code)

-- tokens, lines, labels that are missing, tables out of order
unfoldable pub assembled : List ℕ → Result ComponentFields AsmFault
assembled text = do
  tokens ← told_by of_scan (scanned text)
  draft ← draft_of_text text tokens
  finished draft
