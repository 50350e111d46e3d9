-- The component of a module.
use Rattle.std.specs.Prelude.{ℕ, ◌+◌, ◌-◌, ◌*◌, ◌==◌, ℤ, pos, List, [], ◌∷◌, ◌++◌, length, map, replicate}
use Rattle.std.specs.Prelude.{sum_by, Option, Some, None, if◌then◌else◌}
use Rattle.cap_words.specs.declared.Word.{Word}
use Rattle.cap_words.specs.declared.Word.TheVariants.{Int, Seal}
use Rattle.lcm_isa.specs.declared.Instr.TheVariants.{Fail}
use Rattle.component_file.specs.declared.component.Import.{Import}
use Rattle.component_file.specs.declared.component.Export.{Export}
use Rattle.component_file.specs.declared.component.Kind.{Kind}
use Rattle.component_file.specs.declared.component.Kind.TheVariants as kind
use Rattle.component_file.specs.declared.component.KindRow.{KindRow}
use Rattle.component_file.specs.declared.component.ComponentFields.{ComponentFields}
use Rattle.component_file.specs.Limits.{name_lt}
use Rattle.proc_language.specs.declared.module.ModuleFields.{ModuleFields}
use Rattle.proc_program.specs.declared.program.ProgramImport as program
use Rattle.proc_program.specs.declared.program.Header.{Header}
use Rattle.proc_program.specs.declared.program.Procedure.{Procedure}
use Rattle.proc_program.specs.declared.program.Program.{Program}
use Rattle.proc_program.specs.StepView.{block_of}
use Rattle.proc_program.specs.Limits.{registers_of}
use Rattle.proc_program.specs.Calls.{part_calls}
use Rattle.proc_program.specs.Lower.{part_of}
use Rattle.proc_templates.specs.declared.FrameShape.{FrameShape}
use Rattle.proc_templates.specs.Items.{Laid, lay, word_of, FAIL_AT, LITERAL_AT}
use Rattle.proc_templates.specs.Templates.{proc_code, before_epilogue, proc_words}

-- ---- frames

-- the words of the data that pairs take up: two for each import and own procedure
abbrev pub pair_count : Program → ℕ
pair_count m = 2 * (length m.imports + length m.procs)

-- the slot of the first temporary: before it stand rcode and rdata, the parameters and the locals
abbrev pub first_temporary : Procedure → ℕ
first_temporary p = 2 + registers_of p.callbacks + p.locals

unfoldable pub frame_of : Program → Procedure → FrameShape
frame_of m p = record {
  words = p.need;
  temps = first_temporary p;
  imports = length m.imports;
  pairs = pair_count m;
}

-- ---- how many words

abbrev pub size_of_proc : Procedure → ℕ
size_of_proc p = proc_words p.need p.callbacks (block_of p.body)

unfoldable pub code_words : Program → ℕ
code_words m = 2 + sum_by size_of_proc m.procs

unfoldable pub data_count : Program → ℕ
data_count m = pair_count m + length m.globals

-- ---- code

-- the seal capability over the return seals, at the first of them
abbrev pub seals_word : Header → Word
seals_word head =
    Seal (record { base = head.returns; end = head.returns + head.return_count - 1; cur = pos head.returns })

abbrev pub literal_of : Program → Word
literal_of m = if part_calls m == 0 then Int (pos 0) else seals_word m.header

abbrev pub head_of : Program → Laid
head_of m = record { code = word_of Fail ∷ literal_of m ∷ []; sites = []; entries = []; labels = [] }

unfoldable pub lay_proc : Program → Laid → Procedure → Laid
lay_proc m l p =
    let f = frame_of m p in
    let body = block_of p.body in
    lay (record { stack_base = m.stack; epilogue = length l.code + before_epilogue f p.callbacks body })
    l (proc_code f p.callbacks body)

abbrev pub lay_procs : Program → Laid → List Procedure → Laid
lay_procs m l [] = l
lay_procs m l (p ∷ ps) = lay_procs m (lay_proc m l p) ps

unfoldable pub laid_of : Program → Laid
laid_of m = lay_procs m (head_of m) m.procs

-- ---- data and slots

abbrev pub int_word : ℤ → Word
int_word z = Int z

unfoldable pub first_data : Program → List Word
first_data m = replicate (pair_count m) (Int (pos 0)) ++ map int_word m.globals

abbrev pub import_slots : ℕ → List program.ProgramImport → List Import
import_slots s [] = []
import_slots s (i ∷ is) = record { part = i.part; name = i.name; slot = s } ∷ import_slots (s + 2) is

-- own procedures are imported from the part itself
abbrev pub own_slots : List ℕ → ℕ → List Procedure → List Import
own_slots part s [] = []
own_slots part s (p ∷ ps) = record { part = part; name = p.name; slot = s } ∷ own_slots part (s + 2) ps

unfoldable pub imports_of : Program → List Import
imports_of m = import_slots 0 m.imports ++ own_slots m.name (2 * length m.imports) m.procs

-- ---- exports: all procedures, in the order of their names

abbrev pub export_into : Export → List Export → List Export
export_into e [] = e ∷ []
export_into e (x ∷ xs) = if name_lt e.name x.name then e ∷ x ∷ xs else x ∷ export_into e xs

abbrev pub exports_from : ℕ → List Procedure → List Export
exports_from o [] = []
exports_from o (p ∷ ps) =
    export_into (record { name = p.name; offset = o; shared = p.shared })
    (exports_from (o + size_of_proc p) ps)

unfoldable pub exports_of : Program → List Export
exports_of m = exports_from 2 m.procs

-- ---- rows at labels: t2 may be anything

abbrev pub label_row : List Kind
label_row =
    kind.Any ∷ kind.Any ∷ kind.Stk ∷ kind.DataCap ∷ kind.Any ∷ kind.Top ∷ kind.Any ∷ kind.Any
    ∷ kind.Any ∷ kind.Any ∷ kind.Any ∷ kind.Any ∷ kind.Any ∷ kind.Any ∷ kind.Any ∷ []

abbrev pub row_at_label : ℕ → KindRow
row_at_label o = record { offset = o; kinds = label_row }

-- ---- the component

abbrev pub literal_at_of : Program → Option ℕ
literal_at_of m = if part_calls m == 0 then None else Some LITERAL_AT

-- without return seals their base is 0
abbrev pub seal_base : Header → ℕ
seal_base head = if head.return_count == 0 then 0 else head.returns

unfoldable pub component_of : Program → ComponentFields
component_of m =
    let l = laid_of m in
    record {
      name = m.name;
      stack_base = m.stack;
      closure = m.header.closure;
      movable = m.header.movable;
      seals = record { base = seal_base m.header; count = m.header.return_count };
      linear = record { base = 0; count = 0 };
      code_base = m.header.code;
      code = l.code;
      data_base = m.header.data_base;
      data_words = first_data m;
      imports = imports_of m;
      exports = exports_of m;
      sites = l.sites;
      fail_at = Some FAIL_AT;
      literal_at = literal_at_of m;
      rows = map row_at_label l.labels;
    }

-- the component of a module is that of its program
abbrev pub compiled : ModuleFields → ComponentFields
compiled m = component_of (part_of m)
