-- The pairs that linked sources have are those that they name.
use Rattle.std.specs.Prelude.{◌≡◌, ℕ, List, slice_get, Some}
use Rattle.component_file.specs.declared.component.Import.{Import}
use Rattle.linked_starts.specs.Parts.{PartSeen}
use Rattle.linked_starts.specs.Start.{Exported, imported, code_half, data_half}
use Rattle.overlay_machine.specs.declared.words.OWord.{OWord}
use Rattle.overlay_machine.specs.declared.words.OWord.TheVariants.{Plain}
use Rattle.proc_language.specs.declared.module.ModuleFields.{ModuleFields}
use Rattle.proc_language.specs.declared.module.Import.{Import as ModuleImport}
use Rattle.proc_language.specs.declared.module.Proc.{Proc}
use Rattle.proc_semantics.specs.Marked.{PairHalf, CodeHalf, DataHalf}
use Rattle.source_starts.specs.Links.{Linking, overlay_link}
use Rattle.source_starts.specs.Sources.{LinkedSources}
use Rattle.source_starts.specs.Words.{slots_of}

-- an import of a name from a part of a name
abbrev pub by_name : List ℕ → List ℕ → Import
by_name part name = record { part = part; name = name; slot = 0 }

-- a half of an export's pair
abbrev pub exported_half : Exported → PairHalf → OWord
exported_half e CodeHalf = Plain (code_half e)
exported_half e DataHalf = Plain (data_half e)

-- two words are the pair of the export of a name in the linked part of a name
abbrev pub IsPairNamed : List PartSeen → List ℕ → List ℕ → (PairHalf → OWord) → Type 0
IsPairNamed parts part name words =
    (e : Exported) × (imported parts (by_name part name) ≡ Some e)
    × ((x : PairHalf) → words x ≡ exported_half e x)

-- the pair of each import of a source is that of the export that it names, in the part that it names; and the
-- pair of each procedure is that of the export of its name in its own part
pub record SlotsAreNamed (modules : List ModuleFields) (a : Linking) : Type 0 where
  pub imports : (i k : ℕ) (m : ModuleFields) (n : ModuleImport) → slice_get modules i ≡ Some m
      → slice_get m.imports k ≡ Some n
      → IsPairNamed (overlay_link a).parts n.part.text n.name.text ((slots_of modules a).imported i k)
  pub own : (i j : ℕ) (m : ModuleFields) (p : Proc) → slice_get modules i ≡ Some m
      → slice_get m.procs j ≡ Some p
      → IsPairNamed (overlay_link a).parts m.name.text p.name.text ((slots_of modules a).own i j)

-- of all linked sources, among the parts where they are placed
abbrev pub SlotsNamed : Type 0
SlotsNamed = (a : LinkedSources) → SlotsAreNamed a.modules a.link
