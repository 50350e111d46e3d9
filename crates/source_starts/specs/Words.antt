-- Whom linked sources call, with which words, from where.
use Rattle.std.specs.Prelude.{ℕ, ◌+◌, ◌*◌, pos, List, length, map, slice_get, Option, Some, None, unwrap_or}
use Rattle.cap_words.specs.declared.Word.TheVariants.{Int}
use Rattle.lcm_machine.specs.Cells.{cell}
use Rattle.linked_starts.specs.Parts.{PartSeen}
use Rattle.linked_starts.specs.Standing.{placed}
use Rattle.linked_starts.specs.Started.{StartSeen}
use Rattle.overlay_machine.specs.declared.words.OWord.{OWord}
use Rattle.overlay_machine.specs.declared.words.OWord.TheVariants.{Plain}
use Rattle.overlay_machine.specs.Starting.{overlay_at}
use Rattle.proc_language.specs.declared.module.ModuleFields.{ModuleFields}
use Rattle.proc_program.specs.Lower.{part_of}
use Rattle.proc_semantics.specs.Values.{home_part, proc_in, import_in}
use Rattle.proc_semantics.specs.Marked.{Marks, PairHalf, CodeHalf, DataHalf}
use Rattle.source_laws.specs.Words.{WhenceTold}
use Rattle.source_starts.specs.Links.{Linking}
use Rattle.source_starts.specs.Sources.{trusted_parts, LinkedSources, world_of}

-- the words of the pairs that modules have: those that stand in the data of their parts at the start. The
-- pair of an import stands in the two words of its number, that of an own procedure after those of imports.
-- Where a module has no import or procedure of a number, integer 0 is read.
module _ (modules : List ModuleFields) (parts : List PartSeen) (s : StartSeen) where
  abbrev pub word_at_start : ℕ → OWord
  word_at_start a = unwrap_or (cell (overlay_at s).state.maps.cells a) (Plain (Int (pos 0)))

  abbrev pub slot_in : Option PartSeen → ℕ → OWord
  slot_in None d = Plain (Int (pos 0))
  slot_in (Some p) d = word_at_start (p.component.data_base + d)

  abbrev pub half_at : ℕ → PairHalf → ℕ
  half_at d CodeHalf = d
  half_at d DataHalf = d + 1

  abbrev pub imports_in : Option ModuleFields → ℕ
  imports_in None = 0
  imports_in (Some m) = length m.imports

  abbrev pub where_there : {A : Type 0} → Option A → OWord → OWord
  where_there None w = Plain (Int (pos 0))
  where_there (Some x) w = w

  abbrev pub slots : Marks OWord
  slots = record {
    own = λ i j x. where_there (proc_in (home_part (map part_of modules) i) j)
        (slot_in (slice_get (trusted_parts parts) i)
        (half_at (2 * (imports_in (slice_get modules i) + j)) x));
    imported = λ i k x. where_there (import_in (home_part (map part_of modules) i) k)
        (slot_in (slice_get (trusted_parts parts) i) (half_at (2 * k) x));
  }

-- in a link
abbrev pub slots_of : List ModuleFields → Linking → Marks OWord
slots_of modules a = slots modules (placed a.parts a.size) a.start

-- what leaves linked sources is what their refined meaning tells: whom they call, with which words, from
-- where
abbrev pub SourcesTellWords : Type 0
SourcesTellWords =
    (a : LinkedSources) → WhenceTold (slots_of a.modules a.link) (world_of a) a.size a.start
