-- The data of parts in the cells of a machine.
use Rattle.std.specs.Prelude.{◌≡◌, ◌≢◌, ℕ, ◌+◌, List, slice_get, Some}
use Rattle.cap_words.specs.declared.Word.{Word}
use Rattle.component_file.specs.declared.component.ComponentFields.{ComponentFields}
use Rattle.component_file.specs.declared.component.Import.{Import}
use Rattle.lcm_machine.specs.Cells.{cell}
use Rattle.lcm_machine.specs.Maps.{State}
use Rattle.lcm_machine.specs.Run.{Run}
use Rattle.linked_starts.specs.Parts.{PartSeen, IsPart}
use Rattle.linked_starts.specs.Pairs.{NoneIsBroken}
use Rattle.linked_starts.specs.Links.{rules_l}
use Rattle.linked_starts.specs.Start.{Exported, imported, code_half, data_half, IsStart}

-- from an address on stand the two halves of what an import names
pub record HalvesStand (parts : List PartSeen) (s : State Word) (i : Import) (at : ℕ) : Type 0 where
  pub names : Exported
  pub names_is : imported parts i ≡ Some names
  pub code : cell s.cells at ≡ Some (code_half names)
  pub behind : cell s.cells (at + 1) ≡ Some (data_half names)

-- an offset of a part's data that is neither an import's slot nor the word after one
abbrev pub IsOwnData : ComponentFields → ℕ → Type 0
IsOwnData c o = (n : ℕ) (i : Import) → slice_get c.imports n ≡ Some i → (i.slot ≢ o) × (i.slot + 1 ≢ o)

-- a part's data: in each import's slot the halves of what it names, and at each other offset the own word
pub record DataInCells (parts : List PartSeen) (s : State Word) (c : ComponentFields) : Type 0 where
  pub slots : (n : ℕ) (i : Import) → slice_get c.imports n ≡ Some i
      → HalvesStand parts s i (c.data_base + i.slot)
  pub own : (o : ℕ) (w : Word) → slice_get c.data_words o ≡ Some w → IsOwnData c o
      → cell s.cells (c.data_base + o) ≡ Some w

-- of every start of parts that were accepted and keep the rules L with some size of stack
abbrev pub DataStands : Type 0
DataStands =
    (parts : List PartSeen) (size : ℕ) (s : Run)
    → ((k : ℕ) (p : PartSeen) → slice_get parts k ≡ Some p → IsPart p)
    → NoneIsBroken (rules_l parts size) → IsStart parts size s
    → (k : ℕ) (p : PartSeen) → slice_get parts k ≡ Some p → DataInCells parts s.maps p.component
