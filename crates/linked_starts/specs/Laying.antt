-- Words put into cells.
use Rattle.std.specs.Prelude.{◌≡◌, ℕ, ◌+◌, ◌<◌, ◌≤◌, ◌==◌, List, slice_get, Option, Some, None, IsSome}
use Rattle.std.specs.Prelude.{if◌then◌else◌}
use Rattle.std.specs.Option.{option_or}
use Rattle.cap_words.specs.declared.Word.{Word}
use Rattle.lcm_machine.specs.Cells.{cell}
use Rattle.lcm_machine.specs.Run.{Run}
use Rattle.linked_starts.specs.Parts.{PartSeen}
use Rattle.linked_starts.specs.Start.{Exported, first_given, from, code_half, data_half, slot_word}
use Rattle.linked_starts.specs.Start.{part_word}

-- so many addresses from a first one on have cells
abbrev pub HasCells : ℕ → ℕ → Run → Type 0
HasCells base count s = (a : ℕ) → base ≤ a → a < base + count → IsSome (cell s.maps.cells a)

-- each address at which f gives a word has a cell
abbrev pub HasCellsFor : (ℕ → Option Word) → Run → Type 0
HasCellsFor f s = (a : ℕ) (w : Word) → f a ≡ Some w → IsSome (cell s.maps.cells a)

-- each address of the code and data of each part has a cell
abbrev pub HasCellsOf : List PartSeen → Run → Type 0
HasCellsOf parts s =
    (k a : ℕ) (p : PartSeen) (w : Word) → slice_get parts k ≡ Some p → part_word parts a p ≡ Some w
    → IsSome (cell s.maps.cells a)

-- each cell has what f gives, where it gives a word, and else what it had; all else is as before
pub record Lays (f : ℕ → Option Word) (old new : Run) : Type 0 where
  pub cells : (a : ℕ) → cell new.maps.cells a ≡ option_or (f a) (cell old.maps.cells a)
  pub rest : new ≡ record old { maps = record old.maps { cells = new.maps.cells } }

-- a word at one address
abbrev pub single : ℕ → Word → ℕ → Option Word
single at w a = if a == at then Some w else None

-- the halves of an export at one address and the next
abbrev pub halves : ℕ → Exported → ℕ → Option Word
halves at x a = option_or (single (at + 1) (data_half x) a) (single at (code_half x) a)

-- what imports put into a part's data
abbrev pub import_words : List PartSeen → PartSeen → ℕ → Option Word
import_words parts p =
    from p.component.data_base (λ o. first_given (slot_word parts o) p.component.imports)
