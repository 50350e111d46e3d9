-- What the making of a start rests on: of each part by itself, and of all with the stack size.
use Rattle.std.specs.Prelude.{◌≡◌, ◌⊎◌, ℕ, ◌+◌, ◌<◌, ◌≤◌, true, false, IsTrue, IsSome, List, length}
use Rattle.std.specs.Prelude.{slice_get, Some}
use Rattle.std.specs.List.{AllPairs}
use Rattle.cap_words.specs.declared.TheConstants.{LAST_PLACE}
use Rattle.cap_words.specs.declared.Word.{Word}
use Rattle.cap_words.specs.declared.Word.TheVariants.{Mem}
use Rattle.cap_words.specs.declared.CapFields.{CapFields}
use Rattle.cap_words.specs.Linear.{lin_is}
use Rattle.component_file.specs.declared.component.ComponentFields.{ComponentFields}
use Rattle.component_file.specs.declared.component.Import.{Import}
use Rattle.component_file.specs.Limits.{IsComponent}
use Rattle.component_check.specs.Rules.{words}
use Rattle.linked_starts.specs.declared.TheConstants.{MOST_PARTS}
use Rattle.linked_starts.specs.Parts.{PartSeen}
use Rattle.linked_starts.specs.Regions.{regions_of, Apart, is_stack_size}
use Rattle.linked_starts.specs.Start.{imported, main_of, stack_base_of, part_word}

-- so many addresses from a first one on have the whole range
abbrev pub HasRange : ℕ → ℕ → CapFields → Type 0
HasRange base count m = (base ≤ m.base) × (m.end < base + count)

-- a range of the own code or data, not linear, or a linear one of the own linear area
abbrev pub IsOwn : ComponentFields → CapFields → Type 0
IsOwn c m =
    ((lin_is m.lin ≡ false) × HasRange c.code_base (length c.code) m)
    ⊎ (((lin_is m.lin ≡ false) × HasRange c.data_base (length c.data_words) m)
    ⊎ ((lin_is m.lin ≡ true) × HasRange c.linear.base c.linear.count m))

-- one import after another: both of its words are in the data, and they are above those of the one before
abbrev pub SlotIn : ComponentFields → Import → Type 0
SlotIn c i = i.slot + 1 < length c.data_words

abbrev pub SlotsPart : Import → Import → Type 0
SlotsPart i j = i.slot + 2 ≤ j.slot

-- linear capabilities over no common address
abbrev pub LinearApart : CapFields → CapFields → Type 0
LinearApart m l = lin_is m.lin ≡ true → lin_is l.lin ≡ true → (m.end < l.base) ⊎ (l.end < m.base)

-- what a part keeps by itself
pub record Kept (p : PartSeen) : Type 0 where
  pub limits : IsComponent p.component
  -- code, data and linear area end within the address space
  pub code_end : p.component.code_base + length p.component.code ≤ LAST_PLACE + 1
  pub data_end : p.component.data_base + length p.component.data_words ≤ LAST_PLACE + 1
  pub linear_end : p.component.linear.base + p.component.linear.count ≤ LAST_PLACE + 1
  -- slots lie within the data, and no two share a word
  pub slots_in : (k : ℕ) (i : Import) → slice_get p.component.imports k ≡ Some i → SlotIn p.component i
  pub slots_apart : (k : ℕ) (i j : Import) → slice_get p.component.imports k ≡ Some i
      → slice_get p.component.imports (k + 1) ≡ Some j → SlotsPart i j
  -- memory capabilities among the words are over own areas, and no two linear ones over one address
  pub own : (k : ℕ) (m : CapFields) → slice_get (words p.component) k ≡ Some (Mem m) → IsOwn p.component m
  pub once : (k n : ℕ) (m l : CapFields) → k < n
      → slice_get (words p.component) k ≡ Some (Mem m) → slice_get (words p.component) n ≡ Some (Mem l)
      → LinearApart m l
  -- the sites of a trusted part lie within its code
  pub sites_in : p.trusted ≡ true → (k o : ℕ) → slice_get p.component.sites k ≡ Some o
      → o < length p.component.code

-- what a part imports is there
abbrev pub ImportsFound : List PartSeen → PartSeen → Type 0
ImportsFound parts p =
    (n : ℕ) (i : Import) → slice_get p.component.imports n ≡ Some i → IsSome (imported parts i)

-- each part keeps what it does by itself, and what it imports is there
pub record AreClosed (parts : List PartSeen) : Type 0 where
  pub kept : (k : ℕ) (p : PartSeen) → slice_get parts k ≡ Some p → Kept p
  pub found : (k n : ℕ) (p : PartSeen) (i : Import) → slice_get parts k ≡ Some p
      → slice_get p.component.imports n ≡ Some i → IsSome (imported parts i)

-- what parts keep together, with a stack size
pub record Linked (parts : List PartSeen) (size : ℕ) : Type 0 where
  pub few : length parts ≤ MOST_PARTS
  pub closed : AreClosed parts
  pub apart : AllPairs Apart (regions_of parts size)
  pub size_fits : IsTrue (is_stack_size size)
  pub stack_end : stack_base_of parts + size ≤ LAST_PLACE + 1
  pub main : IsSome (main_of parts)

-- no address is in the code or data of two parts
pub record AreSeparate (parts : List PartSeen) : Type 0 where
  pub apart : (k n a : ℕ) (p q : PartSeen) (w v : Word) → k < n
      → slice_get parts k ≡ Some p → slice_get parts n ≡ Some q
      → part_word parts a p ≡ Some w → part_word parts a q ≡ Some v → ⊥
