-- What parts start with: the word of each register and of each address.
use Rattle.std.specs.Prelude.{◌≡◌, ℕ, ◌+◌, ◌-◌, ◌==◌, nat_le, nat_eq, ◌&&◌, Bool, pos, List, [], ◌∷◌, length}
use Rattle.std.specs.Prelude.{find, slice_get, Option, Some, None, option_map, option_and_then, if◌then◌else◌}
use Rattle.std.specs.Prelude.{codes, IsTrue}
use Rattle.std.specs.List.{AllPairs}
use Rattle.std.specs.Option.{option_or}
use Rattle.std.specs.Cmp.Lexicographic.{pointwise}
use Rattle.cap_words.specs.declared.Word.{Word}
use Rattle.cap_words.specs.declared.Word.TheVariants.{Int, Mem, Sealed as SealedWord}
use Rattle.cap_words.specs.declared.Sealable.TheVariants.{Mem as MemIn}
use Rattle.cap_words.specs.declared.Perm.TheVariants.{Rw, Rx, Rwx}
use Rattle.cap_words.specs.declared.Lin.TheVariants.{Normal, Linear}
use Rattle.cap_words.specs.declared.CapFields.{CapFields}
use Rattle.component_file.specs.declared.component.ComponentFields.{ComponentFields}
use Rattle.component_file.specs.declared.component.Import.{Import}
use Rattle.component_file.specs.declared.component.Export.{Export}
use Rattle.component_file.specs.Limits.{name_lt}
use Rattle.lcm_machine.specs.declared.cells.Span.{Span}
use Rattle.lcm_isa.specs.declared.Reg.TheVariants.{Pc, Dat, Stk}
use Rattle.lcm_machine.specs.declared.Place.TheVariants.{R}
use Rattle.lcm_machine.specs.Maps.{Regs, State}
use Rattle.lcm_machine.specs.Row.{put}
use Rattle.lcm_machine.specs.Cells.{cell}
use Rattle.lcm_machine.specs.Spans.{zero_regs}
use Rattle.lcm_machine.specs.Run.{Run}
use Rattle.linked_starts.specs.Parts.{PartSeen}
use Rattle.linked_starts.specs.Regions.{addresses, regions_of, in_regions, AreSpansOf}

-- what f gives of the first item of which it gives something
abbrev pub first_given : {X Y : Type 0} → (X → Option Y) → List X → Option Y
first_given f [] = None
first_given f (x ∷ xs) = option_or (f x) (first_given f xs)

-- ---- who is meant by names

-- an export, and the part that has it
pub record Exported : Type 0 where
  pub part : PartSeen
  pub export : Export

abbrev pub same_name : List ℕ → List ℕ → Bool
same_name a b = pointwise nat_eq a b

abbrev pub exported_by : PartSeen → Export → Exported
exported_by p e = record { part = p; export = e }

-- the first export of a part that passes a test
abbrev pub export_that : (Export → Bool) → PartSeen → Option Exported
export_that test p = option_map (exported_by p) (find test p.component.exports)

-- each export's name is below those after it
abbrev pub NamesAscend : List Export → Type 0
NamesAscend exports = AllPairs (λ a b. IsTrue (name_lt a.name b.name)) exports

abbrev pub part_named : List PartSeen → List ℕ → Option PartSeen
part_named parts name = find (λ p. same_name p.component.name name) parts

-- what an import names
abbrev pub imported : List PartSeen → Import → Option Exported
imported parts i = option_and_then (export_that (λ e. same_name e.name i.name)) (part_named parts i.part)

-- it is shared under the name main
abbrev pub is_main : Export → Bool
is_main e = e.shared && same_name e.name (codes "main")

-- the first export that is
abbrev pub main_of : List PartSeen → Option Exported
main_of parts = first_given (export_that is_main) parts

-- ---- capabilities

-- over the part's whole code, at the export's address; trusted code can't be written
abbrev pub code_of : Exported → CapFields
code_of x =
    let c = x.part.component in
    record {
      perm = if x.part.trusted then Rx else Rwx;
      lin = Normal;
      base = c.code_base;
      end = c.code_base + length c.code - 1;
      addr = pos (c.code_base + x.export.offset);
    }

-- over the part's whole data, at its base
abbrev pub data_of : PartSeen → CapFields
data_of p =
    let c = p.component in
    record {
      perm = Rw;
      lin = Normal;
      base = c.data_base;
      end = c.data_base + length c.data_words - 1;
      addr = pos c.data_base;
    }

-- the two halves of an export, sealed under its part's closure seal
abbrev pub code_half : Exported → Word
code_half x = SealedWord x.part.component.closure (MemIn (code_of x))

abbrev pub data_half : Exported → Word
data_half x = SealedWord x.part.component.closure (MemIn (data_of x.part))

-- over a whole stack, at its end
abbrev pub whole_stack_cap : Span → CapFields
whole_stack_cap s = record { perm = Rw; lin = Linear; base = s.base; end = s.end; addr = pos s.end }

abbrev pub stack_of : ℕ → ℕ → CapFields
stack_of base size = whole_stack_cap (addresses base size)

-- ---- memory

-- what an import puts at an offset of its part's data: the code half at its slot, the data half after it
abbrev pub slot_word : List PartSeen → ℕ → Import → Option Word
slot_word parts o i =
    if i.slot == o then option_map code_half (imported parts i)
    else (if i.slot + 1 == o then option_map data_half (imported parts i) else None)

-- the word at an offset of a part's data: that of an import, and else its own
abbrev pub data_word : List PartSeen → ComponentFields → ℕ → Option Word
data_word parts c o = option_or (first_given (slot_word parts o) c.imports) (slice_get c.data_words o)

-- what stands at offsets, from an address on
abbrev pub from : ℕ → (ℕ → Option Word) → ℕ → Option Word
from base f a = if nat_le base a then f (a - base) else None

-- the word of a part's code or data at an address
unfoldable pub part_word : List PartSeen → ℕ → PartSeen → Option Word
part_word parts a p =
    let c = p.component in
    option_or (from c.code_base (slice_get c.code) a) (from c.data_base (data_word parts c) a)

-- each address of a region has a cell: the word of code or data, and else, in linear areas and on the stack,
-- integer 0
unfoldable pub start_cell : List PartSeen → ℕ → ℕ → Option Word
start_cell parts size a =
    option_or (first_given (part_word parts a) parts)
    (if in_regions a (regions_of parts size) then Some (Int (pos 0)) else None)

-- where the stack begins: at the first part's stack base
abbrev pub stack_base_of : List PartSeen → ℕ
stack_base_of [] = 0
stack_base_of (p ∷ ps) = p.component.stack_base

-- ---- registers

-- pc is main's code half, unsealed, data is its data half, unsealed, stk is the stack; all else is integer 0
unfoldable pub start_regs : List PartSeen → ℕ → Exported → Regs Word
start_regs parts size main = record (zero_regs (λ w. w)) {
  pc = Mem (code_of main);
  dat = Mem (data_of main.part);
  stk = Mem (stack_of (stack_base_of parts) size);
}

-- those three registers of a state, set
abbrev pub with_stack : State Word → Span → State Word
with_stack s stack = put s (R Stk) (Mem (whole_stack_cap stack))

abbrev pub registered : State Word → Exported → Span → State Word
registered s main stack =
    with_stack (put (put s (R Pc) (Mem (code_of main))) (R Dat) (Mem (data_of main.part))) stack

-- registers and cells are those, no step was made, and it hasn't ended
pub record IsStart (parts : List PartSeen) (size : ℕ) (s : Run) : Type 0 where
  pub main : Exported
  pub main_is : main_of parts ≡ Some main
  pub regs : s.maps.regs ≡ start_regs parts size main
  pub cells : (a : ℕ) → cell s.maps.cells a ≡ start_cell parts size a
  pub spans : AreSpansOf parts size s.maps.spans
  pub count : s.count ≡ 0
  pub end : s.end ≡ None
