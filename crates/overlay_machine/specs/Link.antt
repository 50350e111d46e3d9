-- What was linked: the accepted parts with a size of stack, and the layout of the overlay that came of them.
use Rattle.std.specs.Prelude.{◌≡◌, ℕ, ◌+◌, ◌-◌, ◌≤◌, Bool, true, false, ◌&&◌, not, is_some, List, length}
use Rattle.std.specs.Prelude.{slice_get, Some, None}
use Rattle.std.specs.List.{Contains}
use Rattle.cap_words.specs.declared.Word.{Word}
use Rattle.lcm_machine.specs.Regions.{Region}
use Rattle.lcm_machine.specs.Cells.{cell}
use Rattle.call_sequence.specs.SequenceRuns.{IsOutsideRange}
use Rattle.linked_starts.specs.Parts.{PartSeen}
use Rattle.linked_starts.specs.Regions.{code_span, data_span, linear_span, region, regions_of, in_regions}
use Rattle.call_sequence.specs.Holds.{Ranges}
use Rattle.trusted_border.specs.declared.layout.Layout.{Layout}
use Rattle.overlay_machine.specs.declared.words.OWord.TheVariants.{Plain}
use Rattle.overlay_machine.specs.State.{OpenFrame, Cells, framed}

pub record Link : Type 0 where
  pub parts : List PartSeen
  pub size : ℕ
  pub layout : Layout

abbrev pub IsTrusted : Link → PartSeen → Type 0
IsTrusted g p = Contains g.parts p × (p.trusted ≡ true)

abbrev pub IsUntrusted : Link → PartSeen → Type 0
IsUntrusted g p = Contains g.parts p × (p.trusted ≡ false)

-- ---- memory

-- the regions of all parts, and the stack
abbrev pub regions : Link → List Region
regions g = regions_of g.parts g.size

-- where a part's code and data lie, and where its stack begins
abbrev pub ranges_of : PartSeen → Ranges
ranges_of p =
    let c = p.component in
    record {
      code_base = c.code_base;
      code_last = c.code_base + length c.code - 1;
      data_base = c.data_base;
      data_last = c.data_base + length c.data_words - 1;
      stack_base = c.stack_base;
    }

abbrev pub code_region : PartSeen → Region
code_region p = let r = ranges_of p in record { base = r.code_base; end = r.code_last; linear = false }

abbrev pub data_region : PartSeen → Region
data_region p = let r = ranges_of p in record { base = r.data_base; end = r.data_last; linear = false }

abbrev pub stack_region : Layout → Region
stack_region l = record { base = l.stack.base; end = l.stack.end; linear = true }

-- The regions that untrusted code may use, and whether they may run: the code, the data and the linear area
-- of an untrusted part, and the stack.
pub data IsUsable (g : Link) : Region → Bool → Type 0 where
  own_code : (p : PartSeen) (r : Region) → IsUntrusted g p → Contains (region false (code_span p)) r
      → IsUsable g r true
  own_data : (p : PartSeen) (r : Region) → IsUntrusted g p → Contains (region false (data_span p)) r
      → IsUsable g r false
  own_linear : (p : PartSeen) (r : Region) → IsUntrusted g p → Contains (region true (linear_span p)) r
      → IsUsable g r false
  the_stack : IsUsable g (stack_region g.layout) false

-- an address outside the code of each trusted part
abbrev pub IsOpenAt : Link → ℕ → Type 0
IsOpenAt g a = (p : PartSeen) → IsTrusted g p → IsOutsideRange a (ranges_of p).code_base
    (ranges_of p).code_last

-- an address of the stack that is in no frame
abbrev pub IsStackCell : Link → List OpenFrame → ℕ → Type 0
IsStackCell g fs a = (g.layout.stack.base ≤ a) × (a ≤ g.layout.stack.end) × (framed fs a ≡ None)

-- whether an address has a cell: it is of a region, and in no frame
abbrev pub has_cell : Link → List OpenFrame → ℕ → Bool
has_cell g fs a = in_regions a (regions g) && not (is_some (framed fs a))

-- a part's code stands in memory as it was linked
abbrev pub CodeIn : PartSeen → Cells → Type 0
CodeIn p m =
    (o : ℕ) (w : Word) → slice_get p.component.code o ≡ Some w
    → cell m (p.component.code_base + o) ≡ Some (Plain w)
