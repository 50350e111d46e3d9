-- The regions of memory that parts and the stack take.
use Rattle.std.specs.Prelude.{◌⊎◌, ℕ, ◌+◌, ◌-◌, ◌≤◌, ◌==◌, ◌&&◌, nat_le, Bool, true, false, List, [], ◌∷◌}
use Rattle.std.specs.Prelude.{◌++◌, length, map, Option, Some, None, if◌then◌else◌}
use Rattle.std.specs.List.{flat_map, list_any}
use Rattle.std.specs.List.Sorted.{IsPermutation, IsNonDecreasingBy}
use Rattle.cap_words.specs.declared.TheConstants.{LONGEST_STRETCH}
use Rattle.lcm_machine.specs.declared.cells.Span.{Span}
use Rattle.lcm_machine.specs.Regions.{Region}
use Rattle.linked_starts.specs.Parts.{PartSeen}

-- so many addresses from a first one on, at least one
abbrev pub addresses : ℕ → ℕ → Span
addresses base count = record { base = base; end = base + count - 1 }

-- none are no span
abbrev pub span_of : ℕ → ℕ → Option Span
span_of base count = if count == 0 then None else Some (addresses base count)

abbrev pub code_span : PartSeen → Option Span
code_span p = span_of p.component.code_base (length p.component.code)

abbrev pub data_span : PartSeen → Option Span
data_span p = span_of p.component.data_base (length p.component.data_words)

abbrev pub linear_span : PartSeen → Option Span
linear_span p = span_of p.component.linear.base p.component.linear.count

-- a stack has 2 to 65,536 words
abbrev pub is_stack_size : ℕ → Bool
is_stack_size size = nat_le 2 size && nat_le size LONGEST_STRETCH

-- the stack begins at the first part's stack base
abbrev pub stack_span : List PartSeen → ℕ → Option Span
stack_span [] size = None
stack_span (p ∷ ps) size = if is_stack_size size then span_of p.component.stack_base size else None

-- ---- as regions: a linear area and a stack are linear, code and data are not

abbrev pub region : Bool → Option Span → List Region
region linear None = []
region linear (Some s) = record { base = s.base; end = s.end; linear = linear } ∷ []

abbrev pub part_regions : PartSeen → List Region
part_regions p = region false (code_span p) ++ region false (data_span p) ++ region true (linear_span p)

-- those of the parts in their order, and last the stack
unfoldable pub regions_of : List PartSeen → ℕ → List Region
regions_of parts size = flat_map part_regions parts ++ region true (stack_span parts size)

-- ---- what is said of regions

-- one ends at least one address before the other begins
abbrev pub Apart : Region → Region → Type 0
Apart r q = (r.end + 2 ≤ q.base) ⊎ (q.end + 2 ≤ r.base)

-- an address of a region
abbrev pub in_region : ℕ → Region → Bool
in_region a r = nat_le r.base a && nat_le a r.end

abbrev pub in_regions : ℕ → List Region → Bool
in_regions a rs = list_any (in_region a) rs

-- the addresses of a region
abbrev pub region_span : Region → Span
region_span r = record { base = r.base; end = r.end }

-- those of the regions of parts, and a stack's
abbrev pub spans_with : List PartSeen → Span → List Span
spans_with parts stack = map region_span (flat_map part_regions parts) ++ stack ∷ []

-- these are the spans of all regions, ascending
pub record AreSpansOf (parts : List PartSeen) (size : ℕ) (spans : List Span) : Type 0 where
  pub same : IsPermutation (map region_span (regions_of parts size)) spans
  pub ascend : IsNonDecreasingBy (λ s. s.base) spans
