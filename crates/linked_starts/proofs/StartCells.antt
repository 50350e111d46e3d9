-- Which addresses have a cell at a start: those of its regions, which are those of its spans.
use Rattle.std.proofs.Common.{◌≡◌, ℕ, Bool, true, false, List, Option, Some, None, refl, sym, ◌∙◌, inl, inr}
use Rattle.std.proofs.Common.{pos, map}
use Rattle.std.specs.Prelude.{IsSome, if◌then◌else◌}
use Rattle.std.specs.Option.{option_or}
use Rattle.std.proofs.lemmas.List.Sorted.{list_any-IsPermutation}
use Rattle.cap_words.specs.declared.Word.{Word}
use Rattle.cap_words.specs.declared.Word.TheVariants.{Int}
use Rattle.lcm_machine.specs.declared.cells.Span.{Span}
use Rattle.lcm_machine.specs.Spans.{in_span, in_spans}
use Rattle.linked_starts.specs.Parts.{PartSeen}
use Rattle.linked_starts.specs.Regions.{regions_of, region_span, in_regions, AreSpansOf}
use Rattle.linked_starts.specs.Start.{first_given, part_word, start_cell}
use Rattle.linked_starts.specs.Linked.{AreClosed}
use Rattle.linked_starts.proofs.Found.{given, given_by}
use Rattle.linked_starts.proofs.SortedSpans.{any_region, room}

pub spans_are_regions : (parts : List PartSeen) (size : ℕ) (spans : List Span) → AreSpansOf parts size spans
    → (a : ℕ) → in_spans a spans ≡ in_regions a (regions_of parts size)
spans_are_regions parts size spans are a =
    sym (list_any-IsPermutation (in_span a) (map region_span (regions_of parts size)) spans are.same)
    ∙ any_region a (regions_of parts size)

zero_in : (b : Bool) (w : Word) → (if b then Some (Int (pos 0)) else None) ≡ Some w → b ≡ true
zero_in true w h = refl
zero_in false w h = absurd cc

-- a cell lies in a region
pub cell_in_region : (parts : List PartSeen) (size a : ℕ) (w : Word) → AreClosed parts
    → start_cell parts size a ≡ Some w → in_regions a (regions_of parts size) ≡ true
unfolding start_cell
cell_in_region parts size a w closed h =
    elim (given_by (first_given (part_word parts a) parts)
    (if in_regions a (regions_of parts size) then Some (Int (pos 0)) else None) w h)
    as (λ _. in_regions a (regions_of parts size) ≡ true) [
      | inl found ↦
          (let g = given (part_word parts a) parts w found in
          room parts size closed g.index a g.item w g.at g.is)
      | inr z ↦ zero_in (in_regions a (regions_of parts size)) w z
    ]

-- and an address of a region has a cell
pub region_has_cell : (parts : List PartSeen) (size a : ℕ) → in_regions a (regions_of parts size) ≡ true
    → IsSome (start_cell parts size a)
unfolding start_cell
region_has_cell parts size a h = by_first (first_given (part_word parts a) parts)
  where
    by_first : (x : Option Word)
        → IsSome (option_or x (if in_regions a (regions_of parts size) then Some (Int (pos 0)) else None))
    by_first None = rw h refl
    by_first (Some w) = refl
