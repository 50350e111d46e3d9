use Rattle.std.proofs.Common.{◌≡◌, ℕ, ◌<◌, ◌≤◌, ◌^◌, Some, None}
use Rattle.std.specs.Prelude.{slice_get}
use Rattle.component_check.specs.Places.{first_place}
use Rattle.linked_starts.specs.Parts.{PartSeen, IsPart}
use Rattle.linked_starts.specs.Links.{l10}
use Rattle.linked_starts.specs.Standing.{placed_from}
use Rattle.linked_starts.proofs.Offers.{free_at}
use Rattle.component_linker.proofs.placed.l10.Given as goal

abbrev pub invariant-loop-index : goal.invariant-loop-index
invariant-loop-index l = record {
  is : l.free ≡ free_at l.fn.first l.parts l.index;
  small : (l.free.address ≤ 2 ^ 21) × (l.free.seal ≤ 2 ^ 21);
  before : (p : ℕ) → p < l.index → first_place ((l10 (placed_from l.fn.first l.parts)).within p) ≡ None;
  kept : (k : ℕ) (q : PartSeen) → k < l.index → slice_get (placed_from l.fn.first l.parts) k ≡ Some q
      → IsPart q;
}
