use Rattle.std.proofs.Common.{◌≡◌, ◌≤◌, ◌^◌}
use Rattle.linked_starts.proofs.Offers.{free_at}
use Rattle.component_linker.proofs.placed.part_from.Given as goal

abbrev pub invariant-loop-k : goal.invariant-loop-k
invariant-loop-k l = record {
  is : l.free ≡ free_at l.fn.first l.parts l.k;
  small : (l.free.address ≤ 2 ^ 21) × (l.free.seal ≤ 2 ^ 21);
}
