use Rattle.std.proofs.Common.{◌≡◌, ◌≤◌, ◌^◌, take}
use Rattle.std.specs.List.{fold}
use Rattle.linked_starts.specs.Regions.{stack_span}
use Rattle.linked_starts.specs.Standing.{behind_stack, past_fixed}
use Rattle.component_linker.proofs.placed.free_of.Given as goal

abbrev pub invariant-loop-index : goal.invariant-loop-index
invariant-loop-index l = record {
  is : l.free ≡ fold past_fixed (behind_stack (stack_span l.parts l.stack)) (take l.index l.parts);
  small : (l.free.address ≤ 2 ^ 21) × (l.free.seal ≤ 2 ^ 21);
}
