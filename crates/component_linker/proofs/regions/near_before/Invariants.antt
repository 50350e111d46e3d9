use Rattle.std.proofs.Common.{◌≡◌, take, false}
use Rattle.std.specs.List.{list_any}
use Rattle.linked_starts.specs.Links.{near_part}
use Rattle.component_linker.proofs.regions.near_before.Given as goal

abbrev pub invariant-loop-i : goal.invariant-loop-i
invariant-loop-i l = list_any (near_part l.s) (take l.i l.parts) ≡ false
