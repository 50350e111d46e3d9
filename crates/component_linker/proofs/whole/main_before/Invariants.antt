use Rattle.std.proofs.Common.{◌≡◌, take, false}
use Rattle.std.specs.List.{list_any}
use Rattle.linked_starts.specs.Links.{has_main}
use Rattle.component_linker.proofs.whole.main_before.Given as goal

abbrev pub invariant-loop-i : goal.invariant-loop-i
invariant-loop-i l = list_any has_main (take l.i l.parts) ≡ false
