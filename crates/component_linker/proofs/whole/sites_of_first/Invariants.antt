use Rattle.std.proofs.Common.{◌≡◌, ◌≤◌, ◌*◌, take}
use Rattle.std.specs.Prelude.{sum_by}
use Rattle.linked_starts.specs.Links.{trusted_sites}
use Rattle.component_linker.proofs.whole.sites_of_first.Given as goal

abbrev pub invariant-loop-i : goal.invariant-loop-i
invariant-loop-i l = record { is : l.sum ≡ sum_by trusted_sites (take l.i l.parts); few : l.sum ≤ 4096 * l.i }
