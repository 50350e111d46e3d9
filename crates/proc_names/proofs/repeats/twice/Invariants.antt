use Rattle.std.proofs.Common.{◌≡◌, map, length}
use Rattle.proc_names.specs.Faults.{first, earlier}
use Rattle.proc_names.specs.NameFaults.{twice}
use Rattle.proc_names.proofs.repeats.twice.Given as goal

abbrev pub invariant-loop-item : goal.invariant-loop-item
invariant-loop-item g l =
    let name_of = g.T.Named.name_of in
    earlier l.found (first (twice (map name_of l.rest))) ≡ first (twice (map name_of l.fn.items))

abbrev pub decreases-loop-item : goal.decreases-loop-item
decreases-loop-item g l = length l.rest
