use Rattle.std.proofs.Common.{◌≡◌, map, drop}
use Rattle.proc_names.specs.Faults.{first, earlier}
use Rattle.proc_names.specs.NameFaults.{again}
use Rattle.proc_names.proofs.repeats.again.Given as goal

abbrev pub invariant-loop-item : goal.invariant-loop-item
invariant-loop-item g l =
    let name_of = g.T.Named.name_of in
    earlier l.found (first (again l.x (map name_of (drop l.item-index l.items))))
    ≡ first (again l.x (map name_of l.items))
